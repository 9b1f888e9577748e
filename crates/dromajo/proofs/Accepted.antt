-- What is never refused: the program's own files, seeds, and streams of allowed records.
use Rattle.std.proofs.Common.{◌≡◌, ℕ, List, [], IfSome, IsSome, Option, None, Some, Result, Ok, Err, refl, sym, ap, subst, ◌∙◌}
use Rattle.outside_io.specs.Content.{Held}
use Rattle.outside_acts.specs.Acts.{filed}
use Rattle.cosim_check.proofs.Allowed.{allowed_pass}
use Rattle.cosim_check.specs.declared.verdict.Verdict.{Verdict}
use Rattle.hart_turns.specs.declared.machine.TurnEnd.{TurnEnd}
use Rattle.hart_turns.specs.declared.machine.TurnEnd.TheVariants.{Goes, Ended, BadHost}
use Rattle.hart_turns.specs.Machine.{MachineState, cleared}
use Rattle.sim_config.specs.declared.values.Shape.{Shape}
use Rattle.checkpoint_run.specs.Saving.{ComesTo, IsSound, SaveRan, Saved, unsaved}
use Rattle.job_words.specs.Job.{FromCheckpoint, Judge, Save}
use Rattle.seed_start.specs.Seed.{start_of_seed}
use Rattle.stream_judge.specs.Judging.{IsPassing, most_records}
use Rattle.turn_runs.proofs.Windowless.{windowless_runs_go_on}
use Rattle.turn_runs.specs.Run.{Ran, no_logs, run}
use Rattle.dromajo.specs.declared.status.Status.{Status}
use Rattle.dromajo.specs.declared.status.Status.TheVariants.{Done}
use Rattle.dromajo.specs.Jobs.{Begun, IsBegunOutcome, Outcome, after_acts, begun, end_status, judged_outcome, machine_of, refusal_in, refused, save_status}
use Rattle.dromajo.specs.Laws.{AllowedStreamsAreDone, OwnFilesAccepted, SeedsAreDone}
use Rattle.dromajo.proofs.Restored.{save_restores}

-- ---- the files of a save

-- a run that ended saves nothing
none_saved : (ran : SaveRan) (first : Ran) → ran ≡ unsaved first → IsSome ran.saved → ⊥
none_saved ran first is saved = let none : IsSome (unsaved first).saved = subst (λ (r : SaveRan). IsSome r.saved) is saved in cc

-- the machine was saved only where none of the turns before ended the run
goes_where_saved : (name input : List ℕ) (first : Ran) (more : ℕ) (last : TurnEnd) (ran : SaveRan) → ComesTo name input first more last ran → IsSome ran.saved → last ≡ Goes
goes_where_saved name input first more Goes ran is saved = refl
goes_where_saved name input first more (Ended code) ran is saved = absurd (none_saved ran first is saved)
goes_where_saved name input first more (BadHost word) ran is saved = absurd (none_saved ran first is saved)

accepted_after : (turns : ℕ) (name : List ℕ) (more : ℕ) (input : List ℕ) (held : Held) (outcome : Outcome) (r : Result Begun Status) → IsBegunOutcome (Save turns name more) input r outcome
    → IsSome outcome.saved → IfSome outcome.saved IsSound → refusal_in (begun (filed outcome.acts held) (FromCheckpoint name)) ≡ None
accepted_after turns name more input held outcome (Err status) is saved sound =
    absurd (let some : IsSome (refused status).saved = subst (λ (o : Outcome). IsSome o.saved) is saved in cc)
accepted_after turns name more input held outcome (Ok b) is saved sound =
    let first = run no_logs input b.machine turns in
    let work = is.1 in
    let some : IsSome work.0.saved = subst (λ (o : Outcome). IsSome o.saved) (is.2 ∙ ap (after_acts b.acts) work.2) saved in
    let goes = goes_where_saved name input first more first.last work.0 work.1 some in
    ap refusal_in (save_restores turns name more b input outcome held (filed outcome.acts held) is sound refl goes)

pub own_files_accepted : OwnFilesAccepted
own_files_accepted held begin turns name more input outcome work is saved sound = accepted_after turns name more input held outcome (begun held begin) is saved sound

-- ---- seeds

-- what a save comes to where no turn ends: the machine is saved and goes on
goes_saved : (name input : List ℕ) (m : MachineState) (more : ℕ) (first : Ran) (end : TurnEnd) (ran : SaveRan) → m.shape.tohost ≡ 0 → first.machine.shape ≡ m.shape → end ≡ Goes → ComesTo name input first more end ran
    → (save_status ran.saved ran.last ran.made ≡ Done) × IsSome ran.saved
goes_saved name input m more first end ran off shape is comes =
    let whole = subst (λ (e : TurnEnd). ComesTo name input first more e ran) is comes in
    let none : (cleared first.machine).shape.tohost ≡ 0 = ap (λ (s : Shape). s.tohost) shape ∙ off in
    let second = windowless_runs_go_on no_logs input (cleared first.machine) more none in
    let ends : ran.last ≡ Goes = ap (λ (r : SaveRan). r.last) whole.2 ∙ second.goes in
    let saved : ran.saved ≡ Some (record { machine = first.machine; rom = whole.0 }) = ap (λ (r : SaveRan). r.saved) whole.2 in
    (ap (λ (s : Option Saved). save_status s ran.last ran.made) saved ∙ ap (λ (e : TurnEnd). end_status e ran.made) ends, subst IsSome (sym saved) refl)

pub seeds_are_done : SeedsAreDone
seeds_are_done = record {
  turns = λ held seed turns logs input outcome is.
      let m : MachineState = machine_of (start_of_seed seed) in
      let all = windowless_runs_go_on logs input m turns refl in
      ap (λ (o : Outcome). o.status) is.2 ∙ ap (λ (o : Outcome). o.status) is.1 ∙ ap (λ (e : TurnEnd). end_status e (run logs input m turns).made) all.goes;
  save = λ held seed turns name more input outcome is.
      let m : MachineState = machine_of (start_of_seed seed) in
      let all = windowless_runs_go_on no_logs input m turns refl in
      let comes = goes_saved name input m more (run no_logs input m turns) (run no_logs input m turns).last is.1.0 refl all.shape all.goes is.1.1 in (
        ap (λ (o : Outcome). o.status) is.2 ∙ ap (λ (o : Outcome). o.status) is.1.2 ∙ comes.0,
        subst (λ (o : Outcome). IsSome o.saved) (sym (is.2 ∙ ap (after_acts []) is.1.2)) comes.1,
      );
}

-- ---- streams

pub allowed_streams_are_done : AllowedStreamsAreDone
allowed_streams_are_done held begin b input past outcome begins passes few is =
    let verdict = allowed_pass b.machine.core b.machine.shape.tohost most_records input past few passes in
    let of = subst (λ (r : Result Begun Status). IsBegunOutcome Judge input r outcome) begins is in
    let whole = of.2 ∙ ap (after_acts b.acts) (of.1.2 ∙ ap (λ (v : Verdict). judged_outcome v of.1.0) verdict) in
    record {
      passes = record { status = ap (λ (o : Outcome). o.status) whole; line = ap (λ (o : Outcome). o.line) whole };
      count = of.1.0;
      whole = of.1.1.whole (subst IsPassing (sym verdict) tt);
      read = ap (λ (o : Outcome). o.acts) whole;
    }
