-- The trace of a run holds the lines of its events, and is passed by a judging from the same beginning.
use Rattle.std.proofs.Common.{◌≡◌, true, List, [], ◌∷◌, ◌++◌, Result, refl, ap, subst, ◌∙◌}
use Rattle.outside_io.specs.Content.{Held}
use Rattle.outside_acts.specs.Acts.{Act, Start, filed}
use Rattle.outside_acts.proofs.Algebra.{filed_joined}
use Rattle.cosim_check.specs.declared.verdict.Verdict.{Verdict}
use Rattle.hart_step.specs.declared.hart.Hart.{Hart}
use Rattle.hart_step.specs.Harts.{CoreState}
use Rattle.hart_step.specs.Told.{CoverHarts, CoversCore}
use Rattle.hart_step.proofs.ToldHarts.{hart_covers_itself}
use Rattle.job_words.specs.Job.{Judge, Turns}
use Rattle.stream_judge.specs.Judging.{most_records}
use Rattle.trace_law.specs.Runs.{run_events, traced_to}
use Rattle.trace_law.proofs.Runs.{trace_is_events_lem}
use Rattle.trace_law.proofs.ShownRuns.{traces_pass_lem}
use Rattle.turn_runs.specs.Run.{run, trace_lines}
use Rattle.dromajo.specs.declared.status.Status.{Status}
use Rattle.dromajo.specs.Jobs.{Begun, IsBegunOutcome, Outcome, after_acts, judged_outcome}
use Rattle.dromajo.specs.Laws.{OwnTracePasses}

-- a core covers itself
harts_cover : (xs : List Hart) → CoverHarts xs xs
harts_cover [] = tt
harts_cover (x ∷ xs) = (hart_covers_itself x, harts_cover xs)

core_covers : (core : CoreState) → CoversCore core core
core_covers core = record { harts = harts_cover core.harts; ram = refl; rom = refl }

pub own_trace_passes : OwnTracePasses
own_trace_passes = record {
  trace = λ held begin b input turns name outcome begins is.
      let ran = subst (λ (r : Result Begun Status). IsBegunOutcome (Turns turns (traced_to name)) input r outcome) begins is in
      let acts = Start name ∷ (run (traced_to name) input b.machine turns).acts in
      let whole : outcome.acts ≡ b.acts ++ acts = ap (λ (o : Outcome). o.acts) (ran.2 ∙ ap (after_acts b.acts) ran.1) in
      ap (λ (zs : List Act). filed zs held name) whole
      ∙ ap (λ (h : Held). h name) (filed_joined b.acts acts held)
      ∙ trace_is_events_lem name input b.machine turns (filed b.acts held);
  passes = λ held begin b input turns outcome begins fit bytes few is.
      let events = run_events input b.machine turns in
      let passes = (traces_pass_lem input b.machine turns b.machine.core bytes fit (core_covers b.machine.core)).whole most_records true few in
      let judged = subst (λ (r : Result Begun Status). IsBegunOutcome Judge (trace_lines events) r outcome) begins is in
      let whole = judged.2 ∙ ap (after_acts b.acts) (judged.1.2 ∙ ap (λ (v : Verdict). judged_outcome v judged.1.0) passes) in
      record { status = ap (λ (o : Outcome). o.status) whole; line = ap (λ (o : Outcome). o.line) whole };
}
