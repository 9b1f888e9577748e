-- What a job saved is restored: the checkpoint in the files that it leaves begins as the machine that was saved.
use Rattle.std.proofs.Common.{◌≡◌, ℕ, List, ◌++◌, Option, Some, None, Result, Ok, IfSome, refl, sym, ap, subst, ◌∙◌}
use Rattle.outside_io.specs.Content.{Held, Told}
use Rattle.outside_acts.specs.Acts.{Act, filed}
use Rattle.outside_acts.specs.World.{World}
use Rattle.outside_acts.proofs.Algebra.{filed_joined}
use Rattle.sim_config.specs.declared.values.Shape.{Shape}
use Rattle.hart_turns.specs.declared.machine.TurnEnd.{TurnEnd}
use Rattle.hart_turns.specs.declared.machine.TurnEnd.TheVariants.{Goes, Ended, BadHost}
use Rattle.hart_turns.specs.Boot.{Booted}
use Rattle.hart_turns.specs.Machine.{MachineState, cleared}
use Rattle.image_saver.specs.Checkpoint.{debug_of}
use Rattle.image_saver.specs.Saving.{save_acts}
use Rattle.job_words.specs.Job.{Job, Judge, Save, Turns, Work}
use Rattle.turn_runs.specs.Feeding.{pass_acts}
use Rattle.turn_runs.specs.Run.{Ran, no_logs, run}
use Rattle.checkpoint_run.specs.Laws.{RestoresTo}
use Rattle.checkpoint_run.specs.Saving.{ComesTo, IsRomOf, IsSound, SaveRan, Saved, saved_between}
use Rattle.checkpoint_run.proofs.Apart.{apart_keeps, run_apart}
use Rattle.checkpoint_run.proofs.Restored.{saved_is_restored}
use Rattle.dromajo.specs.declared.status.Status.{Status}
use Rattle.dromajo.specs.Jobs.{Begun, IsBegunOutcome, IsOutcome, Outcome, after_acts, begun_by_boot, restored, save_outcome}
use Rattle.dromajo.specs.TopCall.{BeginsAs, DidOutcome, JobRestores, Leaves, RestoresSaved, WorkRestores}

-- turns that log nothing write no file
unlogged : (input : List ℕ) (m : MachineState) (turns : ℕ) (held : Held) → filed (run no_logs input m turns).acts held ≡ held
unlogged input m turns held = λ i. λ name. apart_keeps name (run no_logs input m turns).acts held (run_apart name input m turns) i

-- ---- what the files are read as

abbrev begun_as : MachineState → List Act → Result Begun Status
begun_as m acts = Ok (record { machine = m; acts = acts })

begins_as : (held : Held) (name : List ℕ) (m : MachineState) → RestoresTo held name (cleared m) → BeginsAs held name m
begins_as held name m restores =
    let start = debug_of restores.checkpoint in
    ap restored restores.loads
    ∙ ap (λ (b : Booted). begun_by_boot start b.left b.fault) restores.boots.boots
    ∙ ap (λ (shape : Shape). begun_as (record (cleared m) { shape = shape; taken = start.taken }) (pass_acts start.taken)) (sym restores.boots.shape)
    ∙ ap (λ (n : ℕ). begun_as (record (cleared m) { taken = n }) (pass_acts n)) (sym restores.boots.taken)

-- ---- a work that saves

-- none of the turns before the save ended the run
saved_then : (name input : List ℕ) (first : Ran) (more : ℕ) (last : TurnEnd) (ran : SaveRan) → last ≡ Goes → ComesTo name input first more last ran
    → (rom : List ℕ) × IsRomOf first.machine rom × (ran ≡ saved_between name first rom (run no_logs input (cleared first.machine) more))
saved_then name input first more Goes ran is comes = comes
saved_then name input first more (Ended code) ran is comes = cc
saved_then name input first more (BadHost word) ran is comes = cc

sound_of : (saved : Option Saved) (s : Saved) → saved ≡ Some s → IfSome saved IsSound → IsSound s
sound_of None s is sound = cc
sound_of (Some t) s is sound = let same : t ≡ s = cc in subst IsSound same sound

-- the files after the acts of a beginning, of the turns before the save, of the save and of the turns after it
filed_saved : (begin first save : List Act) (input : List ℕ) (m : MachineState) (more : ℕ) (held : Held)
    → filed (begin ++ (first ++ (save ++ (run no_logs input m more).acts))) held ≡ filed save (filed first (filed begin held))
filed_saved begin first save input m more held =
    let second = (run no_logs input m more).acts in
    filed_joined begin (first ++ (save ++ second)) held
    ∙ filed_joined first (save ++ second) (filed begin held)
    ∙ filed_joined save second (filed first (filed begin held))
    ∙ unlogged input m more (filed save (filed first (filed begin held)))

pub save_restores : (turns : ℕ) (name : List ℕ) (more : ℕ) (b : Begun) (input : List ℕ) (outcome : Outcome) (held files : Held) → IsBegunOutcome (Save turns name more) input (Ok b) outcome
    → IfSome outcome.saved IsSound → files ≡ filed outcome.acts held → WorkRestores (Save turns name more) b.machine input files
save_restores turns name more b input outcome held files is sound files_are = λ goes.
    let first = run no_logs input b.machine turns in
    let work = is.1 in
    let ran = work.0 in
    let came = saved_then name input first more first.last ran goes work.1 in
    let rom = came.0 in
    let second = run no_logs input (cleared first.machine) more in
    let whole : outcome ≡ after_acts b.acts (save_outcome (saved_between name first rom second)) =
    is.2 ∙ ap (after_acts b.acts) (work.2 ∙ ap save_outcome came.2) in
    let fine : IsSound (record { machine = first.machine; rom = rom }) =
    sound_of outcome.saved (record { machine = first.machine; rom = rom }) (ap (λ (o : Outcome). o.saved) whole) sound in
    let before = filed first.acts (filed b.acts held) in
    let left : files ≡ filed (save_acts name first.machine rom) before =
    files_are ∙ ap (λ (o : Outcome). filed o.acts held) whole ∙ filed_saved b.acts first.acts (save_acts name first.machine rom) input (cleared first.machine) more held in
    begins_as files name first.machine
    (subst (λ (h : Held). RestoresTo h name (cleared first.machine)) (sym left) (saved_is_restored before name first.machine rom fine.fit fine.few came.1))

work_restores : (work : Work) (b : Begun) (input : List ℕ) (outcome : Outcome) (held files : Held) → IsBegunOutcome work input (Ok b) outcome
    → IfSome outcome.saved IsSound → files ≡ filed outcome.acts held → WorkRestores work b.machine input files
work_restores (Turns turns logs) b input outcome held files is sound files_are = tt
work_restores (Save turns name more) b input outcome held files is sound files_are = save_restores turns name more b input outcome held files is sound files_are
work_restores Judge b input outcome held files is sound files_are = tt

-- ---- a job

job_restores : (job : Option Job) (held : Held) (input : List ℕ) (outcome : Outcome) (files : Held) → IsOutcome job held input outcome
    → IfSome outcome.saved IsSound → files ≡ filed outcome.acts held → JobRestores job held input files
job_restores None held input outcome files is sound files_are = tt
job_restores (Some job) held input outcome files is sound files_are = λ b began.
    work_restores job.work b input outcome held files (subst (λ (r : Result Begun Status). IsBegunOutcome job.work input r outcome) began is) sound files_are

files_restore : (job : Option Job) (held : Held) (input : List ℕ) (outcome : Outcome) (a now : Option Held) → a ≡ Some held → IsOutcome job held input outcome
    → IfSome outcome.saved IsSound → Told a now (λ h h'. h' ≡ filed outcome.acts h) → IfSome now (λ files. JobRestores job held input files)
files_restore job held input outcome a None a_is is sound told = tt
files_restore job held input outcome None (Some files) a_is is sound told = cc
files_restore job held input outcome (Some h) (Some files) a_is is sound told =
    let same : h ≡ held = cc in
    job_restores job held input outcome files is sound (told ∙ ap (filed outcome.acts) same)

over_held : (a : Option Held) (l : Option (List ℕ)) (Says Then : Held → List ℕ → Type 0) → ((held : Held) (input : List ℕ) → a ≡ Some held → Says held input → Then held input)
    → IfSome a (λ held. IfSome l (λ input. Says held input)) → IfSome a (λ held. IfSome l (λ input. Then held input))
over_held None l Says Then map says = tt
over_held (Some held) None Says Then map says = tt
over_held (Some held) (Some input) Says Then map says = map held input refl says

pub finished_restores : (job : Option Job) (answered : Status) (a b : World) → Leaves job answered a b → RestoresSaved job a b
finished_restores job answered a b leaves =
    over_held a.held a.left (λ held input. DidOutcome job held input answered a b) (λ held input. IfSome b.held (λ files. JobRestores job held input files))
    (λ held input h did. files_restore job held input did.ends.outcome a.held b.held h did.ends.is did.ends.sound did.ends.did.files) leaves
