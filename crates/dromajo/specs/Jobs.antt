-- What each job does: where its machine begins, and the acts of its work; its status, and its report.
use Rattle.std.specs.Prelude.{◌≡◌, ◌⊎◌, ℕ, ◌==◌, List, [], ◌∷◌, ◌++◌, Option, Some, None, IfSome, IsSome, Result, Ok, Err, if◌then◌else◌, ⊤}
use Rattle.outside_io.specs.Content.{Held, IsHeld}
use Rattle.outside_acts.specs.Acts.{Act, ReadTo, Start}
use Rattle.outside_acts.specs.Calls.{Only}
use Rattle.outside_acts.specs.World.{Counted, Reading, TheInput}
use Rattle.checkpoint_run.specs.Reaching.{save_uses}
use Rattle.checkpoint_run.specs.Saving.{SaveComesTo, IsSound, SaveRan, Saved}
use Rattle.cosim_check.specs.Verdicts.{number}
use Rattle.cosim_check.specs.declared.verdict.Verdict.{Verdict}
use Rattle.cosim_check.specs.declared.verdict.Verdict.TheVariants as verdict
use Rattle.hart_turns.specs.declared.machine.TurnEnd.{TurnEnd}
use Rattle.hart_turns.specs.declared.machine.TurnEnd.TheVariants as turn_end
use Rattle.hart_turns.specs.declared.booting.BootFault.{BootFault}
use Rattle.hart_turns.specs.Boot.{Booting, booted, machine_at}
use Rattle.hart_turns.specs.Machine.{MachineState, reset_machine}
use Rattle.image_saver.specs.declared.fault.LoadFault.{LoadFault}
use Rattle.image_saver.specs.Checkpoint.{Checkpoint, checkpoint_of, debug_of}
use Rattle.image_saver.specs.Quiet.{HoldsCheckpoint}
use Rattle.machine_start.specs.declared.start.Start.{Start as StartValue}
use Rattle.machine_start.specs.declared.fault.StartFault.{StartFault}
use Rattle.machine_start.specs.Quiet.{HoldsConfig}
use Rattle.machine_start.specs.Start.{start_of_config, start_from_image}
use Rattle.seed_start.specs.Seed.{start_of_seed}
use Rattle.job_words.specs.Job.{Begin, FromCheckpoint, FromConfig, FromImage, FromSeed, Job, Judge, Logs, Save, Turns, Work}
use Rattle.stream_judge.specs.Judging.{IsReadTo, PassesSoFar, stream_verdict}
use Rattle.turn_runs.specs.Reaching.{log_uses}
use Rattle.turn_runs.specs.Resuming.{resume_acts}
use Rattle.turn_runs.specs.Run.{Ran, no_logs, run}
use Rattle.dromajo.specs.declared.status.Status.{Status}
use Rattle.dromajo.specs.declared.status.Status.TheVariants.{Done, Usage, GuestEnded, BadHostWord, Disagree, BadLine, TooMany}
use Rattle.dromajo.specs.declared.status.Status.TheVariants as status
use Rattle.dromajo.specs.declared.status.Tally.{Tally}
use Rattle.dromajo.specs.declared.status.Tally.TheVariants.{Turned, Judged}
use Rattle.dromajo.specs.Classes.{load_status, start_status}
use Rattle.dromajo.specs.Report.{report_line}

-- ---- where a machine begins

-- a machine, and what was done to the outside before its work
pub record Begun : Type 0 where
  pub machine : MachineState
  pub acts : List Act

-- the machine that a start stands for
abbrev pub machine_of : StartValue → MachineState
machine_of start = reset_machine start.shape start.ram start.entry

-- the machine at reset of a start, before which nothing was done, or why there is no start
abbrev pub begun_at : Result StartValue StartFault → Result Begun Status
begun_at (Ok start) = Ok (record { machine = machine_of start; acts = [] })
begun_at (Err fault) = Err (start_status fault)

-- after its boot, what that sent goes to the console, and the input that was taken is passed over; a boot that failed
-- is a refusal
abbrev pub begun_by_boot : MachineState → Booting → Option BootFault → Result Begun Status
begun_by_boot m left None = Ok (record { machine = machine_at m left; acts = resume_acts left.console m.taken })
begun_by_boot m left (Some fault) = Err (status.BootFault fault)

-- the machine of the checkpoint that the files hold, after its boot, or the first fault of the files
abbrev pub restored : Result Checkpoint LoadFault → Result Begun Status
restored (Ok c) = begun_by_boot (debug_of c) (booted (debug_of c)).left (booted (debug_of c)).fault
restored (Err fault) = Err (load_status fault)

-- what a machine begins with, over what the files hold at the call: no act of a beginning writes a file, and a seed asks
-- nothing of the files
abbrev pub begun : Held → Begin → Result Begun Status
begun held (FromConfig name) = begun_at (start_of_config held name)
begun held (FromImage name) = begun_at (start_from_image held name)
begun held (FromSeed seed) = begun_at (Ok (start_of_seed seed))
begun held (FromCheckpoint name) = restored (checkpoint_of held name)

-- ---- the work, and how it ends

-- the status, the report line, and all acts; and what was saved, if anything
pub record Outcome : Type 0 where
  pub status : Status
  pub line : List ℕ
  pub acts : List Act
  pub saved : Option Saved

-- a job that ended with this status, counted so much and did these acts; nothing was saved
abbrev pub ended : Status → Tally → List Act → Outcome
ended status tally acts = record { status = status; line = report_line status tally; acts = acts; saved = None }

-- words that name no job, and files that are refused: nothing is done
abbrev pub refused : Status → Outcome
refused status = ended status (Turned 0 0) []

-- the status of a run, by how its last turn ended: a program that ends with code 0 is done
abbrev pub end_status : TurnEnd → ℕ → Status
end_status turn_end.Goes made = Done
end_status (turn_end.Ended code) made = if code == 0 then Done else GuestEnded code made
end_status (turn_end.BadHost word) made = BadHostWord word made

-- a machine that has run, after these acts
abbrev pub ran_outcome : List Act → Ran → Outcome
ran_outcome acts ran = ended (end_status ran.last ran.made) (Turned ran.made ran.machine.taken) (acts ++ ran.acts)

-- a program that ends before it is saved is not done, whatever its code
abbrev pub unsaved_status : TurnEnd → ℕ → Status
unsaved_status (turn_end.Ended code) made = GuestEnded code made
unsaved_status end made = end_status end made

-- the status of a run that may save, by whether the machine was saved
abbrev pub save_status : Option Saved → TurnEnd → ℕ → Status
save_status None end made = unsaved_status end made
save_status (Some saved) end made = end_status end made

-- a machine that has run and may have been saved
abbrev pub save_outcome : SaveRan → Outcome
save_outcome ran = record (ended (save_status ran.saved ran.last ran.made) (Turned ran.made ran.machine.taken) ran.acts) { saved = ran.saved }

-- the status of a stream, by the verdict on it: one whose records all passed is done
abbrev pub verdict_status : Verdict → Status
verdict_status (verdict.Passing n) = Done
verdict_status (verdict.Disallowed n field allowed given) = Disagree n field allowed given
verdict_status (verdict.BadLine n column) = BadLine n column
verdict_status (verdict.TooMany most) = TooMany most

-- a stream that was judged, of which so many bytes were read
abbrev pub judged_outcome : Verdict → ℕ → Outcome
judged_outcome verdict count = ended (verdict_status verdict) (Judged (number verdict)) (ReadTo count ∷ [])

-- a file is made, and emptied, where one is named
abbrev pub start_named : Option (List ℕ) → List Act
start_named None = []
start_named (Some name) = Start name ∷ []

-- the files of the logs are made, and emptied
abbrev pub start_acts : Logs → List Act
start_acts logs = start_named logs.trace

-- what a work on a machine may come to. The definitions leave open the boot ROM of what is saved, and how far a stream
-- was read behind the record that decides
abbrev pub IsWorkOutcome : Work → MachineState → List ℕ → Outcome → Type 0
IsWorkOutcome (Turns turns logs) m input outcome = outcome ≡ ran_outcome (start_acts logs) (run logs input m turns)
IsWorkOutcome (Save turns name more) m input outcome = (ran : SaveRan) × SaveComesTo name input m turns more ran × (outcome ≡ save_outcome ran)
IsWorkOutcome Judge m input outcome =
    (count : ℕ) × IsReadTo m.core m.shape.tohost input count × (outcome ≡ judged_outcome (stream_verdict m.core m.shape.tohost input) count)

-- the acts of a beginning come before those of the work
abbrev pub after_acts : List Act → Outcome → Outcome
after_acts acts outcome = record outcome { acts = acts ++ outcome.acts }

-- a beginning that is refused does nothing
abbrev pub IsBegunOutcome : Work → List ℕ → Result Begun Status → Outcome → Type 0
IsBegunOutcome work input (Err status) outcome = outcome ≡ refused status
IsBegunOutcome work input (Ok b) outcome = (of_work : Outcome) × IsWorkOutcome work b.machine input of_work × (outcome ≡ after_acts b.acts of_work)

-- what the job of the words may come to, over what the files hold and the whole input; words
-- that name no job are refused
abbrev pub IsOutcome : Option Job → Held → List ℕ → Outcome → Type 0
IsOutcome None held input outcome = outcome ≡ refused Usage
IsOutcome (Some job) held input outcome = IsBegunOutcome job.work input (begun held job.begin) outcome

-- ---- the acts in which a job may be cut

-- all that its work comes to. Of a save also those of the turns before it, since its boot ROM is made after them; and of
-- a stream its reading to a byte before which all passed
abbrev pub IsWorkActs : Work → MachineState → List ℕ → List Act → Type 0
IsWorkActs (Turns turns logs) m input acts = acts ≡ (ran_outcome (start_acts logs) (run logs input m turns)).acts
IsWorkActs (Save turns name more) m input acts =
    (acts ≡ (run no_logs input m turns).acts)
    ⊎ ((ran : SaveRan) × SaveComesTo name input m turns more ran × IfSome ran.saved IsSound × (acts ≡ ran.acts))
IsWorkActs Judge m input acts = (count : ℕ) × PassesSoFar m.core m.shape.tohost input count × (acts ≡ ReadTo count ∷ [])

-- the acts of a beginning come before those of the work; one that is refused has none
abbrev pub IsBegunActs : Work → List ℕ → Result Begun Status → List Act → Type 0
IsBegunActs work input (Err status) acts = acts ≡ []
IsBegunActs work input (Ok b) acts = (of_work : List Act) × IsWorkActs work b.machine input of_work × (acts ≡ b.acts ++ of_work)

-- the acts in which the job of the words may be cut, over what the files hold and the whole input; no job has none
abbrev pub IsActs : Option Job → Held → List ℕ → List Act → Type 0
IsActs None held input acts = acts ≡ []
IsActs (Some job) held input acts = IsBegunActs job.work input (begun held job.begin) acts

-- ---- what depends on a job's parts alone

-- why a beginning is refused, if it is
abbrev pub refusal_in : Result Begun Status → Option Status
refusal_in (Ok b) = None
refusal_in (Err status) = Some status

-- the refusal of the job that the words name, if there is one: whatever the input has left
abbrev pub refusal_of : Option Job → Held → Option Status
refusal_of None held = Some Usage
refusal_of (Some job) held = refusal_in (begun held job.begin)

-- every file that a beginning reads is held; a seed reads none, and it is told what they hold
abbrev pub HoldsBegin : Option Held → Begin → Type 0
HoldsBegin told (FromConfig name) = HoldsConfig told name
HoldsBegin told (FromImage name) = IsHeld told name
HoldsBegin told (FromSeed seed) = IsSome told
HoldsBegin told (FromCheckpoint name) = HoldsCheckpoint told name

-- every file that a job reads is held
abbrev pub HoldsJob : Option Held → Option Job → Type 0
HoldsJob told None = ⊤
HoldsJob told (Some job) = HoldsBegin told job.begin

-- what a work uses
abbrev pub work_uses : Work → Counted → Type 0
work_uses (Turns turns logs) counted = log_uses logs counted
work_uses (Save turns name more) counted = save_uses counted
work_uses Judge counted = Only TheInput counted

-- what a beginning uses: it reads files, and a seed needs none
abbrev pub begin_uses : Begin → Counted → Type 0
begin_uses (FromSeed seed) counted = ⊥
begin_uses begin counted = counted ≡ Reading

-- what a job uses
abbrev pub job_uses : Option Job → Counted → Type 0
job_uses None counted = ⊥
job_uses (Some job) counted = begin_uses job.begin counted ⊎ work_uses job.work counted
