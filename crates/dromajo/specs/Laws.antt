-- What follows from the definitions. A machine that was loaded goes on as the machine that was saved, without its
-- reservations, goes on. Never refused are the checkpoint that a save wrote, a run or a save of a seed, a stream of
-- allowed records, and the trace of a run. A machine that begins at files of bytes is well formed. And what a run leaves
-- that was cut is a part of its beginning, or whole turns and a part of the next.
use Rattle.std.specs.Prelude.{◌≡◌, ◌<◌, ◌≤◌, ◌⊎◌, ℕ, true, List, [], ◌∷◌, ◌++◌, length, IfSome, IsSome, None, Ok, Some}
use Rattle.outside_io.specs.Content.{Held, file_of}
use Rattle.outside_acts.specs.declared.Stop.{Stop}
use Rattle.outside_acts.specs.Acts.{Act, IsCut, ReadTo, filed, read, sent}
use Rattle.checkpoint_run.specs.Laws.{IsGoing}
use Rattle.checkpoint_run.specs.Saving.{IsSound}
use Rattle.cosim_check.specs.Laws.{Passes}
use Rattle.cosim_check.specs.Lines.{judged}
use Rattle.hart_turns.specs.Machine.{MachineState, cleared}
use Rattle.hart_step.specs.Fit.{AreBytes}
use Rattle.hart_step.specs.Harts.{CoreState}
use Rattle.hart_turns.specs.Fit.{IsFit}
use Rattle.job_words.specs.Job.{Begin, FromCheckpoint, FromSeed, Job, Judge, Logs, Save, Turns, Work}
use Rattle.stream_judge.specs.Judging.{most_records}
use Rattle.trace_law.specs.Runs.{run_events, traced_to}
use Rattle.turn_runs.specs.Feeding.{pass_acts}
use Rattle.turn_runs.specs.Leaves.{RunLeaves}
use Rattle.turn_runs.specs.Run.{no_logs, run, trace_lines}
use Rattle.dromajo.specs.declared.status.Status.TheVariants.{Done}
use Rattle.dromajo.specs.declared.status.Tally.TheVariants.{Judged, Turned}
use Rattle.dromajo.specs.Jobs.{Begun, IsActs, IsOutcome, Outcome, begun, end_status, refusal_of, start_acts}
use Rattle.dromajo.specs.Report.{report_line}
use Rattle.dromajo.specs.TopCall.{BeginsAs}

-- the job that loads this checkpoint and makes so many turns
abbrev pub loading : List ℕ → ℕ → Logs → Job
loading name turns logs = record { begin = FromCheckpoint name; work = Turns turns logs }

-- it ends as a run of the cleared machine ends, sends the same bytes, and logs the records of this run
pub record GoesOn (m : MachineState) (turns : ℕ) (logs : Logs) (input : List ℕ) (outcome : Outcome) : Type 0 where
  pub status : outcome.status ≡ end_status (run no_logs input (cleared m) turns).last (run no_logs input (cleared m) turns).made
  pub line : outcome.line
      ≡ report_line outcome.status (Turned (run no_logs input (cleared m) turns).made (run no_logs input (cleared m) turns).machine.taken)
  pub sent : sent outcome.acts ≡ sent (run no_logs input (cleared m) turns).acts
  pub acts : outcome.acts ≡ pass_acts m.taken ++ (start_acts logs ++ (run logs input (cleared m) turns).acts)

-- whatever the input and the number of turns. The turns that a save makes after it are this same run of the cleared machine
abbrev pub LaterEqual : Type 0
LaterEqual = (held : Held) (name : List ℕ) (m : MachineState) (turns : ℕ) (logs : Logs) (input : List ℕ) (outcome : Outcome)
    → BeginsAs held name m → IsOutcome (Some (loading name turns logs)) held input outcome → GoesOn m turns logs input outcome

-- ---- what is never refused

-- the files that a save leaves are accepted, where the machine was saved and what was saved may be restored
abbrev pub OwnFilesAccepted : Type 0
OwnFilesAccepted = (held : Held) (begin : Begin) (turns : ℕ) (name : List ℕ) (more : ℕ) (input : List ℕ) (outcome : Outcome) (work : Work)
    → IsOutcome (Some (record { begin = begin; work = Save turns name more })) held input outcome → IsSome outcome.saved → IfSome outcome.saved IsSound
    → refusal_of (Some (record { begin = FromCheckpoint name; work = work })) (filed outcome.acts held) ≡ None

-- a run or a save that begins at a seed is done, whatever the files hold, and what is to be saved is saved: there is no
-- host window
pub record SeedsAreDone : Type 0 where
  pub turns : (held : Held) (seed turns : ℕ) (logs : Logs) (input : List ℕ) (outcome : Outcome)
      → IsOutcome (Some (record { begin = FromSeed seed; work = Turns turns logs })) held input outcome → outcome.status ≡ Done
  pub save : (held : Held) (seed turns : ℕ) (name : List ℕ) (more : ℕ) (input : List ℕ) (outcome : Outcome)
      → IsOutcome (Some (record { begin = FromSeed seed; work = Save turns name more })) held input outcome → (outcome.status ≡ Done) × IsSome outcome.saved

-- ---- judging allowed records

-- all records of the stream passed, which are so many
pub record AllPass (records : ℕ) (outcome : Outcome) : Type 0 where
  pub status : outcome.status ≡ Done
  pub line : outcome.line ≡ report_line Done (Judged records)

-- a stream of so many records passed, and was read to its end
pub record PassesWhole (records : ℕ) (acts : List Act) (input : List ℕ) (outcome : Outcome) : Type 0 where
  pub passes : AllPass records outcome
  pub count : ℕ
  pub whole : length input < count
  pub read : outcome.acts ≡ acts ++ ReadTo count ∷ []

-- so does every stream whose lines are those of records that are allowed, each after those before it, of no more
-- records than may be
abbrev pub AllowedStreamsAreDone : Type 0
AllowedStreamsAreDone = (held : Held) (begin : Begin) (b : Begun) (input : List ℕ) (past : CoreState) (outcome : Outcome)
    → begun held begin ≡ Ok b → Passes b.machine.core b.machine.shape.tohost (judged input true) past → length (judged input true) ≤ most_records
    → IsOutcome (Some (record { begin = begin; work = Judge })) held input outcome
    → PassesWhole (length (judged input true)) b.acts input outcome

-- ---- judging a trace

-- the job that makes so many turns from a beginning and writes their trace to the file of this name
abbrev pub tracing : Begin → ℕ → List ℕ → Job
tracing begin turns name = record { begin = begin; work = Turns turns (traced_to name) }

-- the job that judges a stream from a beginning
abbrev pub judging : Begin → Job
judging begin = record { begin = begin; work = Judge }

-- the trace of a run is the lines of its events. On an input of bytes a judging from the same beginning passes them, where
-- they are no more than may be and the machine is well formed, as it is where the files hold bytes
pub record OwnTracePasses : Type 0 where
  pub trace : (held : Held) (begin : Begin) (b : Begun) (input : List ℕ) (turns : ℕ) (name : List ℕ) (outcome : Outcome)
      → begun held begin ≡ Ok b → IsOutcome (Some (tracing begin turns name)) held input outcome
      → filed outcome.acts held name ≡ Some (trace_lines (run_events input b.machine turns))
  pub passes : (held : Held) (begin : Begin) (b : Begun) (input : List ℕ) (turns : ℕ) (outcome : Outcome)
      → begun held begin ≡ Ok b → IsFit b.machine → AreBytes input → length (run_events input b.machine turns) ≤ most_records
      → IsOutcome (Some (judging begin)) held (trace_lines (run_events input b.machine turns)) outcome
      → AllPass (length (run_events input b.machine turns)) outcome

-- ---- where a machine begins

-- every file holds bytes
abbrev pub HoldsBytes : Held → Type 0
HoldsBytes held = (name : List ℕ) → AreBytes (file_of held name)

-- a machine that begins at files of bytes is well formed and runs
abbrev pub BegunIsFit : Type 0
BegunIsFit = (held : Held) (begin : Begin) (b : Begun) → HoldsBytes held → begun held begin ≡ Ok b → IsGoing b.machine

-- ---- what a cut leaves

-- what was done of a run from a beginning: some of what comes before its turns, the acts of the beginning and the start of
-- its files; or all of that, and of the turns so many whole ones and a part of the next
abbrev pub TurnsLeave : Stop → Logs → List ℕ → Begun → ℕ → List Act → Type 0
TurnsLeave stop logs input b turns front =
    IsCut stop 0 (b.acts ++ start_acts logs) front
    ⊎ ((left : List Act) × (front ≡ (b.acts ++ start_acts logs) ++ left) × RunLeaves stop logs input (read (b.acts ++ start_acts logs) 0) b.machine turns left)

-- so it is wherever the acts of such a job are cut
abbrev pub TurnsPlaces : Type 0
TurnsPlaces = (stop : Stop) (held : Held) (begin : Begin) (b : Begun) (turns : ℕ) (logs : Logs) (input : List ℕ) (acts front : List Act)
    → begun held begin ≡ Ok b → IsActs (Some (record { begin = begin; work = Turns turns logs })) held input acts → IsCut stop 0 acts front
    → TurnsLeave stop logs input b turns front
