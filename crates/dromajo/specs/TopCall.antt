-- What one call of the program leaves: the words of its contract.
use Rattle.std.specs.Prelude.{◌≡◌, ◌≢◌, ◌⊎◌, ℕ, List, [], take, Option, Some, None, Ok, IfSome, ⊤}
use Rattle.std.specs.Io.KnownBytes.{Appends}
use Rattle.outside_io.specs.Causes.{HasNotRisen, Rose}
use Rattle.outside_io.specs.Content.{Held}
use Rattle.outside_io.specs.declared.Files as files
use Rattle.outside_io.specs.declared.Sink as sink
use Rattle.outside_io.specs.declared.Source as source
use Rattle.outside_acts.specs.declared.Stop.{Stop}
use Rattle.outside_acts.specs.declared.Stop.TheVariants as stop
use Rattle.outside_acts.specs.Acts.{Act, Did, DidCut, sent}
use Rattle.outside_acts.specs.World.{Reading, Writing, TheInput, Console, World, apart, counts}
use Rattle.checkpoint_run.specs.Saving.{IsSound}
use Rattle.hart_turns.specs.declared.machine.TurnEnd.TheVariants.{Goes}
use Rattle.hart_turns.specs.Machine.{MachineState, cleared}
use Rattle.image_saver.specs.declared.fault.LoadFault.{LoadFault}
use Rattle.image_saver.specs.Refusal.{IsOfFiles}
use Rattle.job_words.specs.Job.{FromCheckpoint, Job, Save, Work}
use Rattle.sim_config.specs.declared.fault.ConfigFault.{ConfigFault}
use Rattle.sim_config.specs.declared.fault.ConfigFault.TheVariants as config_fault
use Rattle.turn_runs.specs.Feeding.{pass_acts}
use Rattle.turn_runs.specs.Run.{no_logs, run}
use Rattle.dromajo.specs.declared.status.Status.{Status}
use Rattle.dromajo.specs.declared.status.Status.TheVariants.{BadCheckpoint, BadConfig, NoMemory, Usage}
use Rattle.dromajo.specs.declared.status.Tally.{Tally}
use Rattle.dromajo.specs.Classes.{Class, Refused, Ended, Failed, Unreported, Starved, IsBefore, IsRefusal, caused, class_of}
use Rattle.dromajo.specs.Jobs.{Begun, IsActs, IsOutcome, Outcome, begun, job_uses}
use Rattle.dromajo.specs.Report.{report_line}

-- ---- what is told

-- of files, an input and a console, by what their traits say of them
abbrev pub told_of : {F I O : Type 0} → files.Ghosts F → source.Ghosts I → sink.Ghosts O → F → I → O → World
told_of f i o files input out =
    apart (f.held files) (i.left input) (o.written out) (counts (f.read_faults files) (f.write_faults files) (i.faults input) (o.faults out))

-- what is told of a report: what it got, and its count of faults
pub record Reporting : Type 0 where
  pub written : Option (List ℕ)
  pub faults : ℕ

-- of a report, by what its trait says of it
abbrev pub report_of : {E : Type 0} → sink.Ghosts E → E → Reporting
report_of e report = record { written = e.written report; faults = e.faults report }

-- files, an input and a console that are known to fail at no call
abbrev pub AreAllQuiet : {F I O : Type 0} → files.Ghosts F → source.Ghosts I → sink.Ghosts O → F → I → O → Type 0
AreAllQuiet f i o files input out = f.quiet files × i.quiet input × o.quiet out

-- where what the files hold and the input has left is told
abbrev pub OverTold : World → (Held → List ℕ → Type 0) → Type 0
OverTold world Says = IfSome world.held (λ held. IfSome world.left (λ input. Says held input))

-- ---- what a job leaves

-- it came to an outcome of these, with this status and line, and did all its acts; what was saved may be restored
pub record Ends (IsOne : Outcome → Type 0) (status : Status) (line input : List ℕ) (from : ℕ) (before now : World) : Type 0 where
  pub outcome : Outcome
  pub is : IsOne outcome
  pub status_is : status ≡ outcome.status
  pub line_is : line ≡ outcome.line
  pub did : Did input from outcome.acts before now
  pub sound : IfSome outcome.saved IsSound

-- it was to do acts of these, and they were cut by this stop
pub record IsCutAmong (AreThose : List Act → Type 0) (stop : Stop) (input : List ℕ) (from : ℕ) (before now : World) : Type 0 where
  pub acts : List Act
  pub are : AreThose acts
  pub cut : DidCut stop input from acts before now

abbrev pub JobEnds : Option Job → Held → List ℕ → Status → List ℕ → World → World → Type 0
JobEnds job held input status line before now = Ends (IsOutcome job held input) status line input 0 before now

abbrev pub JobStops : Stop → Option Job → Held → List ℕ → World → World → Type 0
JobStops stop job held input before now = IsCutAmong (IsActs job held input) stop input 0 before now

-- by the class of its status. Files are read, and the memory of a machine is taken, before anything is done
abbrev pub leaves_by : Class → Option Job → Held → List ℕ → Status → List ℕ → World → World → Type 0
leaves_by Refused job held input status line before now = JobEnds job held input status line before now
leaves_by Ended job held input status line before now = JobEnds job held input status line before now
leaves_by (Failed Reading) job held input status line before now = Did input 0 [] before now
leaves_by (Failed Writing) job held input status line before now = JobStops stop.Files job held input before now
leaves_by (Failed TheInput) job held input status line before now = JobStops stop.Input job held input before now
leaves_by (Failed Console) job held input status line before now = JobStops stop.Out job held input before now
leaves_by Starved job held input status line before now = Did input 0 [] before now ⊎ JobStops stop.NoMemory job held input before now
leaves_by class job held input status line before now = ⊥

-- what a job leaves that ended with this status and is reported by this line
abbrev pub JobLeaves : Option Job → Status → List ℕ → World → World → Type 0
JobLeaves job status line before now = OverTold before (λ held input. leaves_by (class_of status) job held input status line before now)

-- the job ended, with a status and a line before the report; then this status was answered
pub record DidOutcome (job : Option Job) (held : Held) (input : List ℕ) (answered : Status) (before now : World) : Type 0 where
  pub status : Status
  pub line : List ℕ
  pub ends : JobEnds job held input status line before now
  pub answers : IsBefore status answered

-- a finished call leaves what its job leaves that ended
abbrev pub Leaves : Option Job → Status → World → World → Type 0
Leaves job answered before now = OverTold before (λ held input. DidOutcome job held input answered before now)

-- acts of a job: those of an outcome, or those in which it may be cut
abbrev pub AreActs : Option Job → Held → List ℕ → List Act → Type 0
AreActs job held input acts = ((outcome : Outcome) × IsOutcome job held input outcome × (acts ≡ outcome.acts)) ⊎ IsActs job held input acts

-- a front of the bytes that acts of the job send
pub record SentFront (job : Option Job) (held : Held) (input : List ℕ) (before now : World) : Type 0 where
  pub acts : List Act
  pub are : AreActs job held input acts
  pub count : ℕ
  pub console : Appends before.written now.written (take count (sent acts))

-- the console got a front of the bytes that the job sends
abbrev pub SendsFront : Option Job → World → World → Type 0
SendsFront job before now = OverTold before (λ held input. SentFront job held input before now)

-- ---- what is restored

-- executing the boot ROM of the checkpoint of this name over its files leads to this machine without its reservations; it
-- sends nothing, and of the input passes over what the machine had taken
abbrev pub BeginsAs : Held → List ℕ → MachineState → Type 0
BeginsAs held name m = begun held (FromCheckpoint name) ≡ Ok (record { machine = cleared m; acts = pass_acts m.taken })

-- a work that saves did so where none of the turns before the save ended the run
abbrev pub WorkRestores : Work → MachineState → List ℕ → Held → Type 0
WorkRestores (Save turns name more) m input now =
    (run no_logs input m turns).last ≡ Goes → BeginsAs now name (run no_logs input m turns).machine
WorkRestores work m input now = ⊤

-- a job restores what its work saved of the machine with which it began
abbrev pub JobRestores : Option Job → Held → List ℕ → Held → Type 0
JobRestores None held input now = ⊤
JobRestores (Some job) held input now = (b : Begun) → begun held job.begin ≡ Ok b → WorkRestores job.work b.machine input now

-- the files that a job leaves hold the checkpoint that it saved
abbrev pub RestoresSaved : Option Job → World → World → Type 0
RestoresSaved job before now = OverTold before (λ held input. IfSome now.held (λ files. JobRestores job held input files))

-- ---- refusals

-- a refusal is answered exactly where there is one, and it is that one
abbrev pub AnswersRefusal : Option Status → Status → Type 0
AnswersRefusal None status = IsRefusal status → ⊥
AnswersRefusal (Some refusal) status = (status ≡ refusal) × IsRefusal status

-- ---- causes

-- what a status needs beside its class: Usage, that the words name no job, BadConfig, that it carries no want of
-- memory, and BadCheckpoint, that it carries a fault of the files
pub record Fits (status : Status) (job : Option Job) : Type 0 where
  pub usage : status ≡ Usage → job ≡ None
  pub config : (fault : ConfigFault) → status ≡ BadConfig fault → fault ≢ config_fault.NoMemory
  pub checkpoint : (fault : LoadFault) → status ≡ BadCheckpoint fault → IsOfFiles fault

-- why a job ended with this status, before its report
pub record HasJobCause (status : Status) (job : Option Job) (before now : World) : Type 0 where
  pub count : caused (class_of status) (job_uses job) before.counts now.counts
  pub fits : Fits status job

-- by the class of the status that is answered: that of the report comes only where its count rose, want of memory may
-- come with the report, and every other status has the causes of the job
abbrev pub cause_by : Class → Status → Option Job → World → World → Reporting → Reporting → Type 0
cause_by Unreported status job before now report report' = Rose report.faults report'.faults
cause_by Starved status job before now report report' = ⊤
cause_by class status job before now report report' = HasJobCause status job before now

-- the same, by the status that is answered
abbrev pub HasStatusCause : Status → Option Job → World → World → Reporting → Reporting → Type 0
HasStatusCause status job before now report report' = cause_by (class_of status) status job before now report report'

-- no count of faults rose, that of the report neither
pub record NoneRose (before now : World) (report report' : Reporting) : Type 0 where
  pub reading : HasNotRisen before.counts.reading now.counts.reading
  pub writing : HasNotRisen before.counts.writing now.counts.writing
  pub input : HasNotRisen before.counts.input now.counts.input
  pub console : HasNotRisen before.counts.console now.counts.console
  pub of_report : HasNotRisen report.faults report'.faults

-- ---- the report

-- the line was written: whole, where the report did not fail and memory was found, else a prefix of it
pub record Reports (answered before : Status) (line : List ℕ) (old new : Reporting) : Type 0 where
  pub status : IsBefore before answered
  pub whole : (Rose old.faults new.faults → ⊥) → answered ≢ NoMemory → Appends old.written new.written line
  pub prefix : (n : ℕ) × Appends old.written new.written (take n line)
  -- one write at the most failed
  pub once : (new.faults ≡ old.faults) ⊎ Rose old.faults new.faults

-- there is a status before the report, which has its causes and whose line was written, and the call leaves what the
-- job leaves that ended with it
pub record Reported (answered : Status) (job : Option Job) (world now : World) (old new : Reporting) : Type 0 where
  pub before : Status
  pub tally : Tally
  pub reports : Reports answered before (report_line before tally) old new
  pub cause : HasJobCause before job world now
  pub leaves : JobLeaves job before (report_line before tally) world now
