-- How the private calls of a job end: its beginning, and its work.
use Rattle.std.specs.Prelude.{◌≡◌, ◌≢◌, ℕ, List, [], IfErr, Ok, Result, Some, ⊤}
use Rattle.outside_io.specs.Causes.{Rose}
use Rattle.outside_acts.specs.declared.Stop.{Stop}
use Rattle.outside_acts.specs.World.{Reading, World}
use Rattle.sim_config.specs.declared.fault.ConfigFault.{ConfigFault}
use Rattle.sim_config.specs.declared.fault.ConfigFault.TheVariants as config_fault
use Rattle.hart_turns.specs.Machine.{MachineState, MachineView}
use Rattle.image_saver.specs.declared.fault.LoadFault.{LoadFault}
use Rattle.image_saver.specs.Refusal.{IsOfFiles}
use Rattle.job_words.specs.Job.{Begin, FromCheckpoint, Judge, Save, Turns, Work}
use Rattle.turn_runs.specs.Resuming.{resume_acts}
use Rattle.dromajo.specs.declared.status.Status.{Status}
use Rattle.dromajo.specs.declared.status.Status.TheVariants.{BadCheckpoint, BadConfig, Usage}
use Rattle.dromajo.specs.declared.work.JobEnding.{JobEnding}
use Rattle.dromajo.specs.Classes.{Class, Refused, Failed, Starved, IsFault, class_of}
use Rattle.dromajo.specs.Jobs.{Begun, IsBegunActs, IsBegunOutcome, IsWorkActs, IsWorkOutcome}
use Rattle.dromajo.specs.Report.{report_line}
use Rattle.dromajo.specs.TopCall.{Ends, IsCutAmong}

-- a machine that was made, with the acts that come before its work
abbrev pub begun_with : MachineView → Begun
begun_with m = record { machine = m.machine; acts = resume_acts m.console m.machine.taken }

-- why there is no machine: the files are refused, as `Defined` says, or memory lacked, and no count of faults rose; or a
-- read failed
abbrev pub unbegun_by : Class → Type 0 → ℕ → ℕ → Type 0
unbegun_by Refused Defined before now = Defined × (now ≡ before)
unbegun_by (Failed Reading) Defined before now = Rose before now
unbegun_by Starved Defined before now = now ≡ before
unbegun_by class Defined before now = ⊥

-- a beginning made no machine and ended with this status, and why
pub record IsUnbegun (status : Status) (Defined : Type 0) (before now : ℕ) : Type 0 where
  pub why : unbegun_by (class_of status) Defined before now
  -- it does not say that the words name no job
  pub job : status ≢ Usage
  -- want of memory has a status of its own
  pub config : (fault : ConfigFault) → status ≡ BadConfig fault → fault ≢ config_fault.NoMemory
  -- and a checkpoint is refused for its files alone
  pub checkpoint : (fault : LoadFault) → status ≡ BadCheckpoint fault → IsOfFiles fault

-- a beginning over quiet files: no read failed, and they are quiet still
pub record BeginsQuietly {T : Type 0} (quiet_now : Type 0) (result : Result T Status) : Type 0 where
  pub unfailed : IfErr result (λ status. IsFault status → ⊥)
  pub still : quiet_now

-- a work ended so
abbrev pub WorkEnds : Work → MachineState → JobEnding → List ℕ → ℕ → World → World → Type 0
WorkEnds work m finished input from before now =
    Ends (IsWorkOutcome work m input) finished.status (report_line finished.status finished.tally) input from before now

-- its acts were cut by this stop
abbrev pub WorkStops : Stop → Work → MachineState → List ℕ → ℕ → World → World → Type 0
WorkStops stop work m input from before now = IsCutAmong (IsWorkActs work m input) stop input from before now

-- the same with the acts of the beginning before those of the work, from the first byte of the input on
abbrev pub BegunEnds : Work → Begun → JobEnding → List ℕ → World → World → Type 0
BegunEnds work b finished input before now =
    Ends (IsBegunOutcome work input (Ok b)) finished.status (report_line finished.status finished.tally) input 0 before now

-- the acts of the beginning and of the work were cut by this stop
abbrev pub BegunStops : Stop → Work → Begun → List ℕ → World → World → Type 0
BegunStops stop work b input before now = IsCutAmong (IsBegunActs work input (Ok b)) stop input 0 before now

-- over an input that is told
abbrev pub OverLeft : World → (List ℕ → Type 0) → Type 0
OverLeft world Says = (input : List ℕ) → world.left ≡ Some input → Says input

-- ---- machines at reset

-- a machine that has made no turn and was not booted: it has taken nothing, and sent nothing
pub record IsUnused (m : MachineView) : Type 0 where
  pub taken : m.machine.taken ≡ 0
  pub console : m.console ≡ []

-- what is saved or judged begins at reset, not behind a boot
abbrev pub BeginsWell : Work → MachineView → Type 0
BeginsWell (Turns turns logs) m = ⊤
BeginsWell (Save turns name more) m = IsUnused m
BeginsWell Judge m = IsUnused m

-- a machine that did not begin at a checkpoint has made no turn and was not booted
abbrev pub IsReset : Begin → MachineView → Type 0
IsReset (FromCheckpoint name) m = ⊤
IsReset begin m = IsUnused m
