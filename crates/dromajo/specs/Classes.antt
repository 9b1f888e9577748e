-- What a status says of the outside. Only the classifier here, the number (Codes.antt) and the text (Report.antt) have
-- a line for each status; all else is said by its class.
use Rattle.std.specs.Prelude.{◌≡◌, ◌⊎◌, ⊤}
use Rattle.machine_start.specs.declared.fault.StartFault.{StartFault}
use Rattle.machine_start.specs.declared.fault.StartFault.TheVariants as start
use Rattle.image_saver.specs.declared.fault.LoadFault.{LoadFault}
use Rattle.image_saver.specs.declared.fault.LoadFault.TheVariants as load
use Rattle.outside_acts.specs.declared.Stop.{Stop}
use Rattle.outside_acts.specs.declared.Stop.TheVariants as stop
use Rattle.outside_acts.specs.World.{Counted, Reading, Writing, TheInput, Console, Counts, NonePassedOver, OnlyRose}
use Rattle.dromajo.specs.declared.status.Status.{Status}
use Rattle.dromajo.specs.declared.status.Status.TheVariants.{Done, Usage, BadConfig, BadElf, BadCheckpoint, BootFault, ReadFault, WriteFault, NoMemory, GuestEnded, BadHostWord, Disagree, BadLine, TooMany}
use Rattle.dromajo.specs.declared.status.Which.{Which}
use Rattle.dromajo.specs.declared.status.Which.TheVariants.{Files, Input, Out, Report}

-- what a status says of the outside
pub data Class : Type 0 where
  -- the words, and what the files hold, decide it
  Refused : Class
  -- the job was done, or its program ended it
  Ended : Class
  -- this failed
  Failed : Counted → Class
  -- the report failed
  Unreported : Class
  -- memory lacked
  Starved : Class
  -- no call answers it
  Never : Class

-- the class of a read that failed: of files, or of the input
abbrev pub read_class : Which → Class
read_class Files = Failed Reading
read_class Input = Failed TheInput
read_class which = Never

-- the class of a write that failed: of files, of the console, or of the report
abbrev pub write_class : Which → Class
write_class Files = Failed Writing
write_class Out = Failed Console
write_class Report = Unreported
write_class Input = Never

-- the class of each status
abbrev pub class_of : Status → Class
class_of Done = Ended
class_of Usage = Refused
class_of (BadConfig fault) = Refused
class_of (BadElf fault) = Refused
class_of (BadCheckpoint fault) = Refused
class_of (BootFault fault) = Refused
class_of (ReadFault which) = read_class which
class_of (WriteFault which) = write_class which
class_of NoMemory = Starved
class_of (GuestEnded code turn) = Ended
class_of (BadHostWord word turn) = Ended
class_of (Disagree n field allowed given) = Ended
class_of (BadLine n column) = Ended
class_of (TooMany most) = Ended

-- ---- kinds of classes

-- by this class nothing failed, and memory was found
abbrev pub settles : Class → Type 0
settles Refused = ⊤
settles Ended = ⊤
settles class = ⊥

-- by this class nothing failed but the report, if anything did, and memory was found
abbrev pub finishes : Class → Type 0
finishes Unreported = ⊤
finishes class = settles class

-- by this class something failed, or no call answers it
abbrev pub fails : Class → Type 0
fails Refused = ⊥
fails Ended = ⊥
fails Starved = ⊥
fails class = ⊤

-- the outside did not fail, and memory was found
abbrev pub IsSettled : Status → Type 0
IsSettled status = settles (class_of status)

-- the job itself is settled, though its report may have failed
abbrev pub IsFinished : Status → Type 0
IsFinished status = finishes (class_of status)

-- a fault of reading or writing
abbrev pub IsFault : Status → Type 0
IsFault status = fails (class_of status)

-- the words name no job, or the files that they name are refused
abbrev pub IsRefusal : Status → Type 0
IsRefusal status = class_of status ≡ Refused

-- where the words name no job, that is said, unless memory lacks
abbrev pub IsUsage : Status → Type 0
IsUsage status = (status ≡ Usage) ⊎ (status ≡ NoMemory)

-- ---- the report's part

-- the status before the report: a failed report takes the place of Done alone, and want of memory may take the place
-- of any
abbrev pub before_by : Class → Status → Status → Type 0
before_by Unreported before answered = before ≡ Done
before_by Starved before answered = ⊤
before_by class before answered = before ≡ answered

-- the same, by the status that is answered
abbrev pub IsBefore : Status → Status → Type 0
IsBefore before answered = before_by (class_of answered) before answered

-- the status after a report that failed
abbrev pub failed_report : Status → Status
failed_report Done = WriteFault Report
failed_report status = status

-- ---- faults of the rooms below

-- the status of a machine that could not be made of its files
abbrev pub start_status : StartFault → Status
start_status (start.Config fault) = BadConfig fault
start_status (start.Elf fault) = BadElf fault
start_status start.Unread = ReadFault Files
start_status start.NoMemory = NoMemory

-- the status of a checkpoint that could not be loaded
abbrev pub load_status : LoadFault → Status
load_status load.Failed = ReadFault Files
load_status load.NoMemory = NoMemory
load_status fault = BadCheckpoint fault

-- the status of a stop
abbrev pub stop_status : Stop → Status
stop_status stop.Input = ReadFault Input
stop_status stop.Out = WriteFault Out
stop_status stop.Files = WriteFault Files
stop_status stop.NoMemory = NoMemory

-- ---- causes

-- a job fails only where the count that its status names rose and no other, and it uses what has this count; where
-- nothing failed, or memory lacked, none rose. The report comes after the job
abbrev pub caused : Class → (Counted → Type 0) → Counts → Counts → Type 0
caused Refused Uses before now = NonePassedOver before now
caused Ended Uses before now = NonePassedOver before now
caused Starved Uses before now = NonePassedOver before now
caused (Failed counted) Uses before now = Uses counted × OnlyRose counted before now
caused class Uses before now = ⊥
