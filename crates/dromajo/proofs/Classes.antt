-- What follows from the class of a status.
use Rattle.std.proofs.Common.{◌≡◌, ℕ, refl}
use Rattle.std.specs.Prelude.{◌==◌, if◌then◌else◌, Bool, true, false}
use Rattle.hart_turns.specs.declared.machine.TurnEnd.{TurnEnd}
use Rattle.hart_turns.specs.declared.machine.TurnEnd.TheVariants.{Goes, Ended, BadHost}
use Rattle.outside_acts.specs.declared.Stop.{Stop}
use Rattle.outside_acts.specs.declared.Stop.TheVariants.{Input, Out, Files, NoMemory}
use Rattle.outside_acts.specs.Calls.{stop_cause}
use Rattle.outside_acts.specs.World.{Counted, Counts}
use Rattle.dromajo.specs.declared.status.Status.{Status}
use Rattle.dromajo.specs.declared.status.Status.TheVariants.{Done, GuestEnded}
use Rattle.dromajo.specs.Classes.{Class, Refused, Failed, Unreported, Starved, Never, IsBefore, IsSettled, before_by, caused, class_of, stop_status}
use Rattle.dromajo.specs.Classes.{Ended as EndedClass}
use Rattle.dromajo.specs.Jobs.{end_status}

-- ---- how a run ends

zero_or : (code made : ℕ) (b : Bool) → class_of (if b then Done else GuestEnded code made) ≡ EndedClass
zero_or code made true = refl
zero_or code made false = refl

pub run_ends : (end : TurnEnd) (made : ℕ) → class_of (end_status end made) ≡ EndedClass
run_ends Goes made = refl
run_ends (Ended code) made = zero_or code made (code == 0)
run_ends (BadHost word) made = refl

-- ---- a stop

pub stop_caused : (stop : Stop) (Uses : Counted → Type 0) (before now : Counts) → stop_cause stop Uses before now → caused (class_of (stop_status stop)) Uses before now
stop_caused Input Uses before now cause = cause
stop_caused Out Uses before now cause = cause
stop_caused Files Uses before now cause = cause
stop_caused NoMemory Uses before now cause = cause

pub stop_unsettled : (stop : Stop) → IsSettled (stop_status stop) → ⊥
stop_unsettled Input settled = settled
stop_unsettled Out settled = settled
stop_unsettled Files settled = settled
stop_unsettled NoMemory settled = settled

-- ---- the status before the report

same_before : (class : Class) (status : Status) (Uses : Counted → Type 0) (before now : Counts) → caused class Uses before now → before_by class status status
same_before Refused status Uses before now cause = refl
same_before EndedClass status Uses before now cause = refl
same_before (Failed counted) status Uses before now cause = refl
same_before Unreported status Uses before now cause = absurd cause
same_before Starved status Uses before now cause = tt
same_before Never status Uses before now cause = absurd cause

-- a job's status is the one before the report, where nothing takes its place
pub is_before : (status : Status) (Uses : Counted → Type 0) (before now : Counts) → caused (class_of status) Uses before now → IsBefore status status
is_before status Uses before now cause = same_before (class_of status) status Uses before now cause
