-- Which records a core allows, what it then becomes, and what is wrong with any other record.
--
-- The judged core makes each step again. What the manuals leave to the surroundings of a step it takes from the record:
-- the interrupt, what a device answered, what a volatile register read as, and whether a store-conditional succeeded
-- (`told_by` of hart_step). It has no devices of its own.
use Rattle.std.specs.Prelude.{ℕ, ◌≡◌, ◌<◌, Bool, length, Option, Some, None, IsTrue, nat_lt, if◌then◌else◌}
use Rattle.guest_ram.specs.Bytes.{number_at}
use Rattle.board_bus.specs.Window.{host_says}
use Rattle.board_bus.specs.declared.window.HostSays.{HostSays}
use Rattle.board_bus.specs.declared.window.HostSays.TheVariants.{Nothing, End, Send, Bad}
use Rattle.trap_rules.specs.Interrupt.{may_be_taken}
use Rattle.hart_step.specs.declared.event.Event.{Event}
use Rattle.hart_step.specs.declared.event.Event.TheVariants.{Commit, Exception, Interrupt, Host}
use Rattle.hart_step.specs.Harts.{CoreState, hart_of}
use Rattle.hart_step.specs.Step.{Answer, host_cleared, step}
use Rattle.hart_step.specs.Told.{told_by}
use Rattle.cosim_check.specs.declared.record.Fault.{Fault}
use Rattle.cosim_check.specs.declared.verdict.Field.{Field}
use Rattle.cosim_check.specs.declared.verdict.Field.TheVariants as fields
use Rattle.cosim_check.specs.Fields.{first_difference, is_same, value_of}

-- the step of hart h that is told what a record shows
abbrev pub retold : CoreState → ℕ → Event → Answer
retold core h e = step (told_by e) core h

-- an interrupt that hart h may take now (Privileged ISA, "Machine Interrupt Registers")
abbrev pub may_interrupt : CoreState → ℕ → ℕ → Bool
may_interrupt core h cause = may_be_taken (hart_of core h).csrs (hart_of core h).mode cause

-- of what the host window says, only a word that sends a byte is taken by the host while a program runs
abbrev pub sent_word : ℕ → HostSays → Option ℕ
sent_word w Nothing = None
sent_word w (End code) = None
sent_word w (Send byte) = Some w
sent_word w (Bad word) = None

-- the word that the host takes out of its window now
abbrev pub host_takes : CoreState → ℕ → Option ℕ
host_takes core tohost = sent_word (number_at core.ram tohost 8) (host_says tohost core.ram)

-- the record of an instruction is allowed where it is what the step of its hart shows, that of an interrupt where the
-- hart may take it, and that of the host where its word is the one that the host takes
abbrev pub Allows : CoreState → ℕ → Event → Type 0
Allows core tohost (Commit h mode pc insn rd st dv vl) =
    (h < length core.harts) × ((retold core h (Commit h mode pc insn rd st dv vl)).event ≡ Commit h mode pc insn rd st dv vl)
Allows core tohost (Exception h mode pc cause tval) =
    (h < length core.harts) × ((retold core h (Exception h mode pc cause tval)).event ≡ Exception h mode pc cause tval)
Allows core tohost (Interrupt h cause) = (h < length core.harts) × IsTrue (may_interrupt core h cause)
Allows core tohost (Host word) = host_takes core tohost ≡ Some word

-- the core after an allowed record: that step was made, or the host's window was cleared
abbrev pub core_past : CoreState → ℕ → Event → CoreState
core_past core tohost (Commit h mode pc insn rd st dv vl) = (retold core h (Commit h mode pc insn rd st dv vl)).core
core_past core tohost (Exception h mode pc cause tval) = (retold core h (Exception h mode pc cause tval)).core
core_past core tohost (Interrupt h cause) = (retold core h (Interrupt h cause)).core
core_past core tohost (Host word) = host_cleared core tohost

-- ---- what is wrong with a record: a field, its allowed value and the record's own

-- its hart does not exist
abbrev pub no_hart : ℕ → Fault
no_hart h = record { field = fields.Hart; allowed = None; given = Some h }

-- its interrupt may not be taken
abbrev pub not_taken : ℕ → Fault
not_taken cause = record { field = fields.Cause; allowed = None; given = Some cause }

-- the host takes another word, or none
abbrev pub other_word : Option ℕ → ℕ → Fault
other_word takes word = record { field = fields.Host; allowed = takes; given = Some word }

abbrev pub fault_in : Event → Event → Option Field → Option Fault
fault_in allowed given None = None
fault_in allowed given (Some field) = Some (record { field = field; allowed = value_of field allowed; given = value_of field given })

-- the first field in which it differs from what the step shows
abbrev pub difference : Event → Event → Option Fault
difference allowed given = fault_in allowed given (first_difference allowed given)

abbrev pub instruction_fault : CoreState → ℕ → Event → Option Fault
instruction_fault core h e = if nat_lt h (length core.harts) then difference (retold core h e).event e else Some (no_hart h)

abbrev pub interrupt_fault : CoreState → ℕ → ℕ → Option Fault
interrupt_fault core h cause =
    if nat_lt h (length core.harts) then (if may_interrupt core h cause then None else Some (not_taken cause)) else Some (no_hart h)

abbrev pub host_fault : Option ℕ → ℕ → Option Fault
host_fault takes word = if is_same takes (Some word) then None else Some (other_word takes word)

-- nothing is wrong with an allowed record
unfoldable pub fault_of : CoreState → ℕ → Event → Option Fault
fault_of core tohost (Commit h mode pc insn rd st dv vl) = instruction_fault core h (Commit h mode pc insn rd st dv vl)
fault_of core tohost (Exception h mode pc cause tval) = instruction_fault core h (Exception h mode pc cause tval)
fault_of core tohost (Interrupt h cause) = interrupt_fault core h cause
fault_of core tohost (Host word) = host_fault (host_takes core tohost) word
