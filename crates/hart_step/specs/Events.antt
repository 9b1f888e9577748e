-- What every event of a step keeps, and what an instruction shows of itself.
use Rattle.std.specs.Prelude.{ℕ, ◌^◌, ◌<◌, ◌≤◌, Option, Some, None}
use Rattle.guest_ram.specs.Bytes.{IsSize}
use Rattle.hart_step.specs.Done.{Done}
use Rattle.hart_step.specs.declared.event.Event.{Event}
use Rattle.hart_step.specs.declared.event.Event.TheVariants.{Commit, Exception, Interrupt, Host}
use Rattle.hart_step.specs.declared.event.Put.{Put}

-- the register that is shown as written is one of x1 to x31
abbrev pub IsWritten : Option (ℕ × ℕ) → Type 0
IsWritten None = Unit {0}
IsWritten (Some rd) = (1 ≤ rd.0) × (rd.0 ≤ 31)

-- what is shown as stored has the size of an access, and a value of so many bytes
abbrev pub IsStored : Option Put → Type 0
IsStored None = Unit {0}
IsStored (Some st) = IsSize st.size × (st.value < 256 ^ st.size)

-- there are at most eight harts, and a cause is a number below 16
abbrev pub IsEvent : Event → Type 0
IsEvent (Commit hart mode pc insn rd st dv vl) = (hart < 8) × IsWritten rd × IsStored st
IsEvent (Exception hart mode pc cause tval) = (hart < 8) × (cause < 16)
IsEvent (Interrupt hart cause) = (hart < 8) × (cause < 16)
IsEvent (Host v) = Unit {0}

-- the exception that an event shows, by its pc and its cause
abbrev pub exception_of : Event → Option (ℕ × ℕ)
exception_of (Exception hart mode pc cause tval) = Some (pc, cause)
exception_of (Commit hart mode pc insn rd st dv vl) = None
exception_of (Interrupt hart cause) = None
exception_of (Host v) = None

-- what an event shows as stored
abbrev pub shown_store : Event → Option Put
shown_store (Commit hart mode pc insn rd st dv vl) = st
shown_store (Exception hart mode pc cause tval) = None
shown_store (Interrupt hart cause) = None
shown_store (Host v) = None

-- the same of what an instruction shows
pub record IsDone (done : Done) : Type 0 where
  pub rd : IsWritten done.rd
  pub st : IsStored done.st
