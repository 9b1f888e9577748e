-- Which interrupt is taken (Privileged ISA, "Machine Interrupt Registers", "Supervisor Interrupt Registers").
-- `live` has the bits of mip that devices drive now.
use Rattle.std.specs.Prelude.{ℕ, ◌^◌, ◌==◌, Bool, false, true, ◌&&◌, ◌||◌, not, is_some, if◌then◌else◌, Option, None, Some, List, [], ◌∷◌, find, ◌<◌, IsTrue}
use Rattle.std.specs.Option.{option_or}
use Rattle.rv_alu.specs.declared.Mode.{Mode}
use Rattle.rv_alu.specs.Modes.{level}
use Rattle.csr_file.specs.Bits.{mstatus_mie, mstatus_sie}
use Rattle.csr_file.specs.declared.registers.Registers.{Registers}
use Rattle.trap_rules.specs.declared.Cause.{Cause}
use Rattle.trap_rules.specs.Status.{has_any}
use Rattle.rv_alu.specs.Bits.{has_bit}

-- interrupt n is pending, by the software bits or by a live signal, and mie enables it
abbrev pub is_waiting : Registers → ℕ → ℕ → Bool
is_waiting r live n = (has_bit r.kept.mip n || has_bit live n) && has_bit r.kept.mie n

-- an interrupt bound for M can be taken below M, and in M where MIE is set
abbrev pub is_machine_open : Registers → Mode → Bool
is_machine_open r mode = not (level mode == 3) || has_any r.kept.mstatus mstatus_mie

-- an interrupt bound for S can be taken in U, in S where SIE is set, and never in M
abbrev pub is_supervisor_open : Registers → Mode → Bool
is_supervisor_open r Mode.U = true
is_supervisor_open r Mode.S = has_any r.kept.mstatus mstatus_sie
is_supervisor_open r Mode.M = false

-- interrupt n traps to M: it waits, and mideleg does not delegate it
abbrev pub traps_to_machine : Registers → Mode → ℕ → ℕ → Bool
traps_to_machine r mode live n = is_machine_open r mode && (is_waiting r live n && not (has_bit r.kept.mideleg n))

-- interrupt n traps to S: it waits, and mideleg delegates it
abbrev pub traps_to_supervisor : Registers → Mode → ℕ → ℕ → Bool
traps_to_supervisor r mode live n = is_supervisor_open r mode && (is_waiting r live n && has_bit r.kept.mideleg n)

-- the order among interrupts for one mode: MEI, MSI, MTI, SEI, SSI, STI
abbrev pub interrupt_order : List ℕ
interrupt_order = 11 ∷ 3 ∷ 7 ∷ 9 ∷ 1 ∷ 5 ∷ []

-- the interrupt that is taken: the first that traps to M, or else the first that traps to S; in debug mode none
-- (External Debug Support, "Debug Mode")
unfoldable pub picked : Registers → Mode → ℕ → Option ℕ
picked r mode live =
    if is_some r.debug then None
    else option_or (find (traps_to_machine r mode live) interrupt_order) (find (traps_to_supervisor r mode live) interrupt_order)

-- the live signal of interrupt n alone, where devices drive it: MSI, MTI, SEI and MEI. Software drives the others
abbrev pub own_signal : ℕ → ℕ
own_signal n = if (n == 3) || (n == 7) || (n == 9) || (n == 11) then 2 ^ n else 0

-- this interrupt is the one
abbrev pub is_interrupt : ℕ → Option ℕ → Bool
is_interrupt n None = false
is_interrupt n (Some cause) = cause == n

-- interrupt n may be taken, whatever devices drive: it is the one that is taken under its own signal alone
unfoldable pub may_be_taken : Registers → Mode → ℕ → Bool
may_be_taken r mode n = is_interrupt n (picked r mode (own_signal n))

-- a trap with this cause may come: an exception has a number below 16, and an interrupt is one that may be taken
abbrev pub MayCome : Registers → Mode → Cause → Type 0
MayCome r mode (Cause.Exception n) = n < 16
MayCome r mode (Cause.Interrupt n) = IsTrue (may_be_taken r mode n)
