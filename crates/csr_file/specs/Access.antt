-- Which accesses to a register are allowed (Privileged ISA, "CSR Address Mapping Conventions").
use Rattle.std.specs.Prelude.{ℕ, ◌-◌, ◌==◌, Bool, true, ◌&&◌, ◌||◌, not, nat_le, bit_and, is_some, if◌then◌else◌}
use Rattle.rv_alu.specs.Bits.{has_bit}
use Rattle.rv_alu.specs.Modes.{level}
use Rattle.rv_alu.specs.declared.Mode.{Mode}
use Rattle.csr_file.specs.Bits.{mstatus_tvm}
use Rattle.csr_file.specs.declared.registers.Registers.{Registers}
use Rattle.csr_file.specs.Numbers.{csr_cycle, csr_satp, is_debug_number, is_listed, is_read_only, is_user_counter, lowest_mode}

-- debug mode counts as machine mode (External Debug Support, "Debug Mode")
abbrev pub effective_mode : Registers → Mode → Mode
effective_mode r mode = if is_some r.debug then Mode.M else mode

-- the register is there: its number is listed, and a register of debug mode is there in debug mode alone
abbrev pub is_present : Registers → ℕ → Bool
is_present r number = is_listed number && (not (is_debug_number number) || is_some r.debug)

-- the bit of a counter in mcounteren or scounteren is set
abbrev pub is_enabled : ℕ → ℕ → Bool
is_enabled enable number = has_bit enable (number - csr_cycle)

-- machine mode may read each counter, supervisor mode those that mcounteren enables, and user mode those that
-- mcounteren and scounteren enable (Privileged ISA, "Machine Counter-Enable Register", "Counter-Enable Register")
abbrev pub may_count : Registers → Mode → ℕ → Bool
may_count r Mode.M number = true
may_count r Mode.S number = is_enabled r.kept.mcounteren number
may_count r Mode.U number = is_enabled r.kept.mcounteren number && is_enabled r.kept.scounteren number

-- the bit TVM of mstatus keeps supervisor mode away from satp
-- (Privileged ISA, "Virtualization Support in mstatus Register")
abbrev pub is_trapped : Registers → Mode → ℕ → Bool
is_trapped r mode number = (number == csr_satp) && (level mode == 1) && not (bit_and r.kept.mstatus mstatus_tvm == 0)

-- in this mode, the register may be read, or written too
unfoldable pub allows : Registers → Mode → ℕ → Bool → Bool
allows r mode number write =
    is_present r number && nat_le (lowest_mode number) (level mode) && not (write && is_read_only number) && not (is_trapped r mode number) && (not (is_user_counter number) || may_count r mode number)

-- an access in this mode is legal
abbrev pub may_access : Registers → Mode → ℕ → Bool → Bool
may_access r mode number write = allows r (effective_mode r mode) number write
