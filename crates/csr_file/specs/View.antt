-- What an instruction reads of a register, and on what its set and clear forms work.
-- `given` is the word of a volatile register: what the hart's surroundings say it is now.
use Rattle.std.specs.Prelude.{◌≡◌, ℕ, ◌==◌, Bool, ◌||◌, not, bit_and, bit_or, if◌then◌else◌}
use Rattle.csr_file.specs.Numbers.{csr_cycle, csr_instret, csr_mcycle, csr_mhartid, csr_mip, csr_misa, csr_sie, csr_sip, csr_sstatus, csr_time}
use Rattle.csr_file.specs.Bits.{all_bits, mip_live, misa_value, sip_live, sstatus_read}
use Rattle.csr_file.specs.declared.registers.Registers.{Registers}
use Rattle.csr_file.specs.Kept.{kept_value}

-- the bits of a register that are read from `given`: all of the cycle and time counters, and the bits
-- of mip and sip that devices drive
unfoldable pub volatile_bits : ℕ → ℕ
volatile_bits number =
    if (number == csr_cycle) || (number == csr_time) || (number == csr_mcycle) then all_bits
    else if number == csr_mip then mip_live
    else if number == csr_sip then sip_live
    else 0

-- the registers that have such bits
unfoldable pub is_volatile_number : ℕ → Bool
is_volatile_number number = not (volatile_bits number == 0)

-- given has no bit outside the register's volatile bits
abbrev pub IsGiven : ℕ → ℕ → Type 0
IsGiven number given = bit_and given (volatile_bits number) ≡ given

-- what an instruction reads (Privileged ISA, "Supervisor Status Register", "Supervisor Interrupt Registers",
-- "Machine Interrupt Registers", "Hardware Performance Monitor"; Unprivileged ISA, "Counters").
-- A register that keeps a value and has no line of its own reads as it; any other reads 0
unfoldable pub view : Registers → ℕ → ℕ → ℕ
view r number given =
    if number == csr_sstatus then bit_and r.kept.mstatus sstatus_read
    else if number == csr_sie then bit_and r.kept.mie r.kept.mideleg
    else if number == csr_sip then bit_and (bit_or r.kept.mip given) r.kept.mideleg
    else if number == csr_mip then bit_or r.kept.mip given
    else if (number == csr_cycle) || (number == csr_time) || (number == csr_mcycle) then given
    else if number == csr_instret then r.kept.minstret
    else if number == csr_misa then misa_value
    else if number == csr_mhartid then r.hart
    else kept_value number r

-- what CSRRS and CSRRC set and clear bits in: what is read, but of mip and sip the software bits alone, so that
-- the bits which devices drive are not written back (Privileged ISA, "Machine Interrupt Registers")
unfoldable pub base : Registers → ℕ → ℕ → ℕ
base r number given =
    if number == csr_mip then r.kept.mip
    else if number == csr_sip then bit_and r.kept.mip r.kept.mideleg
    else view r number given
