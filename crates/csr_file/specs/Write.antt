-- What a write to a register leaves (Privileged ISA, "CSR Field Specifications"; of the views, "Supervisor Status
-- Register", "Supervisor Interrupt Registers").
use Rattle.std.specs.Prelude.{ℕ, ◌-◌, ◌==◌, bit_and, bit_or, if◌then◌else◌}
use Rattle.csr_file.specs.Numbers.{csr_mie, csr_mip, csr_mstatus, csr_sie, csr_sip, csr_sstatus}
use Rattle.csr_file.specs.Bits.{all_bits, sstatus_bits, supervisor_software}
use Rattle.csr_file.specs.declared.registers.Registers.{Registers}
use Rattle.csr_file.specs.Legal.{legal}
use Rattle.csr_file.specs.Kept.{kept_value, with_kept}

-- old with the bits of mask taken from v
abbrev pub merged : ℕ → ℕ → ℕ → ℕ
merged mask old v = bit_or (bit_and old (all_bits - mask)) (bit_and v mask)

-- the one register whose kept value a write to `number` may change: that of which it is a view, else itself
unfoldable pub changed_register : ℕ → ℕ
changed_register number =
    if number == csr_sstatus then csr_mstatus
    else if number == csr_sie then csr_mie
    else if number == csr_sip then csr_mip
    else number

-- What a write of v to `number` asks that register to keep. A write to a view writes these bits of it: of mstatus those
-- of sstatus, of mie those that mideleg delegates, of mip the supervisor software interrupt where mideleg delegates it
unfoldable pub asked_value : ℕ → ℕ → Registers → ℕ
asked_value number v r =
    if number == csr_sstatus then merged sstatus_bits r.kept.mstatus v
    else if number == csr_sie then merged r.kept.mideleg r.kept.mie v
    else if number == csr_sip then merged (bit_and r.kept.mideleg supervisor_software) r.kept.mip v
    else v

-- the register keeps the legal value, and one that keeps none ignores the write. All other registers stay
unfoldable pub written : ℕ → ℕ → Registers → Registers
written number v r =
    let changed : ℕ = changed_register number in
    with_kept changed (legal changed (kept_value changed r) (asked_value number v r)) r
