-- The stack of privilege modes and interrupt enables in mstatus
-- (Privileged ISA, "Privilege and Global Interrupt-Enable Stack in mstatus register"; of MPRV, "Memory Privilege in
-- mstatus Register").
use Rattle.std.specs.Prelude.{ℕ, ◌+◌, ◌*◌, ◌/◌, ◌%◌, ◌^◌, ◌==◌, Bool, not, bit_and, if◌then◌else◌}
use Rattle.rv_alu.specs.declared.Mode.{Mode}
use Rattle.rv_alu.specs.Modes.{level, mode_of}
use Rattle.csr_file.specs.Bits.{mstatus_mie, mstatus_mpie, mstatus_mpp, mstatus_mprv, mstatus_sie, mstatus_spie, mstatus_spp}
use Rattle.csr_file.specs.Write.{merged}

-- the word has any of the bits of the mask
abbrev pub has_any : ℕ → ℕ → Bool
has_any word mask = not (bit_and word mask == 0)

-- these bits where the test holds, else none
abbrev pub bits_if : Bool → ℕ → ℕ
bits_if test mask = if test then mask else 0

-- the mode in MPP, bits 12:11, to which mret returns
abbrev pub machine_previous : ℕ → Mode
machine_previous status = mode_of (status / 2 ^ 11 % 2 ^ 2)

-- the mode in SPP, to which sret returns
abbrev pub supervisor_previous : ℕ → Mode
supervisor_previous status = if has_any status mstatus_spp then Mode.S else Mode.U

-- a trap into M: MPIE gets MIE, MIE gets 0, and MPP gets the mode in which the trap came
unfoldable pub machine_stacked : Mode → ℕ → ℕ
machine_stacked mode status =
    merged (mstatus_mie + mstatus_mpie + mstatus_mpp) status (bits_if (has_any status mstatus_mie) mstatus_mpie + level mode * 2 ^ 11)

-- a trap into S: SPIE gets SIE, SIE gets 0, and SPP gets the mode, U or S, in which the trap came
unfoldable pub supervisor_stacked : Mode → ℕ → ℕ
supervisor_stacked mode status =
    merged (mstatus_sie + mstatus_spie + mstatus_spp) status (bits_if (has_any status mstatus_sie) mstatus_spie + bits_if (level mode == 1) mstatus_spp)

-- mret: MIE gets MPIE, MPIE gets 1, MPP gets U, and a return to a mode below M clears MPRV
unfoldable pub machine_unstacked : ℕ → ℕ
machine_unstacked status =
    merged (mstatus_mie + mstatus_mpie + mstatus_mpp + bits_if (not (level (machine_previous status) == 3)) mstatus_mprv) status (bits_if (has_any status mstatus_mpie) mstatus_mie + mstatus_mpie)

-- sret: SIE gets SPIE, SPIE gets 1, SPP gets U, and MPRV gets 0
unfoldable pub supervisor_unstacked : ℕ → ℕ
supervisor_unstacked status =
    merged (mstatus_sie + mstatus_spie + mstatus_spp + mstatus_mprv) status (bits_if (has_any status mstatus_spie) mstatus_sie + mstatus_spie)
