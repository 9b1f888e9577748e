-- The wants of the block of a hart, in their order.
use Rattle.std.specs.Prelude.{ℕ, zero, suc, ◌+◌, List, [], ◌∷◌, ◌++◌, slice_index}
use Rattle.rv_alu.specs.Modes.{level}
use Rattle.csr_file.specs.Bits.{dcsr_fixed}
use Rattle.csr_file.specs.Kept.{kept_value}
use Rattle.csr_file.specs.Legal.{kept_numbers}
use Rattle.csr_file.specs.Numbers.{csr_dcsr, csr_dpc}
use Rattle.csr_file.specs.declared.registers.Registers.{Registers}
use Rattle.hart_step.specs.declared.hart.Hart.{Hart}
use Rattle.rom_gen.specs.Wants.{Want, Reg, Control}

-- the registers of these numbers are wanted as r keeps them
unfoldable pub number_wants : Registers → List ℕ → List Want
number_wants r [] = []
number_wants r (number ∷ numbers) = Control number (kept_value number r) ∷ number_wants r numbers

-- n registers x, from number i on
unfoldable pub numbered : ℕ → ℕ → List ℕ → List Want
numbered zero i xs = []
numbered (suc n) i xs = Reg i (slice_index xs i) ∷ numbered n (suc i) xs

-- those that every hart keeps, and the two that dret reads: the mode and the pc (External Debug Support, "Debug Control
-- and Status" and "Debug PC")
abbrev pub controls : Hart → List Want
controls target = number_wants target.csrs kept_numbers ++ (Control csr_dcsr (dcsr_fixed + level target.mode) ∷ Control csr_dpc target.pc ∷ [])

-- x2 to x31
abbrev pub registers : Hart → List Want
registers target = numbered 30 2 target.x

-- all but the last want, x1, which has the block's address until then
abbrev pub first_wants : Hart → List Want
first_wants target = controls target ++ registers target
