-- What follows from the definitions.
use Rattle.std.specs.Prelude.{◌≡◌, ℕ}
use Rattle.clint.specs.State.{ClintRegisters, hart_count}
use Rattle.clint.specs.Access.{stored}

-- a store leaves the number of harts as it is
abbrev pub KeepsHarts : Type 0
KeepsHarts = (r : ClintRegisters) (off size value : ℕ) → hart_count (stored r off size value) ≡ hart_count r
