-- A store leaves the number of harts as it is.
use Rattle.std.proofs.Common.{◌≡◌, ℕ, Option, Some, None, refl}
use Rattle.std.specs.Option.{option_map_or}
use Rattle.std.proofs.lemmas.List.{length-set}
use Rattle.clint.specs.State.{ClintRegisters, hart_count}
use Rattle.clint.specs.Access.{stored, written}
use Rattle.clint.specs.declared.registers.Register.{Register}
use Rattle.clint.specs.declared.registers.Register.TheVariants.{Msip, Mtimecmp, Mtime}

written_harts : (r : ClintRegisters) (v : ℕ) (register : Register) → hart_count (written r v register) ≡ hart_count r
written_harts r v (Msip h) = length-set r.msip h _
written_harts r v (Mtimecmp h) = refl
written_harts r v Mtime = refl

found_harts : (r : ClintRegisters) (v : ℕ) (found : Option Register) → hart_count (option_map_or (written r v) found r) ≡ hart_count r
found_harts r v None = refl
found_harts r v (Some register) = written_harts r v register

pub stored_harts : (r : ClintRegisters) (off size value : ℕ) → hart_count (stored r off size value) ≡ hart_count r
unfolding stored
stored_harts r off size value = found_harts r _ _
