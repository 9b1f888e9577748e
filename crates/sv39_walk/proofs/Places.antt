-- The place of an address in its page.
use Rattle.std.proofs.Common.{◌≡◌, ℕ, zero, suc, ◌+◌, ◌*◌, ◌%◌, ◌≤◌, arith}
use Rattle.rv_alu.specs.Arithmetic.{bits_of}

-- a leaf of each level leaves the low 12 bits
pub place_kept : (page level va : ℕ) → level ≤ 2 → (page * 4096 + bits_of va 0 (12 + 9 * level)) % 4096 ≡ va % 4096
place_kept page zero va within = omega arith
place_kept page (suc zero) va within = omega arith
place_kept page (suc (suc zero)) va within = omega arith
place_kept page (suc (suc (suc n))) va within = absurd (omega arith)
