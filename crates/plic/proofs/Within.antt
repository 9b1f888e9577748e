-- Sets of the two sources.
use Rattle.std.proofs.Common.{ℕ, List, zero, suc, refl, arith, bit_and, bit_or}
use Rattle.std.proofs.lemmas.Nat.{and_assoc, and_le_r}
use Rattle.plic.specs.State.{IsWithinSources}
use Rattle.plic.specs.Kept.{IsKept}

-- the sources of any set are sources
pub within_and : (x m : ℕ) → IsWithinSources m → IsWithinSources (bit_and x m)
within_and x m h = rw (and_assoc 6 x m, h)

-- with source 1
pub within_or_first : (x : ℕ) → IsWithinSources x → IsWithinSources (bit_or x 2)
within_or_first zero h = refl
within_or_first (suc zero) h = absurd (omega arith)
within_or_first (suc (suc zero)) h = refl
within_or_first (suc (suc (suc zero))) h = absurd (omega arith)
within_or_first (suc (suc (suc (suc zero)))) h = refl
within_or_first (suc (suc (suc (suc (suc zero))))) h = absurd (omega arith)
within_or_first (suc (suc (suc (suc (suc (suc zero)))))) h = refl
within_or_first (suc (suc (suc (suc (suc (suc (suc n))))))) h =
    absurd (omega (arith, and_le_r (suc (suc (suc (suc (suc (suc (suc n))))))) 6))

-- with source 2
pub within_or_second : (x : ℕ) → IsWithinSources x → IsWithinSources (bit_or x 4)
within_or_second zero h = refl
within_or_second (suc zero) h = absurd (omega arith)
within_or_second (suc (suc zero)) h = refl
within_or_second (suc (suc (suc zero))) h = absurd (omega arith)
within_or_second (suc (suc (suc (suc zero)))) h = refl
within_or_second (suc (suc (suc (suc (suc zero))))) h = absurd (omega arith)
within_or_second (suc (suc (suc (suc (suc (suc zero)))))) h = refl
within_or_second (suc (suc (suc (suc (suc (suc (suc n))))))) h =
    absurd (omega (arith, and_le_r (suc (suc (suc (suc (suc (suc (suc n))))))) 6))

-- the registers with another set of served sources
pub kept_marks : (contexts : ℕ) (priority enable threshold : List ℕ) (served marks : ℕ) → IsKept contexts priority enable threshold served → IsWithinSources marks → IsKept contexts priority enable threshold marks
kept_marks contexts priority enable threshold served marks kept within = record {
  some = kept.some;
  most = kept.most;
  priorities = kept.priorities;
  enables = kept.enables;
  thresholds = kept.thresholds;
  marks = within;
}
