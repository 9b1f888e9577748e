-- A bit of a conjunction, a disjunction and a complement.
use Rattle.std.proofs.Common.{◌≡◌, ℕ, ◌-◌, ◌^◌, ◌<◌, ◌==◌, not, ◌&&◌, ◌||◌, bit_and, bit_or, min, max, ap, ◌∙◌, arith, w64}
use Rattle.std.specs.Int.{bit_at}
use Rattle.std.proofs.lemmas.Nat.Bits.{bit_at_and, bit_at-lt, bit_at_not, bit_at_or}
use Rattle.csr_file.specs.Bits.{all_bits}
use Rattle.rv_alu.specs.Bits.{has_bit}

both_bits : (x y : ℕ) → x < 2 → y < 2 → (min x y == 1) ≡ ((x == 1) && (y == 1))
both_bits x y x_fits y_fits = grind arith

either_bit : (x y : ℕ) → x < 2 → y < 2 → (max x y == 1) ≡ ((x == 1) || (y == 1))
either_bit x y x_fits y_fits = grind arith

other_bit : (x : ℕ) → x < 2 → (1 - x == 1) ≡ not (x == 1)
other_bit x x_fits = grind arith

pub has_bit-and : (a b n : ℕ) → has_bit (bit_and a b) n ≡ (has_bit a n && has_bit b n)
has_bit-and a b n = ap (λ x. x == 1) (bit_at_and a b n) ∙ both_bits (bit_at a n) (bit_at b n) (bit_at-lt a n) (bit_at-lt b n)

pub has_bit-or : (a b n : ℕ) → has_bit (bit_or a b) n ≡ (has_bit a n || has_bit b n)
has_bit-or a b n = ap (λ x. x == 1) (bit_at_or a b n) ∙ either_bit (bit_at a n) (bit_at b n) (bit_at-lt a n) (bit_at-lt b n)

pub has_bit-not : (a n : ℕ) → a < 2 ^ 64 → n < 64 → has_bit (all_bits - a) n ≡ not (has_bit a n)
has_bit-not a n a_fits n_fits = ap (λ x. x == 1) (bit_at_not w64 a n a_fits n_fits) ∙ other_bit (bit_at a n) (bit_at-lt a n)
