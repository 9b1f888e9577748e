-- A flag of an entry is the bit at its place.
use Rattle.std.proofs.Common.{◌≡◌, ℕ, zero, suc, ◌+◌, ◌*◌, ◌/◌, ◌%◌, ◌^◌, ◌<◌, bit_and, ap, ap₂, ◌∙◌, arith}
use Rattle.std.specs.Prelude.{◌==◌}
use Rattle.std.specs.Int.Bits.{and_zero_r}
use Rattle.std.proofs.lemmas.Nat.{and_block, and_mask}
use Rattle.rv_alu.specs.Bits.{has_bit}

-- what a mask of one bit keeps
kept : (n k : ℕ) → 0 < 2 ^ k → bit_and n (2 ^ k) ≡ n / 2 ^ k % 2 * 2 ^ k
kept n k some =
    let whole : n ≡ n / 2 ^ k * 2 ^ k + n % 2 ^ k = omega arith in
    let mask : 2 ^ k ≡ 1 * 2 ^ k + 0 = omega arith in
    let parts = and_block k (n / 2 ^ k) 1 (n % 2 ^ k) 0 (omega arith) some in
    let low : bit_and (n % 2 ^ k) 0 ≡ 0 = and_zero_r (n % 2 ^ k) in
    let high : bit_and (n / 2 ^ k) 1 ≡ n / 2 ^ k % 2 = and_mask (n / 2 ^ k) 1 in
    ap₂ bit_and whole mask ∙ parts ∙ ap₂ (λ h l. h * 2 ^ k + l) high low ∙ omega arith

-- a multiple below 2 * p of p is p just where it is taken once
once : (m p : ℕ) → m < 2 → 0 < p → (m * p == p) ≡ (m == 1)
once zero p few some = grind arith
once (suc zero) p few some = grind arith
once (suc (suc m)) p few some = absurd (omega arith)

-- the test that the mask of one bit is kept whole
tested : (n k : ℕ) → 0 < 2 ^ k → (bit_and n (2 ^ k) == 2 ^ k) ≡ has_bit n k
tested n k some = ap (λ x. x == 2 ^ k) (kept n k some) ∙ once (n / 2 ^ k % 2) (2 ^ k) (omega arith) some

pub read_bit : (n : ℕ) → (bit_and n 2 == 2) ≡ has_bit n 1
read_bit n = tested n 1 (omega arith)

pub write_bit : (n : ℕ) → (bit_and n 4 == 4) ≡ has_bit n 2
write_bit n = tested n 2 (omega arith)

pub execute_bit : (n : ℕ) → (bit_and n 8 == 8) ≡ has_bit n 3
execute_bit n = tested n 3 (omega arith)

pub user_bit : (n : ℕ) → (bit_and n 16 == 16) ≡ has_bit n 4
user_bit n = tested n 4 (omega arith)

pub accessed_bit : (n : ℕ) → (bit_and n 64 == 64) ≡ has_bit n 6
accessed_bit n = tested n 6 (omega arith)

pub dirty_bit : (n : ℕ) → (bit_and n 128 == 128) ≡ has_bit n 7
dirty_bit n = tested n 7 (omega arith)
