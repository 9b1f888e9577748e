use Rattle.std.proofs.Common.{◌≡◌, ℕ, ◌-◌, ◌/◌, ◌%◌, ◌^◌, ◌≤◌, bit_and, ap, ◌∙◌, arith}
use Rattle.std.proofs.lemmas.Nat.{and_mask}
use Rattle.std.proofs.lemmas.Nat.Bits.{ones_shr}
use Rattle.rv_alu.proofs.bits.Goals as goal

-- all ones of 64 bits, moved down to n bits, keep the low n bits
masked : (x n : ℕ) → n ≤ 64 → bit_and x ((2 ^ 64 - 1) / 2 ^ (64 - n)) ≡ x % 2 ^ n
masked x n within =
    let kept : 64 - (64 - n) ≡ n = omega arith in
    ap (bit_and x) (ones_shr 64 (64 - n) (omega arith)) ∙ ap (λ k. bit_and x (2 ^ k - 1)) kept ∙ and_mask x n

pub returns : goal.returns
returns c = masked (c.args.w / 2 ^ c.args.lo) c.args.n (omega arith)
