-- The fields of the words that multiply and store.
use Rattle.std.specs.Prelude.{pos}
use Rattle.std.proofs.Common.{◌≡◌, ℕ, ◌+◌, ◌*◌, ◌/◌, ◌%◌, ◌^◌, ◌<◌, ap, ◌∙◌, arith}
use Rattle.rv_alu.specs.Arithmetic.{bits_of, modulo}
use Rattle.rv_decode.specs.declared.Insn.{Insn}
use Rattle.rv_decode.specs.Encode.{encoded, word_r}

pub storing_word : (r j : ℕ) → j < 128 → encoded (Insn.Sd 29 r (pos (8 * j))) ≡ word_r 0x3023 (8 * j % 32) 29 (r + 8 * j / 32 * 32)
unfolding encoded
storing_word r j few =
    let low : bits_of (modulo 12 (pos (8 * j))) 0 5 ≡ 8 * j % 32 = omega arith in
    let high : r + bits_of (modulo 12 (pos (8 * j))) 5 7 * 2 ^ 5 ≡ r + 8 * j / 32 * 32 = omega arith in
    ap (λ x. word_r 0x3023 x 29 (r + bits_of (modulo 12 (pos (8 * j))) 5 7 * 2 ^ 5)) low ∙ ap (word_r 0x3023 (8 * j % 32) 29) high

-- one bit of what a multiplication has beside an addition stands above its second register
pub multiplying_word : (rd rs1 rs2 : ℕ) → encoded (Insn.Mul rd rs1 rs2) ≡ word_r 0x33 rd rs1 (rs2 + 32)
unfolding encoded word_r
multiplying_word rd rs1 rs2 = omega arith
