-- Hexadecimal digits that are written one by one.
use Rattle.std.proofs.Common.{◌≡◌, ℕ, zero, suc, ◌-◌, ◌*◌, ◌/◌, ◌%◌, ◌^◌, ◌<◌, List, [], ◌∷◌, ◌++◌, append_assoc, refl, sym, ap, ◌∙◌, arith}
use Rattle.commit_log.specs.Spelling.{hex, hex_digit}

hex_first : (place value : ℕ) → 0 < place → hex place value ≡ hex_digit (value / 2 ^ (4 * (place - 1)) % 16) ∷ hex (place - 1) value
unfolding hex
hex_first zero value above = absurd (omega arith)
hex_first (suc n) value above = let e : suc n - 1 ≡ n = omega arith in rw e refl

-- the digits written with one more of them, and those still to come, are the same digits
pub digits_go_on : (written next all : List ℕ) (place value digit : ℕ) → 0 < place → next ≡ written ++ digit ∷ [] → digit ≡ hex_digit (value / 2 ^ (4 * (place - 1)) % 16) → written ++ hex place value ≡ all → next ++ hex (place - 1) value ≡ all
digits_go_on written next all place value digit above next_is digit_is before =
    ap (λ (xs : List ℕ). xs ++ hex (place - 1) value) next_is
    ∙ append_assoc written (digit ∷ []) (hex (place - 1) value)
    ∙ ap (λ (d : ℕ). written ++ (d ∷ hex (place - 1) value)) digit_is
    ∙ ap (λ (xs : List ℕ). written ++ xs) (sym (hex_first place value above))
    ∙ before
