-- Hexadecimal digits that are written byte by byte.
use Rattle.std.proofs.Common.{◌≡◌, ℕ, zero, suc, ◌+◌, ◌-◌, ◌*◌, ◌/◌, ◌%◌, ◌^◌, ◌<◌, ◌≤◌, Bool, true, ◌&&◌, T, eqb, eqb→eq, eq-zero-or-pos, inl, inr, get_or, List, [], ◌∷◌, ◌++◌, length, take, slice_set, append_assoc, sym, ap, ◌∙◌, arith}
use lib.Ieee.Fits.{and_l, and_r}
use Rattle.std.proofs.lemmas.List.{append-nil, length-set, take_more_set}
use Rattle.std.proofs.lemmas.Nat.{pow-add}
use Rattle.std.proofs.Math.Nat.{div-div-eq-div-mul}
use Rattle.commit_log.specs.Spelling.{hex, hex_digit}
use Rattle.commit_log.specs.declared.pairs.TheConstants.{PAIRS}

-- ---- the table

-- the table has the digits of each of the first n bytes
abbrev are_pairs : ℕ → Bool
are_pairs zero = true
are_pairs (suc n) = (eqb (get_or PAIRS (n * 2) 0) (hex_digit (n / 16)) && eqb (get_or PAIRS (n * 2 + 1) 0) (hex_digit (n % 16))) && are_pairs n

pairs_below : (n byte : ℕ) → T (are_pairs n) → byte < n → (get_or PAIRS (byte * 2) 0 ≡ hex_digit (byte / 16)) × (get_or PAIRS (byte * 2 + 1) 0 ≡ hex_digit (byte % 16))
pairs_below zero byte all below = absurd (omega arith)
pairs_below (suc n) byte all below =
    elim (eq-zero-or-pos (n - byte)) [
      | inl last ↦
          let same : byte ≡ n = omega arith in
          let both = and_l _ (are_pairs n) all in
          rw same (eqb→eq _ _ (and_l _ _ both), eqb→eq _ _ (and_r _ _ both))
      | inr earlier ↦ pairs_below n byte (and_r _ (are_pairs n) all) (omega arith)
    ]

pub pair_of : (byte : ℕ) → byte < 256 → (get_or PAIRS (byte * 2) 0 ≡ hex_digit (byte / 16)) × (get_or PAIRS (byte * 2 + 1) 0 ≡ hex_digit (byte % 16))
pair_of byte below = pairs_below 256 byte tt below

-- two writes in a row, of the digits that the table has
pub pair_written : (xs : List ℕ) (at x y first second : ℕ) → at + 2 ≤ length xs → x ≡ first → y ≡ second → take (at + 2) (slice_set (slice_set xs at x) (at + 1) y) ≡ take at xs ++ first ∷ second ∷ []
pair_written xs at x y first second fits first_is second_is =
    let len : length (slice_set xs at x) ≡ length xs = length-set xs at x in
    let two : at + 2 ≡ at + 1 + 1 = omega arith in
    let later = take_more_set (slice_set xs at x) (at + 1) y (omega (arith, len)) in
    let sooner = take_more_set xs at x (omega arith) in
    rw (two, later, sooner, first_is, second_is) (append_assoc (take at xs) (first ∷ []) (second ∷ []))

-- ---- a number

halves : (v : ℕ) → (v / 16 % 16 ≡ v % 256 / 16) × (v % 16 ≡ v % 256 % 16)
halves v = (omega arith, omega arith)

-- the digits of the next byte, and those still to come
hex_pair : (n value : ℕ) → hex (2 * suc n) value ≡ hex_digit (value / 2 ^ (8 * n) % 256 / 16) ∷ hex_digit (value / 2 ^ (8 * n) % 256 % 16) ∷ hex (2 * n) value
unfolding hex
hex_pair n value =
    let count : 2 * suc n ≡ suc (suc (2 * n)) = omega arith in
    let next : 4 * suc (2 * n) ≡ 8 * n + 4 = omega arith in
    let here : 4 * (2 * n) ≡ 8 * n = omega arith in
    let power : 2 ^ (4 * suc (2 * n)) ≡ 2 ^ (8 * n) * 16 = ap (λ (k : ℕ). 2 ^ k) next ∙ pow-add 2 (8 * n) 4 in
    let high : value / 2 ^ (4 * suc (2 * n)) % 16 ≡ value / 2 ^ (8 * n) % 256 / 16 =
    ap (λ (p : ℕ). value / p % 16) power
    ∙ ap (λ (v : ℕ). v % 16) (sym (div-div-eq-div-mul value (2 ^ (8 * n)) 16))
    ∙ (halves (value / 2 ^ (8 * n))).0 in
    let low : value / 2 ^ (4 * (2 * n)) % 16 ≡ value / 2 ^ (8 * n) % 256 % 16 =
    ap (λ (k : ℕ). value / 2 ^ k % 16) here ∙ (halves (value / 2 ^ (8 * n))).1 in
    ap (λ (k : ℕ). hex k value) count
    ∙ ap (λ (d : ℕ). d ∷ hex_digit (value / 2 ^ (4 * (2 * n)) % 16) ∷ hex (2 * n) value) (ap hex_digit high)
    ∙ ap (λ (d : ℕ). hex_digit (value / 2 ^ (8 * n) % 256 / 16) ∷ d ∷ hex (2 * n) value) (ap hex_digit low)

hex_first : (place value : ℕ) → 0 < place → hex (2 * place) value ≡ hex_digit (value / 2 ^ (8 * (place - 1)) % 256 / 16) ∷ hex_digit (value / 2 ^ (8 * (place - 1)) % 256 % 16) ∷ hex (2 * (place - 1)) value
hex_first zero value above = absurd (omega arith)
hex_first (suc n) value above = let e : suc n - 1 ≡ n = omega arith in rw e (hex_pair n value)

-- the digits written with those of one more byte, and those still to come, are the same digits
pub hex_goes_on : (written next all : List ℕ) (place value byte : ℕ) → 0 < place → next ≡ written ++ hex_digit (byte / 16) ∷ hex_digit (byte % 16) ∷ [] → byte ≡ value / 2 ^ (8 * (place - 1)) % 256 → written ++ hex (2 * place) value ≡ all → next ++ hex (2 * (place - 1)) value ≡ all
hex_goes_on written next all place value byte above next_is byte_is before =
    ap (λ (xs : List ℕ). xs ++ hex (2 * (place - 1)) value) next_is
    ∙ append_assoc written (hex_digit (byte / 16) ∷ hex_digit (byte % 16) ∷ []) (hex (2 * (place - 1)) value)
    ∙ ap (λ (b : ℕ). written ++ (hex_digit (b / 16) ∷ hex_digit (b % 16) ∷ hex (2 * (place - 1)) value)) byte_is
    ∙ ap (λ (xs : List ℕ). written ++ xs) (sym (hex_first place value above))
    ∙ before

-- no digit is to come
pub hex_done : (written all : List ℕ) (place value : ℕ) → place ≤ 0 → written ++ hex (2 * place) value ≡ all → written ≡ all
unfolding hex
hex_done written all zero value none is = sym (append-nil written) ∙ is
hex_done written all (suc n) value none is = absurd (omega arith)
