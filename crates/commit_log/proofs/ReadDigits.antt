-- Hexadecimal digits that are read one by one, and all at once.
use Rattle.std.proofs.Common.{◌≡◌, ℕ, zero, suc, ◌+◌, ◌-◌, ◌*◌, ◌%◌, ◌^◌, ◌<◌, ◌≤◌, ◌⊎◌, Bool, true, ◌&&◌, T, eqb, eqb→eq, eq-zero-or-pos, inl, inr, get_or, Option, Some, None, List, ◌∷◌, length, drop, Result, Ok, Err, refl, sym, ap, ◌∙◌, arith}
use lib.Ieee.Fits.{and_l, and_r}
use Rattle.std.specs.Prelude.{nat_le}
use Rattle.std.proofs.lemmas.Bool.Decides.{nat_tests}
use Rattle.std.proofs.lemmas.List.{drop-drop, drop_more}
use Rattle.std.proofs.lemmas.Nat.{mul-add-lt, pow-add}
use Rattle.std.proofs.Math.Pow.{pow_mono}
use Rattle.commit_log.specs.Reading.{digits_of, hex_value, one}
use Rattle.commit_log.specs.declared.values.TheConstants.{VALUES}

pub sixteen_times : (n : ℕ) → 2 ^ (4 * suc n) ≡ 16 * 2 ^ (4 * n)
sixteen_times n =
    let e : 4 * suc n ≡ 4 * n + 4 = omega arith in
    let p : 2 ^ (4 * n + 4) ≡ 2 ^ (4 * n) * 16 = pow-add 2 (4 * n) 4 in
    ap (λ (k : ℕ). 2 ^ k) e ∙ p ∙ omega arith

-- one more digit keeps a number below the next power
pub below_more : (value digit n : ℕ) → value < 2 ^ (4 * n) → digit < 16 → 16 * value + digit < 2 ^ (4 * (n + 1))
below_more value digit n below small =
    let same : n + 1 ≡ suc n = omega arith in
    rw (same, sixteen_times n) (omega arith)

pub fits_more : (value digit n : ℕ) → value < 2 ^ (4 * n) → digit < 16 → n < 16 → 16 * value + digit < 2 ^ 64
fits_more value digit n below small within =
    let most : 4 * (n + 1) ≤ 64 = omega arith in
    let p : 2 ^ (4 * (n + 1)) ≤ 2 ^ 64 = pow_mono most in
    omega (arith, below_more value digit n below small)

pub digits_go_on : (all : Result (ℕ × List ℕ) ℕ) (left value digit : ℕ) (bytes rest : List ℕ) → 0 < left → one hex_value bytes ≡ Ok (digit, rest) → all ≡ digits_of left value bytes → all ≡ digits_of (left - 1) (16 * value + digit) rest
unfolding digits_of
digits_go_on all zero value digit bytes rest above read is = absurd (omega arith)
digits_go_on all (suc n) value digit bytes rest above read is =
    let same : suc n - 1 ≡ n = omega arith in
    is ∙ rw (read, same) refl

pub digits_stop : (all : Result (ℕ × List ℕ) ℕ) (left value e : ℕ) (bytes : List ℕ) → 0 < left → one hex_value bytes ≡ Err e → all ≡ digits_of left value bytes → all ≡ Err e
unfolding digits_of
digits_stop all zero value e bytes above read is = absurd (omega arith)
digits_stop all (suc n) value e bytes above read is = is ∙ rw read refl

pub digits_done : (all : Result (ℕ × List ℕ) ℕ) (left value : ℕ) (bytes : List ℕ) → left ≤ 0 → all ≡ digits_of left value bytes → all ≡ Ok (value, bytes)
unfolding digits_of
digits_done all zero value bytes none is = is
digits_done all (suc n) value bytes none is = absurd (omega arith)

-- ---- all at once

-- an entry of the table is the value of a digit, or no digit's
abbrev is_entry : Option ℕ → ℕ → Bool
is_entry None entry = nat_le 4294967296 entry && nat_le entry 4294967296
is_entry (Some digit) entry = eqb entry digit && nat_le entry 4294967296

abbrev are_values : ℕ → Bool
are_values zero = true
are_values (suc n) = is_entry (hex_value n) (get_or VALUES n 0) && are_values n

values_below : (n c : ℕ) → T (are_values n) → c < n → T (is_entry (hex_value c) (get_or VALUES c 0))
values_below zero c all below = absurd (omega arith)
values_below (suc n) c all below =
    elim (eq-zero-or-pos (n - c)) [
      | inl last ↦
          let same : c ≡ n = omega arith in
          rw same (and_l _ (are_values n) all)
      | inr earlier ↦ values_below n c (and_r _ (are_values n) all) (omega arith)
    ]

entry_digit : (read : Option ℕ) (entry : ℕ) → T (is_entry read entry) → (entry < 2 ^ 32 → read ≡ Some entry) × (entry ≤ 2 ^ 32)
entry_digit None entry is = (λ small. grind (arith, nat_tests), grind (arith, nat_tests))
entry_digit (Some digit) entry is = (λ small. ap Some (sym (eqb→eq _ _ (and_l _ _ is))), grind (arith, nat_tests))

pub value_of : (c : ℕ) → c < 256 → (get_or VALUES c 0 < 2 ^ 32 → hex_value c ≡ Some (get_or VALUES c 0)) × (get_or VALUES c 0 ≤ 2 ^ 32)
value_of c below = entry_digit (hex_value c) (get_or VALUES c 0) (values_below 256 c tt below)

digit_below : (c digit : ℕ) → hex_value c ≡ Some digit → digit < 16
digit_below c digit is = grind (arith, nat_tests)

-- where all characters up to this one are digits, reading goes on after it
pub front_read : (all : Result (ℕ × List ℕ) ℕ) (count i value entry : ℕ) (line : List ℕ) → i < count → i < length line → (entry < 2 ^ 32 → hex_value (get_or line i 0) ≡ Some entry) → (value < 2 ^ 32 → all ≡ digits_of (count - i) value (drop i line)) → 16 * value + entry < 2 ^ 32 → all ≡ digits_of (count - (i + 1)) (16 * value + entry) (drop (i + 1) line)
unfolding one
front_read all count i value entry line more within is_digit read small =
    let value_small : value < 2 ^ 32 = omega arith in
    let entry_small : entry < 2 ^ 32 = omega arith in
    let front : drop i line ≡ get_or line i 0 ∷ drop (i + 1) line = drop_more line i 0 within in
    let here : one hex_value (drop i line) ≡ Ok (entry, drop (i + 1) line) = rw (front, is_digit entry_small) refl in
    let left : count - i - 1 ≡ count - (i + 1) = omega arith in
    digits_go_on all (count - i) value entry (drop i line) (drop (i + 1) line) (omega arith) here (read value_small)
    ∙ ap (λ (n : ℕ). digits_of n (16 * value + entry) (drop (i + 1) line)) left

pub front_below : (i value entry c : ℕ) → (entry < 2 ^ 32 → hex_value c ≡ Some entry) → (value < 2 ^ 32 → value < 2 ^ (4 * i)) → 16 * value + entry < 2 ^ 32 → 16 * value + entry < 2 ^ (4 * (i + 1))
front_below i value entry c is_digit below small =
    below_more value entry i (below (omega arith)) (digit_below c entry (is_digit (omega arith)))

-- no sum of eight entries wraps
pub front_room : (i value entry : ℕ) → i < 8 → entry ≤ 2 ^ 32 → 15 * value + 4294967296 ≤ 4294967296 * 2 ^ (4 * i) → 16 * value + entry < 2 ^ 64
front_room i value entry within most room =
    let most_i : 4 * i ≤ 28 = omega arith in
    let p : 2 ^ (4 * i) ≤ 2 ^ 28 = pow_mono most_i in
    omega (arith, p)

pub front_more_room : (i value entry : ℕ) → entry ≤ 2 ^ 32 → 15 * value + 4294967296 ≤ 4294967296 * 2 ^ (4 * i) → 15 * (16 * value + entry) + 4294967296 ≤ 4294967296 * 2 ^ (4 * (i + 1))
front_more_room i value entry most room =
    let same : i + 1 ≡ suc i = omega arith in
    rw (same, sixteen_times i) (omega arith)

-- ---- the digits of two numbers

-- what the first step of reading gave, or that it stopped
read_cases : (r : Result (ℕ × List ℕ) ℕ) → ((p : ℕ × List ℕ) × (r ≡ Ok p)) ⊎ ((left : ℕ) × (r ≡ Err left))
read_cases (Ok p) = inl (p, refl)
read_cases (Err left) = inr (left, refl)

digits_next : (n value digit : ℕ) (bytes rest : List ℕ) → one hex_value bytes ≡ Ok (digit, rest) → digits_of (suc n) value bytes ≡ digits_of n (16 * value + digit) rest
unfolding digits_of
digits_next n value digit bytes rest read = rw read refl

digits_none : (n value left : ℕ) (bytes : List ℕ) → one hex_value bytes ≡ Err left → digits_of (suc n) value bytes ≡ Err left
unfolding digits_of
digits_none n value left bytes read = rw read refl

-- some digits are read, and then others
pub digits_both : (m n value first : ℕ) (bytes rest : List ℕ) → digits_of m value bytes ≡ Ok (first, rest) → digits_of (m + n) value bytes ≡ digits_of n first rest
unfolding digits_of
digits_both zero n value first bytes rest is =
    let count : zero + n ≡ n = omega arith in
    let pair : (value, bytes) ≡ (first, rest) = cc is in
    ap (λ (k : ℕ). digits_of k value bytes) count ∙ ap (λ (p : ℕ × List ℕ). digits_of n p.0 p.1) pair
digits_both (suc m) n value first bytes rest is =
    let count : suc m + n ≡ suc (m + n) = omega arith in
    elim (read_cases (one hex_value bytes)) [
      | inl t ↦
          ap (λ (k : ℕ). digits_of k value bytes) count
          ∙ digits_next (m + n) value t.0.0 bytes t.0.1 t.1
          ∙ digits_both m n (16 * value + t.0.0) first t.0.1 rest (sym (digits_next m value t.0.0 bytes t.0.1 t.1) ∙ is)
      | inr t ↦ absurd (cc (sym (digits_none m value t.0 bytes t.1) ∙ is))
    ]

no_places : (above value read : ℕ) → value ≡ read → above + value ≡ above * 2 ^ (4 * zero) + read
no_places above value read same = omega arith

-- digits before those that are read have their places above them
pub digits_above : (n above value read : ℕ) (bytes rest : List ℕ) → digits_of n value bytes ≡ Ok (read, rest) → digits_of n (above + value) bytes ≡ Ok (above * 2 ^ (4 * n) + read, rest)
unfolding digits_of
digits_above zero above value read bytes rest is =
    let pair : (value, bytes) ≡ (read, rest) = cc is in
    let same : value ≡ read = ap (λ (p : ℕ × List ℕ). p.0) pair in
    ap (λ (v : ℕ). Ok (v, bytes)) (no_places above value read same) ∙ ap (λ (p : ℕ × List ℕ). Ok (above * 2 ^ (4 * zero) + read, p.1)) pair
digits_above (suc n) above value read bytes rest is =
    elim (read_cases (one hex_value bytes)) [
      | inl t ↦
          let sum : 16 * (above + value) + t.0.0 ≡ 16 * above + (16 * value + t.0.0) = omega arith in
          let place : 16 * above * 2 ^ (4 * n) ≡ above * 2 ^ (4 * suc n) = rw (sixteen_times n) (omega arith) in
          digits_next n (above + value) t.0.0 bytes t.0.1 t.1
          ∙ ap (λ (v : ℕ). digits_of n v t.0.1) sum
          ∙ digits_above n (16 * above) (16 * value + t.0.0) read t.0.1 rest (sym (digits_next n value t.0.0 bytes t.0.1 t.1) ∙ is)
          ∙ ap (λ (p : ℕ). Ok (p + read, rest)) place
      | inr t ↦ absurd (cc (sym (digits_none n value t.0 bytes t.1) ∙ is))
    ]

-- ---- a number in two parts

dropped : (count : ℕ) (line : List ℕ) → 8 ≤ count → drop (count - 8) (drop 8 line) ≡ drop count line
dropped count line more =
    let parts : 8 + (count - 8) ≡ count = omega arith in
    drop-drop (count - 8) 8 line ∙ ap (λ (n : ℕ). drop n line) parts

joined_below : (count high low : ℕ) → 8 ≤ count → high < 2 ^ 32 → low < 2 ^ (4 * (count - 8)) → high * 2 ^ (4 * (count - 8)) + low < 2 ^ (4 * count)
joined_below count high low more high_below low_below =
    let places : 4 * count ≡ 4 * (count - 8) + 32 = omega arith in
    let power : 2 ^ (4 * count) ≡ 2 ^ (4 * (count - 8)) * 2 ^ 32 = ap (λ (k : ℕ). 2 ^ k) places ∙ pow-add 2 (4 * (count - 8)) 32 in
    rw power (mul-add-lt high (2 ^ (4 * (count - 8))) low (2 ^ 32) high_below low_below)

-- the higher part does not lose a bit
joined_whole : (count high low : ℕ) → 8 ≤ count → count ≤ 16 → high < 2 ^ 32 → low < 2 ^ (4 * (count - 8)) → high * 2 ^ (4 * (count - 8)) % 18446744073709551616 + low ≡ high * 2 ^ (4 * (count - 8)) + low
joined_whole count high low more most high_below low_below =
    let places : 4 * count ≤ 64 = omega arith in
    let power : 2 ^ (4 * count) ≤ 2 ^ 64 = pow_mono places in
    omega (arith, joined_below count high low more high_below low_below, power)

pub two_parts_below : (count high low : ℕ) → 8 ≤ count → count ≤ 16 → high < 2 ^ 32 → low < 2 ^ (4 * (count - 8)) → high * 2 ^ (4 * (count - 8)) % 18446744073709551616 + low < 2 ^ (4 * count)
two_parts_below count high low more most high_below low_below =
    rw (joined_whole count high low more most high_below low_below) (joined_below count high low more high_below low_below)

pub two_parts : (count high low : ℕ) (line : List ℕ) → 8 ≤ count → count ≤ 16 → high < 2 ^ 32 → low < 2 ^ (4 * (count - 8)) → digits_of 8 0 line ≡ Ok (high, drop 8 line) → digits_of (count - 8) 0 (drop 8 line) ≡ Ok (low, drop (count - 8) (drop 8 line)) → digits_of count 0 line ≡ Ok (high * 2 ^ (4 * (count - 8)) % 18446744073709551616 + low, drop count line)
two_parts count high low line more most high_below low_below first second =
    let k : ℕ = count - 8 in
    let parts : count ≡ 8 + k = omega arith in
    let plain : high ≡ high + 0 = omega arith in
    ap (λ (n : ℕ). digits_of n 0 line) parts
    ∙ digits_both 8 k 0 high line (drop 8 line) first
    ∙ ap (λ (v : ℕ). digits_of k v (drop 8 line)) plain
    ∙ digits_above k high 0 low (drop 8 line) (drop k (drop 8 line)) second
    ∙ ap (λ (v : ℕ). Ok (v, drop k (drop 8 line))) (sym (joined_whole count high low more most high_below low_below))
    ∙ ap (λ (xs : List ℕ). Ok (high * 2 ^ (4 * k) % 18446744073709551616 + low, xs)) (dropped count line more)
