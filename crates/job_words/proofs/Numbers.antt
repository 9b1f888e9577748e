-- That std's `parse` gives the number that a text spells.
use Rattle.std.proofs.Common.{◌≡◌, ℕ, ◌<◌, ◌^◌, Bool, true, false, List, length, Some, None, Result, Err, ap, rules, arith}
use Rattle.std.specs.Prelude.{◌&&◌, nat_le, if◌then◌else◌}
use Rattle.std.specs.Char.{is_ascii_digit}
use Rattle.std.specs.List.{list_all}
use Rattle.std.specs.Result.{OkIff}
use Rattle.std.specs.Str.Parse.{ParsesUnsigned, digits_value}
use Rattle.std.proofs.lemmas.Str.Parse.{IsNumeralModel, numerals_by_value, parse_digits}
use Rattle.job_words.specs.CommandLine.{is_number, number_in}

own : IsNumeralModel (λ ds. list_all is_ascii_digit ds ≡ true) (digits_value 10)
own = numerals_by_value _ (search rules)

parts : (text : List ℕ) → is_number text ≡ true → (0 < length text) × (list_all is_ascii_digit text ≡ true)
parts text is = grind arith

-- a text of digits parses exactly where its value fits 64 bits
pub parsed : {E : Type 0} (text : List ℕ) (r : Result ℕ E) → is_number text ≡ true → ParsesUnsigned 64 10 text r → OkIff r ((0 < length text) × (digits_value 10 text < 2 ^ 64)) (digits_value 10 text)
parsed text r is h = parse_digits own 64 text r h (parts text is).1

above : (v most : ℕ) (e : Bool) → most < 2 ^ 64 → ¬ (v < 2 ^ 64) → (e && nat_le v most) ≡ false
above v most e within far = grind arith

-- a text whose value does not fit 64 bits is no number that is at most 64 bits wide
pub too_large : {E : Type 0} (most : ℕ) (text : List ℕ) (e : E) → most < 2 ^ 64 → is_number text ≡ true → ParsesUnsigned 64 10 text (Err e) → number_in most text ≡ None
unfolding number_in
too_large most text e within is h =
    let fails = parsed text (Err e) is h in
    let far : ¬ (digits_value 10 text < 2 ^ 64) = λ fits. fails ((parts text is).0, fits) in
    ap (λ (b : Bool). if b then Some (digits_value 10 text) else None) (above (digits_value 10 text) most (is_number text) within far)
