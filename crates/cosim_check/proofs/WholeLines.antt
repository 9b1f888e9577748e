-- A whole line at once.
use Rattle.std.proofs.Common.{◌≡◌, ℕ, zero, suc, ◌+◌, ◌-◌, ◌<◌, ◌≤◌, ◌==◌, Bool, true, false, List, [], ◌∷◌, ◌++◌, length, take, drop, refl, sym, ap, ◌∙◌, arith, append_assoc, append-nil, length-append}
use Rattle.std.specs.Prelude.{Option, Some, None, IfSome, is_none, slice_index}
use Rattle.std.proofs.lemmas.Bool.{eq-eqb, ne_eqb, false≢true}
use Rattle.std.proofs.lemmas.List.{drop-drop, length-drop, take_all, take-append-drop}
use Rattle.hart_step.specs.Harts.{CoreState}
use Rattle.cosim_check.specs.Verdicts.{Finding, Found, IsFinal, Passed, after_line}
use Rattle.cosim_check.specs.Places.{At, IsPlain, Place, next_place, place_of, place_past, places}
use Rattle.cosim_check.specs.declared.verdict.Verdict.{Verdict}
use Rattle.cosim_check.proofs.Streams.{over_by, places_join}
use Rattle.cosim_check.proofs.Bytes.{choose, view_of}

pub line_at_once : (tohost left n : ℕ) (core : CoreState) (front line rest : List ℕ) → IsPlain line → length front + length line ≤ 255 → places tohost (At (suc left) core n front) (line ++ 10 ∷ rest) ≡ places tohost (place_past left (after_line tohost (front ++ line) (Passed core n))) rest
unfolding places
line_at_once tohost left n core front [] rest plain short =
    ap (λ (p : Place). places tohost p rest) (choose tohost left core n front 10 true (length front == 255) refl refl)
    ∙ ap (λ (xs : List ℕ). places tohost (place_past left (after_line tohost xs (Passed core n))) rest) (sym (append-nil front))
line_at_once tohost left n core front (b ∷ line) rest plain short =
    ap (λ (p : Place). places tohost p (line ++ 10 ∷ rest)) (choose tohost left core n front b false false (ne_eqb b 10 plain.0) (ne_eqb (length front) 255 (λ full. omega arith)))
    ∙ line_at_once tohost left n core (front ++ b ∷ []) line rest plain.1 (omega (arith, length-append front (b ∷ [])))
    ∙ ap (λ (xs : List ℕ). places tohost (place_past left (after_line tohost xs (Passed core n))) rest) (append_assoc front (b ∷ []) line)

-- the bytes before the first newline
pub plain_before : (xs : List ℕ) (i : ℕ) → ((k : ℕ) → 0 ≤ k → k < i → (slice_index xs k == 10) ≡ true → ⊥) → IsPlain (take i xs)
plain_before xs zero none = tt
plain_before [] (suc i) none = tt
plain_before (x ∷ xs) (suc i) none =
    (λ newline. none 0 (omega arith) (omega arith) (eq-eqb x 10 newline), plain_before xs i (λ k low less newline. none (suc k) (omega arith) (omega arith) newline))

pub by_byte : (tohost t : ℕ) (p q r : Place) (line : List ℕ) → t ≡ tohost → q ≡ places tohost p line → r ≡ next_place t 10 q → r ≡ places tohost p (line ++ 10 ∷ [])
unfolding places
by_byte tohost t p q r line same before is =
    is ∙ ap (λ (u : ℕ). next_place u 10 q) same ∙ ap (next_place tohost 10) before ∙ sym (places_join tohost p line (10 ∷ []))

line_here : (tohost left m : ℕ) (core : CoreState) (n : ℕ) (front line : List ℕ) (f : Finding) → left ≡ suc m → length front ≡ 0 → IsPlain line → length line ≤ 255 → after_line tohost line (Passed core n) ≡ f → place_past m f ≡ places tohost (At left core n front) (line ++ 10 ∷ [])
unfolding places
line_here tohost zero m core n front line f room none plain short after = absurd (omega arith)
line_here tohost (suc left) m core n (b ∷ front) line f room none plain short after = absurd (omega arith)
line_here tohost (suc left) m core n [] line f room none plain short after =
    let same : left ≡ m = omega arith in
    sym (line_at_once tohost left n core [] line [] plain (omega arith) ∙ ap (place_past left) after ∙ ap (λ (l : ℕ). place_past l f) same)

pub whole_passes : (core past : CoreState) (n : ℕ) (front line : List ℕ) (tohost most : ℕ) (end end' : Option Verdict) (finished : Bool) → is_none end ≡ true → n < most → length front ≡ 0 → IsPlain line → length line < 256 → is_none end' ≡ true → after_line tohost line (Passed core n) ≡ Passed past (n + 1) → place_of (view_of past (n + 1) front tohost most end' finished) ≡ places tohost (place_of (view_of core n front tohost most end finished)) (line ++ 10 ∷ [])
whole_passes core past n front line tohost most (Some v) end' finished is room none plain short goes after = absurd (false≢true is)
whole_passes core past n front line tohost most None (Some v) finished is room none plain short goes after = absurd (false≢true goes)
whole_passes core past n (b ∷ front) line tohost most None None finished is room none plain short goes after = absurd (omega arith)
whole_passes core past n [] line tohost most None None finished is room none plain short goes after =
    line_here tohost (most - n) (most - (n + 1)) core n [] line (Passed past (n + 1)) (omega arith) refl plain (omega arith) after

pub whole_ends : (core past : CoreState) (n : ℕ) (front line : List ℕ) (tohost most : ℕ) (end end' : Option Verdict) (finished : Bool) → is_none end ≡ true → n < most → length front ≡ 0 → IsPlain line → length line < 256 → is_none end' ≡ false → IfSome end' IsFinal → IfSome end' (λ v. after_line tohost line (Passed core n) ≡ Found v) → place_of (view_of past n front tohost most end' finished) ≡ places tohost (place_of (view_of core n front tohost most end finished)) (line ++ 10 ∷ [])
whole_ends core past n front line tohost most (Some v) end' finished is room none plain short ends last found = absurd (false≢true is)
whole_ends core past n front line tohost most None None finished is room none plain short ends last found = absurd (false≢true (sym ends))
whole_ends core past n front line tohost most None (Some v) finished is room none plain short ends last found =
    over_by (view_of past n front tohost most (Some v) finished) v last
    ∙ line_here tohost (most - n) (most - (n + 1)) core n front line (Found v) (omega arith) none plain (omega arith) found

pub lines_on : (tohost t : ℕ) (p q : Place) (xs : List ℕ) (i n : ℕ) → t ≡ tohost → q ≡ places t p (take n (drop i xs)) → places tohost q (drop (i + n) xs) ≡ places tohost p (drop i xs)
lines_on tohost t p q xs i n same is =
    ap (λ (x : Place). places tohost x (drop (i + n) xs)) (is ∙ ap (λ (u : ℕ). places u p (take n (drop i xs))) same)
    ∙ ap (places tohost (places tohost p (take n (drop i xs)))) (sym (drop-drop n i xs))
    ∙ sym (places_join tohost p (take n (drop i xs)) (drop n (drop i xs)))
    ∙ ap (places tohost p) (take-append-drop n (drop i xs))

-- the slice from i on
pub from_on : (xs : List ℕ) (i : ℕ) → take (length xs - i) (drop i xs) ≡ drop i xs
from_on xs i = take_all (length xs - i) (drop i xs) (omega (arith, length-drop i xs))
