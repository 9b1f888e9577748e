-- One byte of a stream.
use Rattle.std.proofs.Common.{◌≡◌, ℕ, zero, suc, ◌+◌, ◌-◌, ◌<◌, ◌≤◌, ◌==◌, Bool, true, false, if◌then◌else◌, List, [], ◌∷◌, ◌++◌, length, get_or, drop, refl, sym, ap, subst, ◌∙◌, arith, drop-cons}
use Rattle.std.specs.Prelude.{Option, Some, None, IfSome, is_some, is_none, nat_lt}
use Rattle.std.proofs.lemmas.Bool.{eq-eqb, ne_eqb, false≢true, ltb-true, ltb-false}
use Rattle.std.proofs.Math.ListN.{drop_of_length-le}
use Rattle.hart_step.specs.Harts.{CoreState}
use Rattle.commit_log.specs.Column.{IsColumn}
use Rattle.cosim_check.specs.declared.verdict.Verdict.{Verdict}
use Rattle.cosim_check.specs.declared.verdict.Verdict.TheVariants.{BadLine, TooMany}
use Rattle.cosim_check.specs.Lines.{newline}
use Rattle.cosim_check.specs.Verdicts.{Finding, Found, IsFinal, Passed, after_line}
use Rattle.cosim_check.specs.Standing.{JudgeState, StandsFor, settled}
use Rattle.cosim_check.specs.Places.{At, Over, Place, next_place, passing, place_of, place_past, places}
use Rattle.cosim_check.proofs.Streams.{full_stops, over_by, stands}

abbrev pub view_of : CoreState → ℕ → List ℕ → ℕ → ℕ → Option Verdict → Bool → JudgeState
view_of core n front tohost most end finished = record { core = core; front = front; tohost = tohost; most = most; verdict = settled n end; finished = finished }

over_next : (tohost b : ℕ) (v : Verdict) → Over v ≡ next_place tohost b (Over v)
unfolding next_place
over_next tohost b v = refl

pub stays : (core : CoreState) (n : ℕ) (front : List ℕ) (tohost most b : ℕ) (end : Option Verdict) (finished : Bool) → is_some end ≡ true → IfSome end IsFinal → place_of (view_of core n front tohost most end finished) ≡ next_place tohost b (place_of (view_of core n front tohost most end finished))
stays core n front tohost most b None finished is last = absurd (false≢true is)
stays core n front tohost most b (Some v) finished is last =
    let over = over_by (view_of core n front tohost most (Some v) finished) v last in
    over ∙ over_next tohost b v ∙ ap (next_place tohost b) (sym over)

full_next : (tohost b left : ℕ) (core : CoreState) (n : ℕ) (front : List ℕ) → left ≡ 0 → Over (TooMany n) ≡ next_place tohost b (At left core n front)
unfolding next_place
full_next tohost b zero core n front is = refl
full_next tohost b (suc left) core n front is = absurd (omega arith)

pub too_many : (core : CoreState) (n : ℕ) (front : List ℕ) (tohost most b : ℕ) (end : Option Verdict) (finished : Bool) → is_some end ≡ false → most ≤ n → Over (TooMany n) ≡ next_place tohost b (place_of (view_of core n front tohost most end finished))
too_many core n front tohost most b (Some v) finished is full = absurd (false≢true (sym is))
too_many core n front tohost most b None finished is full = full_next tohost b (most - n) core n front (omega arith)

pub choose : (tohost left : ℕ) (core : CoreState) (n : ℕ) (front : List ℕ) (b : ℕ) (c d : Bool) → (b == 10) ≡ c → (length front == 255) ≡ d → next_place tohost b (At (suc left) core n front) ≡ (if c then place_past left (after_line tohost front (Passed core n)) else if d then Over (passing (after_line tohost (front ++ b ∷ []) (Passed core n))) else At (suc left) core n (front ++ b ∷ []))
unfolding next_place
choose tohost left core n front b c d one two = rw (one, two) refl

newline_next : (tohost b left m : ℕ) (core : CoreState) (n : ℕ) (front : List ℕ) (f : Finding) → b ≡ 10 → left ≡ suc m → after_line tohost front (Passed core n) ≡ f → place_past m f ≡ next_place tohost b (At left core n front)
newline_next tohost b zero m core n front f newline is after = absurd (omega arith)
newline_next tohost b (suc left) m core n front f newline is after =
    let same : left ≡ m = omega arith in
    sym (choose tohost left core n front b true (length front == 255) (eq-eqb b 10 newline) refl ∙ ap (place_past left) after ∙ ap (λ (l : ℕ). place_past l f) same)

pub newline_passes : (core past : CoreState) (n : ℕ) (front : List ℕ) (tohost most b : ℕ) (end end' : Option Verdict) (finished : Bool) → is_some end ≡ false → n < most → b ≡ 10 → is_none end' ≡ true → after_line tohost front (Passed core n) ≡ Passed past (n + 1) → place_of (view_of past (n + 1) [] tohost most end' finished) ≡ next_place tohost b (place_of (view_of core n front tohost most end finished))
newline_passes core past n front tohost most b (Some v) end' finished is room newline goes after = absurd (false≢true (sym is))
newline_passes core past n front tohost most b None (Some v) finished is room newline goes after = absurd (false≢true goes)
newline_passes core past n front tohost most b None None finished is room newline goes after =
    newline_next tohost b (most - n) (most - (n + 1)) core n front (Passed past (n + 1)) newline (omega arith) after

pub newline_ends : (core past : CoreState) (n : ℕ) (front : List ℕ) (tohost most b : ℕ) (end end' : Option Verdict) (finished : Bool) → is_some end ≡ false → n < most → b ≡ 10 → is_none end' ≡ false → IfSome end' IsFinal → IfSome end' (λ v. after_line tohost front (Passed core n) ≡ Found v) → place_of (view_of past n [] tohost most end' finished) ≡ next_place tohost b (place_of (view_of core n front tohost most end finished))
newline_ends core past n front tohost most b (Some v) end' finished is room newline ends last found = absurd (false≢true (sym is))
newline_ends core past n front tohost most b None None finished is room newline ends last found = absurd (false≢true (sym ends))
newline_ends core past n front tohost most b None (Some v) finished is room newline ends last found =
    over_by (view_of past n [] tohost most (Some v) finished) v last
    ∙ newline_next tohost b (most - n) (most - (n + 1)) core n front (Found v) newline (omega arith) found

other_next : (tohost b left : ℕ) (core : CoreState) (n : ℕ) (front : List ℕ) (d : Bool) → (b ≡ 10 → ⊥) → 0 < left → (length front == 255) ≡ d → (if d then Over (passing (after_line tohost (front ++ b ∷ []) (Passed core n))) else At left core n (front ++ b ∷ [])) ≡ next_place tohost b (At left core n front)
other_next tohost b zero core n front d other some is = absurd (omega arith)
other_next tohost b (suc left) core n front d other some is = sym (choose tohost left core n front b false d (ne_eqb b 10 other) is)

pub line_full : (core : CoreState) (n : ℕ) (front after : List ℕ) (tohost most b column : ℕ) (end : Option Verdict) (finished : Bool) → is_some end ≡ false → n < most → (b ≡ 10 → ⊥) → length front ≤ 255 → false ≡ nat_lt (length front) 255 → after ≡ (if nat_lt (length front) 255 then front ++ b ∷ [] else front) → IsColumn after column → Over (BadLine n column) ≡ next_place tohost b (place_of (view_of core n front tohost most end finished))
line_full core n front after tohost most b column (Some v) finished is room other short full same stops = absurd (false≢true (sym is))
line_full core n front after tohost most b column None finished is room other short full same stops =
    let many : length front ≡ 255 = let large = ltb-false (length front) 255 (sym full) in omega arith in
    let front_is : after ≡ front = same ∙ ap (λ (c : Bool). if c then front ++ b ∷ [] else front) (sym full) in
    let ends = full_stops tohost core n front b column many (subst (λ (xs : List ℕ). IsColumn xs column) front_is stops) in
    sym (ap (λ (f : Finding). Over (passing f)) ends) ∙ other_next tohost b (most - n) core n front true other (omega arith) (eq-eqb (length front) 255 many)

pub byte_waits : (core : CoreState) (n : ℕ) (front after : List ℕ) (tohost most b : ℕ) (end : Option Verdict) (finished : Bool) → is_some end ≡ false → n < most → (b ≡ 10 → ⊥) → true ≡ nat_lt (length front) 255 → after ≡ (if nat_lt (length front) 255 then front ++ b ∷ [] else front) → place_of (view_of core n after tohost most end finished) ≡ next_place tohost b (place_of (view_of core n front tohost most end finished))
byte_waits core n front after tohost most b (Some v) finished is room other short same = absurd (false≢true (sym is))
byte_waits core n front after tohost most b None finished is room other short same =
    let less = ltb-true (length front) 255 (sym short) in
    ap (At (most - n) core n) (same ∙ ap (λ (c : Bool). if c then front ++ b ∷ [] else front) (sym short))
    ∙ other_next tohost b (most - n) core n front false other (omega arith) (ne_eqb (length front) 255 (λ e. omega arith))

pub step_place : (tohost t : ℕ) (p q : Place) (xs : List ℕ) (i d : ℕ) → t ≡ tohost → i < length xs → q ≡ next_place t (get_or xs i d) p → places tohost q (drop (i + 1) xs) ≡ places tohost p (drop i xs)
unfolding places
step_place tohost t p q xs i d same within is =
    ap (λ (x : Place). places tohost x (drop (i + 1) xs)) (is ∙ ap (λ (u : ℕ). next_place u (get_or xs i d) p) same)
    ∙ ap (λ (n : ℕ). places tohost p (get_or xs i d ∷ drop n xs)) (let e : i + 1 ≡ suc i = omega arith in e)
    ∙ ap (places tohost p) (sym (drop-cons xs i d within))

pub all_placed : (tohost : ℕ) (p q : Place) (xs : List ℕ) (i : ℕ) → length xs ≤ i → places tohost p (drop i xs) ≡ q → p ≡ q
unfolding places
all_placed tohost p q xs i past is = ap (places tohost p) (sym (drop_of_length-le xs past)) ∙ is

pub begins_so : (core : CoreState) (front : List ℕ) (tohost most : ℕ) → front ≡ [] → StandsFor (view_of core 0 front tohost most None false) core []
unfolding places
begins_so core front tohost most none = stands (view_of core 0 front tohost most None false) core [] refl (ap (λ (xs : List ℕ). At (most - 0) core 0 xs) none ∙ ap (λ (m : ℕ). At m core 0 []) (let e : most - 0 ≡ most = omega arith in e))

pub some_final : (n : ℕ) (end : Option Verdict) → is_some end ≡ true → IfSome end IsFinal → IsFinal (settled n end)
some_final n None is last = absurd (false≢true is)
some_final n (Some verdict) is last = last
