-- What may still pass: each byte of a stream that passes takes some of it.
use Rattle.std.proofs.Common.{◌≡◌, ℕ, zero, suc, ◌+◌, ◌-◌, ◌*◌, ◌<◌, ◌≤◌, ◌==◌, Bool, true, false, if◌then◌else◌, List, [], ◌∷◌, ◌++◌, length, refl, sym, ap, ◌∙◌, arith, length-append}
use Rattle.std.proofs.lemmas.Bool.{eqb-false}
use Rattle.hart_step.specs.Harts.{CoreState}
use Rattle.cosim_check.specs.declared.verdict.Verdict.{Verdict}
use Rattle.cosim_check.specs.declared.verdict.Verdict.TheVariants.{Passing, Disallowed, BadLine, TooMany}
use Rattle.cosim_check.specs.Places.{At, Over, Place, next_place, passing, place_by, place_past, places}
use Rattle.cosim_check.specs.Standing.{JudgeState, StandsFor}
use Rattle.cosim_check.specs.Verdicts.{Finding, Found, Passed, after_line, number}
use Rattle.cosim_check.proofs.Streams.{placed, places_join}
use Rattle.stream_judge.specs.Judging.{IsPassing}

-- ---- bytes that lead from a place to a place

-- a verdict that is found stays
over_still : (tohost : ℕ) (v : Verdict) (bytes : List ℕ) → places tohost (Over v) bytes ≡ Over v
unfolding places next_place
over_still tohost v [] = refl
over_still tohost v (b ∷ bytes) = over_still tohost v bytes

over_at : (tohost : ℕ) (v : Verdict) (bytes : List ℕ) (l : ℕ) (c : CoreState) (n : ℕ) (f : List ℕ) → places tohost (Over v) bytes ≡ At l c n f → ⊥
over_at tohost v bytes l c n f is = let still = over_still tohost v bytes in cc

-- where l lines more may pass and a front f has come, and after so many bytes m lines more may pass and a front g has
-- come: a line takes at most 256 bytes, its newline among them
pub record Takes (l m count : ℕ) (f g : List ℕ) : Type 0 where
  pub short : length g ≤ 255
  pub taken : 256 * m + count + length f ≤ 256 * l + length g

takes_line : (tohost l : ℕ) (bytes : List ℕ) (f : List ℕ) (m : ℕ) (d : CoreState) (k : ℕ) (g : List ℕ) → length f ≤ 255
    → ((c : CoreState) (n : ℕ) → places tohost (At l c n []) bytes ≡ At m d k g → Takes l m (length bytes) [] g)
    → (found : Finding) → places tohost (place_past l found) bytes ≡ At m d k g → Takes (suc l) m (suc (length bytes)) f g
takes_line tohost l bytes f m d k g short after (Passed c n) is =
    let t = after c n is in
    let taken = t.taken in
    record { short = t.short; taken = omega (arith, taken, short) }
takes_line tohost l bytes f m d k g short after (Found v) is = absurd (over_at tohost v bytes m d k g is)

takes_byte : (tohost l b : ℕ) (c : CoreState) (n : ℕ) (f bytes : List ℕ) (m : ℕ) (d : CoreState) (k : ℕ) (g : List ℕ)
    → (ends full : Bool) → (length f == 255) ≡ full → length f ≤ 255
    → ((c : CoreState) (n : ℕ) → places tohost (At l c n []) bytes ≡ At m d k g → Takes l m (length bytes) [] g)
    → (length (f ++ b ∷ []) ≤ 255 → places tohost (At (suc l) c n (f ++ b ∷ [])) bytes ≡ At m d k g → Takes (suc l) m (length bytes) (f ++ b ∷ []) g)
    → places tohost (if ends then place_past l (after_line tohost f (Passed c n)) else if full then Over (passing (after_line tohost (f ++ b ∷ []) (Passed c n))) else At (suc l) c n (f ++ b ∷ [])) bytes ≡ At m d k g
    → Takes (suc l) m (suc (length bytes)) f g
takes_byte tohost l b c n f bytes m d k g true full is_full short after next is =
    takes_line tohost l bytes f m d k g short after (after_line tohost f (Passed c n)) is
takes_byte tohost l b c n f bytes m d k g false true is_full short after next is = absurd (over_at tohost _ bytes m d k g is)
takes_byte tohost l b c n f bytes m d k g false false is_full short after next is =
    let less = eqb-false (length f) 255 is_full in
    let more = length-append f (b ∷ []) in
    let t = next (omega (arith, more, short, less)) is in
    let taken = t.taken in
    record { short = t.short; taken = omega (arith, taken, more) }

pub takes : (tohost l : ℕ) (c : CoreState) (n : ℕ) (f bytes : List ℕ) (m : ℕ) (d : CoreState) (k : ℕ) (g : List ℕ)
    → length f ≤ 255 → places tohost (At l c n f) bytes ≡ At m d k g → Takes l m (length bytes) f g
unfolding places next_place
takes tohost l c n f [] m d k g short is =
    let same_left : l ≡ m = cc in
    let same_front : f ≡ g = cc in
    let long : length f ≡ length g = ap (λ (zs : List ℕ). length zs) same_front in
    record { short = omega (arith, long, short); taken = omega (arith, long, same_left) }
takes tohost zero c n f (b ∷ bytes) m d k g short is = absurd (over_at tohost (TooMany n) bytes m d k g is)
takes tohost (suc l) c n f (b ∷ bytes) m d k g short is =
    takes_byte tohost l b c n f bytes m d k g (b == 10) (length f == 255) refl short
    (λ past j. takes tohost l past j [] bytes m d k g (omega arith))
    (takes tohost (suc l) c n (f ++ b ∷ []) bytes m d k g)
    is

-- ---- judges

-- how many bytes more may pass, at the most
abbrev pub room : JudgeState → ℕ
room j = 256 * (j.most - number j.verdict) + 256 - length j.front

at_verdict : (j : JudgeState) (v : Verdict) → IsPassing v → place_by j v ≡ At (j.most - number v) j.core (number v) j.front
at_verdict j (Passing n) passes = refl
at_verdict j (Disallowed n field allowed given) passes = absurd passes
at_verdict j (BadLine n column) passes = absurd passes
at_verdict j (TooMany n) passes = absurd passes

-- the front of a line that a judge keeps is short
front_short : (j : JudgeState) (core : CoreState) (taken : List ℕ) → StandsFor j core taken → IsPassing j.verdict
    → length j.front ≤ 255
front_short j core taken stands passes =
    let here = sym (placed j core taken stands) ∙ at_verdict j j.verdict passes in
    (takes j.tohost j.most core 0 [] taken (j.most - number j.verdict) j.core (number j.verdict) j.front (omega arith) here).short

-- a judge that takes a byte and finds no verdict has less room
pub less_room : (j j' : JudgeState) (core : CoreState) (taken piece : List ℕ) → StandsFor j core taken → StandsFor j' core (taken ++ piece)
    → j'.tohost ≡ j.tohost → j'.most ≡ j.most → IsPassing j.verdict → IsPassing j'.verdict → 0 < length piece → room j' < room j
less_room j j' core taken piece stands stands' tohost most passes passes' some =
    let start : Place = At j.most core 0 [] in
    let old : places j.tohost start taken ≡ At (j.most - number j.verdict) j.core (number j.verdict) j.front = sym (placed j core taken stands) ∙ at_verdict j j.verdict passes in
    let new : places j.tohost start (taken ++ piece) ≡ At (j'.most - number j'.verdict) j'.core (number j'.verdict) j'.front =
    ap (λ (t : ℕ). places t start (taken ++ piece)) (sym tohost)
    ∙ ap (λ (m : ℕ). places j'.tohost (At m core 0 []) (taken ++ piece)) (sym most)
    ∙ sym (placed j' core (taken ++ piece) stands') ∙ at_verdict j' j'.verdict passes' in
    let step = ap (λ (p : Place). places j.tohost p piece) (sym old) ∙ sym (places_join j.tohost start taken piece) ∙ new in
    let short = front_short j core taken stands passes in
    let t = takes j.tohost (j.most - number j.verdict) j.core (number j.verdict) j.front piece (j'.most - number j'.verdict) j'.core (number j'.verdict) j'.front short step in
    let taken_is = t.taken in
    let short' = t.short in
    omega (arith, taken_is, short, short', some)
