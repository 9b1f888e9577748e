-- Harts of which one may have a reservation where the other has none.
use Rattle.std.proofs.Common.{◌≡◌, ℕ, zero, suc, ◌||◌, Bool, true, false, if◌then◌else◌, List, [], ◌∷◌, length, map, set, get_or, Option, Some, None, refl, sym, ap, subst, ◌∙◌}
use Rattle.std.specs.List.{list_any}
use Rattle.std.proofs.lemmas.Bool.{false≢true}
use Rattle.hart_step.specs.declared.event.Put.{Put}
use Rattle.hart_step.specs.declared.hart.Hart.{Hart}
use Rattle.hart_step.specs.Harts.{is_in_debug}
use Rattle.hart_step.specs.Step.{after_store, is_touched, without_reservation}
use Rattle.hart_step.specs.Told.{CoverHarts, Covers, CoversHart, reserved}
use Rattle.hart_step.proofs.ToldWrites.{covers_itself}

pub hart_covers_itself : (x : Hart) → CoversHart x x
hart_covers_itself x = record { is = refl; covers = covers_itself x.reservation }

lost_free : (r : Option ℕ) (at size : ℕ) (hart : Hart) (a b : Bool) → b ≡ false → None ≡ hart.reservation → CoversHart (if a then record hart { reservation = None } else reserved r hart) (if b then record hart { reservation = None } else hart)
lost_free r at size hart a true is none = absurd (false≢true (sym is))
lost_free r at size hart true false is none = record { is = refl; covers = subst (λ (o : Option ℕ). Covers None o) none tt }
lost_free r at size hart false false is none = record { is = refl; covers = subst (λ (o : Option ℕ). Covers r o) none tt }

lost_same : (r : Option ℕ) (at size : ℕ) (hart : Hart) (a b : Bool) → a ≡ b → r ≡ hart.reservation → CoversHart (if a then record hart { reservation = None } else reserved r hart) (if b then record hart { reservation = None } else hart)
lost_same r at size hart true true is same = hart_covers_itself (record hart { reservation = None })
lost_same r at size hart true false is same = absurd (false≢true (sym is))
lost_same r at size hart false true is same = absurd (false≢true is)
lost_same r at size hart false false is same = record { is = refl; covers = subst (λ (o : Option ℕ). Covers r o) same (covers_itself r) }

lost_cases : (r own : Option ℕ) (at size : ℕ) (hart : Hart) → own ≡ hart.reservation → Covers r own → CoversHart (without_reservation at size (reserved r hart)) (without_reservation at size hart)
lost_cases r None at size hart is covers = lost_free r at size hart (is_touched at size r) (is_touched at size hart.reservation) (ap (is_touched at size) (sym is)) is
lost_cases r (Some x) at size hart is covers = lost_same r at size hart (is_touched at size r) (is_touched at size hart.reservation) (ap (is_touched at size) (covers ∙ is)) (covers ∙ is)

covers_lost : (at size : ℕ) (x y : Hart) → CoversHart x y → CoversHart (without_reservation at size x) (without_reservation at size y)
covers_lost at size x y c =
    subst (λ (z : Hart). CoversHart (without_reservation at size z) (without_reservation at size y)) (sym c.is)
    (lost_cases x.reservation y.reservation at size y refl c.covers)

pub map_covers : (at size : ℕ) (xs ys : List Hart) → CoverHarts xs ys → CoverHarts (map (without_reservation at size) xs) (map (without_reservation at size) ys)
map_covers at size [] [] c = tt
map_covers at size [] (y ∷ ys) c = absurd c
map_covers at size (x ∷ xs) [] c = absurd c
map_covers at size (x ∷ xs) (y ∷ ys) c = (covers_lost at size x y c.0, map_covers at size xs ys c.1)

pub store_covers : (put : Option Put) (xs ys : List Hart) → CoverHarts xs ys → CoverHarts (after_store put xs) (after_store put ys)
store_covers None xs ys c = c
store_covers (Some put) xs ys c = map_covers put.at put.size xs ys c

pub set_covers : (xs ys : List Hart) (h : ℕ) (x y : Hart) → CoverHarts xs ys → CoversHart x y → CoverHarts (set xs h x) (set ys h y)
set_covers [] [] h x y c one = tt
set_covers [] (b ∷ ys) h x y c one = absurd c
set_covers (a ∷ xs) [] h x y c one = absurd c
set_covers (a ∷ xs) (b ∷ ys) zero x y c one = (one, c.1)
set_covers (a ∷ xs) (b ∷ ys) (suc h) x y c one = (c.0, set_covers xs ys h x y c.1 one)

pub count_covers : (xs ys : List Hart) → CoverHarts xs ys → length xs ≡ length ys
count_covers [] [] c = refl
count_covers [] (y ∷ ys) c = absurd c
count_covers (x ∷ xs) [] c = absurd c
count_covers (x ∷ xs) (y ∷ ys) c = ap (λ (n : ℕ). suc n) (count_covers xs ys c.1)

pub at_covers : (xs ys : List Hart) (h : ℕ) (d : Hart) → CoverHarts xs ys → CoversHart (get_or xs h d) (get_or ys h d)
at_covers [] [] h d c = hart_covers_itself d
at_covers [] (y ∷ ys) h d c = absurd c
at_covers (x ∷ xs) [] h d c = absurd c
at_covers (x ∷ xs) (y ∷ ys) zero d c = c.0
at_covers (x ∷ xs) (y ∷ ys) (suc h) d c = at_covers xs ys h d c.1

pub any_covers : (xs ys : List Hart) → CoverHarts xs ys → list_any is_in_debug xs ≡ list_any is_in_debug ys
any_covers [] [] c = refl
any_covers [] (y ∷ ys) c = absurd c
any_covers (x ∷ xs) [] c = absurd c
any_covers (x ∷ xs) (y ∷ ys) c =
    ap (λ (z : Hart). is_in_debug z || list_any is_in_debug xs) c.0.is ∙ ap (λ (b : Bool). is_in_debug y || b) (any_covers xs ys c.1)
