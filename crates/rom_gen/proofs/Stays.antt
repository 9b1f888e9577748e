-- What the stores of one hart to devices leave of all harts.
use Rattle.std.specs.Prelude.{All, None, slice_set}
use Rattle.std.proofs.Common.{◌≡◌, ◌≢◌, ℕ, ◌<◌, ⊎_elim, Bool, true, false, cond, List, length, map, refl, sym, ap, ◌∙◌, arith}
use Rattle.std.proofs.Math.ListN.{get_or}
use Rattle.std.proofs.lemmas.Bool.{cases_eq}
use Rattle.std.proofs.lemmas.List.{get_or-map, get_or-set_other, get_or-set_same, length-map, length-set, same_lists}
use Rattle.hart_step.specs.declared.hart.Hart.{Hart}
use Rattle.hart_step.specs.Harts.{reset_hart}
use Rattle.hart_step.specs.Step.{is_touched, unreserved_hart, without_reservation}
use Rattle.rom_gen.specs.Executed.{Stay}

pub stay_same : (h : ℕ) (harts : List Hart) → Stay h harts harts
stay_same h harts = record { count = refl; own = refl; others = λ i d other within. refl; free = λ i d other within none. none }

pub stay_join : (h : ℕ) (first second third : List Hart) → Stay h first second → Stay h second third → Stay h first third
stay_join h first second third one two = record {
  count = two.count ∙ one.count;
  own = two.own ∙ one.own;
  others = λ i d other within. two.others i d other (omega (arith, one.count)) ∙ one.others i d other within;
  free = λ i d other within none. two.free i d other (omega (arith, one.count)) (one.free i d other within none);
}

-- hart h alone is changed
pub stay_set : (h : ℕ) (harts : List Hart) (next : Hart) → h < length harts → next.reservation ≡ (get_or harts h (reset_hart 0 0)).reservation → Stay h harts (slice_set harts h next)
stay_set h harts next inside same = record {
  count = length-set harts h next;
  own = ap (λ (x : Hart). x.reservation) (get_or-set_same harts h next (reset_hart 0 0) inside) ∙ same;
  others = λ i d other within. ap unreserved_hart (get_or-set_other harts h i next d other);
  free = λ i d other within none. ap (λ (x : Hart). x.reservation) (get_or-set_other harts h i next d other) ∙ none;
}

lost_same : (touched : Bool) (x : Hart) → unreserved_hart (cond touched (record x { reservation = None }) x) ≡ unreserved_hart x
lost_same true x = refl
lost_same false x = refl

lost_free : (touched : Bool) (x : Hart) → x.reservation ≡ None → (cond touched (record x { reservation = None }) x).reservation ≡ None
lost_free true x none = refl
lost_free false x none = none

-- after a store the others may have lost theirs
pub stay_stored : (h at size : ℕ) (harts : List Hart) (next : Hart) → h < length harts → next.reservation ≡ (get_or harts h (reset_hart 0 0)).reservation → Stay h harts (slice_set (map (without_reservation at size) harts) h next)
stay_stored h at size harts next inside same =
    let left : List Hart = map (without_reservation at size) harts in
    let count : length left ≡ length harts = length-map harts (without_reservation at size) in
    let is : (i : ℕ) (d : Hart) → i ≢ h → i < length harts → get_or (slice_set left h next) i d ≡ without_reservation at size (get_or harts i d) = λ i d other within.
    get_or-set_other left h i next d other ∙ get_or-map (without_reservation at size) harts i d d (omega (arith, count)) in
    record {
      count = length-set left h next ∙ count;
      own = ap (λ (x : Hart). x.reservation) (get_or-set_same left h next (reset_hart 0 0) (omega (arith, count))) ∙ same;
      others = λ i d other within. ap unreserved_hart (is i d other within) ∙ lost_same (is_touched at size (get_or harts i d).reservation) (get_or harts i d);
      free = λ i d other within none. ap (λ (x : Hart). x.reservation) (is i d other within) ∙ lost_free (is_touched at size (get_or harts i d).reservation) (get_or harts i d) none;
    }

same_hart : (x y : Hart) → unreserved_hart x ≡ unreserved_hart y → x.reservation ≡ None → y.reservation ≡ None → x ≡ y
same_hart x y same first second = ap (λ at. record x { reservation = at }) first ∙ same ∙ sym (ap (λ at. record y { reservation = at }) second)

-- where no hart has a reservation, only hart h is changed
pub stay_free : (h : ℕ) (before after : List Hart) (next : Hart) → h < length before → All (λ (x : Hart). x.reservation ≡ None) before → Stay h before after → slice_set after h next ≡ slice_set before h next
stay_free h before after next inside none stay =
    same_lists (slice_set after h next) (slice_set before h next) (length-set after h next ∙ stay.count ∙ sym (length-set before h next))
    (λ i d within. ⊎_elim
    (λ e. ap (λ k. get_or (slice_set after h next) k d) e ∙ get_or-set_same after h next d (omega (arith, stay.count)) ∙ sym (ap (λ k. get_or (slice_set before h next) k d) e ∙ get_or-set_same before h next d inside))
    (λ other.
    let place : i < length before = omega (arith, stay.count, length-set after h next) in
    get_or-set_other after h i next d other
    ∙ same_hart (get_or after i d) (get_or before i d) (stay.others i d other place) (stay.free i d other place (none i d place)) (none i d place)
    ∙ sym (get_or-set_other before h i next d other))
    (cases_eq i h))
