-- The harts of a core, one after another.
use Rattle.std.proofs.Common.{◌≡◌, ℕ, zero, suc, ◌+◌, ◌<◌, List, [], ◌∷◌, ◌++◌, All, length, map, set, get_or, Option, None, Some, ap, refl, ◌∙◌, arith, add-one, Bool, true, false, if◌then◌else◌}
use Rattle.std.proofs.lemmas.List.{length-append, length-map, length-set}
use Rattle.std.proofs.lemmas.List.Elements.{All-map}
use Rattle.hart_step.specs.declared.hart.Hart.{Hart}
use Rattle.hart_step.specs.Fit.{IsWellFormed}
use Rattle.hart_step.specs.Harts.{reset_hart, reset_harts}
use Rattle.hart_step.specs.Step.{after_store, is_touched, unreserved_hart, without_reservation}
use Rattle.hart_step.specs.declared.event.Put.{Put}

-- ---- harts at reset

pub reset_length : (n entry : ℕ) → length (reset_harts n entry) ≡ n
unfolding reset_harts
reset_length zero entry = refl
reset_length (suc n) entry =
    length-append (reset_harts n entry) (reset_hart n entry ∷ []) ∙ ap (λ (m : ℕ). m + 1) (reset_length n entry) ∙ omega arith

pub one_reset_more : (n entry : ℕ) → reset_harts (n + 1) entry ≡ reset_harts n entry ++ reset_hart n entry ∷ []
unfolding reset_harts
one_reset_more n entry = rw add-one refl

-- ---- a list whose first elements are mapped

unfoldable pub mapped : {X : Type 0} → (X → X) → ℕ → List X → List X
mapped f zero xs = xs
mapped f (suc n) [] = []
mapped f (suc n) (x ∷ xs) = f x ∷ mapped f n xs

pub none_mapped : {X : Type 0} (f : X → X) (xs : List X) → mapped f 0 xs ≡ xs
unfolding mapped
none_mapped f xs = refl

pub all_mapped : {X : Type 0} (f : X → X) (xs : List X) → mapped f (length xs) xs ≡ map f xs
unfolding mapped
all_mapped f [] = refl
all_mapped f (x ∷ xs) = ap (λ ys. f x ∷ ys) (all_mapped f xs)

pub mapped_length : {X : Type 0} (f : X → X) (n : ℕ) (xs : List X) → length (mapped f n xs) ≡ length xs
unfolding mapped
mapped_length f zero xs = refl
mapped_length f (suc n) [] = refl
mapped_length f (suc n) (x ∷ xs) = ap suc (mapped_length f n xs)

pub one_mapped_more : {X : Type 0} (f : X → X) (n : ℕ) (xs : List X) (d : X) → n < length xs → set (mapped f n xs) n (f (get_or (mapped f n xs) n d)) ≡ mapped f (n + 1) xs
unfolding mapped
one_mapped_more f n [] d within = absurd (omega arith)
one_mapped_more f zero (x ∷ xs) d within = refl
one_mapped_more f (suc n) (x ∷ xs) d within = rw add-one (ap (λ ys. f x ∷ ys) (one_mapped_more f n xs d (omega arith) ∙ rw add-one refl))

-- ---- reservations that are lost

unreserved_one : (hart : Hart) → IsWellFormed hart → IsWellFormed (record hart { reservation = None })
unreserved_one hart fit = record {
  fit = record { zero = fit.fit.zero; even = fit.fit.even; aligned = tt };
  pc = fit.pc;
  count = fit.count;
  values = fit.values;
  registers = fit.registers;
  reservation = tt;
}

lost_fit_one : (at size : ℕ) (b : Bool) (hart : Hart) → IsWellFormed hart → IsWellFormed (if b then record hart { reservation = None } else hart)
lost_fit_one at size true hart fit = unreserved_one hart fit
lost_fit_one at size false hart fit = fit

pub lost_fit : (at size : ℕ) (harts : List Hart) → All IsWellFormed harts → All IsWellFormed (map (without_reservation at size) harts)
lost_fit at size harts fit =
    All-map IsWellFormed (without_reservation at size) harts
    (λ k d within. lost_fit_one at size (is_touched at size (get_or harts k d).reservation) (get_or harts k d) (fit k d within))

-- dropping reservations and putting one hart in its place keeps the number of harts
pub after_length : (put : Option Put) (harts : List Hart) (h : ℕ) (y : Hart) → length (set (after_store put harts) h y) ≡ length harts
after_length None harts h y = length-set harts h y
after_length (Some put) harts h y = length-set (map (without_reservation put.at put.size) harts) h y ∙ length-map harts (without_reservation put.at put.size)

pub no_resets : (entry : ℕ) → reset_harts 0 entry ≡ []
unfolding reset_harts
no_resets entry = refl

pub unreserved_fit : (harts : List Hart) → All IsWellFormed harts → All IsWellFormed (map unreserved_hart harts)
unreserved_fit harts fit =
    All-map IsWellFormed unreserved_hart harts (λ k d within. unreserved_one (get_or harts k d) (fit k d within))
