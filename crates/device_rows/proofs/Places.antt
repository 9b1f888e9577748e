-- What the registers of a row hold, by their numbers.
use Rattle.std.proofs.Common.{ℕ, zero, suc, List, [], ◌∷◌, All, slice_index}
use Rattle.std.proofs.lemmas.List.Elements.{All-head, All-tail}

-- what holds of each element and of 0 holds at each place
pub at_place : (P : ℕ → Type 0) (xs : List ℕ) (i : ℕ) → All P xs → P 0 → P (slice_index xs i)
at_place P [] zero all none = none
at_place P [] (suc i) all none = none
at_place P (x ∷ xs) zero all none = All-head P x xs all
at_place P (x ∷ xs) (suc i) all none = at_place P xs i (All-tail P x xs all) none
