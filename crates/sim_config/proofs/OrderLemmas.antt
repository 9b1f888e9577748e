-- The first key of a map that is not listed is the least of them in the order of bytes.
use Rattle.std.proofs.Common.{◌≡◌, ◌⊎◌, ℕ, List, [], ◌∷◌, Bool, true, false, cond, Option, Some, None, IsSome, IfSome, option_map, String, Global, Bor, Ordering, Less, Equal, Greater, string_bytes, string_cmp, nat_cmp, is_eq, true≢false, inl, inr, refl, sym, ap, subst, ◌∙◌}
use Rattle.std.proofs.lemmas.Cmp.{nat_list_cmp_total}
use Rattle.std.proofs.lemmas.Map.Keys.{sorted_head, sorted_tail}
use Rattle.std.proofs.lemmas.Map.Text.{is_eq-slice_cmp}
use Rattle.std.proofs.lemmas.Slice.Eq.{bytes_eq-Decides}
use Rattle.std.specs.Cmp.Lexicographic.{slice_cmp}
use Rattle.std.specs.List.{AllByRecursion}
use Rattle.std.specs.List.Sorted.{IsStrictlySortedBy}
use Rattle.std.specs.Map.{keys_of}
use Rattle.std.specs.Ordering.{match_ordering, ordering_reverse}
use Rattle.serde_json.specs.Data.{Data}
use Rattle.serde_json.specs.Find.{get_member}
use Rattle.serde_json.specs.View.{members_view}
use Rattle.serde_json.specs.declared.value.Value.{Value}
use Rattle.sim_config.specs.declared.keys.Form.{Form}
use Rattle.sim_config.specs.Faults.{is_listed, first_unlisted, IsLeastUnlisted}

abbrev Entry : Type 0
Entry = String Global × Value

-- texts that compare as equal are equal
same_text : (xs ys : List ℕ) → slice_cmp nat_cmp xs ys ≡ Equal → xs ≡ ys
same_text xs ys tied = (bytes_eq-Decides xs ys).0 (sym (is_eq-slice_cmp xs ys) ∙ ap is_eq tied)

-- a key that is found stands here or later
here_or_later : (o : Ordering) (later : Option Data) (d : Data) → IsSome (match_ordering o later (Some d) later) → (o ≡ Equal) ⊎ IsSome later
here_or_later Less later d found = inr found
here_or_later Equal later d found = inl refl
here_or_later Greater later d found = inr found

-- a key below each key of a list is below each that is found there
below_found : (first : String Global) (other : List ℕ) (es : List Entry) → AllByRecursion (λ y. string_cmp first y ≡ Less) (keys_of es) → IsSome (get_member other (members_view es))
    → slice_cmp nat_cmp (string_bytes first) other ≡ Less
below_found first other [] below found = absurd (cc)
below_found first other (e ∷ es) below found =
    elim (here_or_later (slice_cmp nat_cmp other (string_bytes e.0)) _ _ found) [
      | inl tied ↦ ap (slice_cmp nat_cmp (string_bytes first)) (same_text other (string_bytes e.0) tied) ∙ below.0
      | inr later ↦ below_found first other es below.1 later
    ]

-- where the first key is not listed
least_here : (form : Form) (e : Entry) (es : List Entry) → IsStrictlySortedBy string_cmp (keys_of (e ∷ es)) → IsLeastUnlisted form (members_view (e ∷ es)) (string_bytes e.0)
least_here form e es sorted = λ other found unlisted before.
    let later : IsSome (get_member other (members_view es)) =
    elim (here_or_later (slice_cmp nat_cmp other (string_bytes e.0)) _ _ found) [ inl tied ↦ absurd (cc) | inr later ↦ later ] in
    let above : slice_cmp nat_cmp other (string_bytes e.0) ≡ Greater =
    nat_list_cmp_total.antisymm other (string_bytes e.0) ∙ ap ordering_reverse (below_found e.0 other es (sorted_head string_cmp _ _ sorted) later) in
    cc

-- where the first key is listed
least_later : (form : Form) (e : Entry) (es : List Entry) (name : List ℕ) → is_listed form (string_bytes e.0) ≡ true → IsLeastUnlisted form (members_view es) name → IsLeastUnlisted form (members_view (e ∷ es)) name
least_later form e es name listed least = λ other found unlisted.
    elim (here_or_later (slice_cmp nat_cmp other (string_bytes e.0)) _ _ found) [
      | inl tied ↦ absurd (true≢false (sym listed ∙ ap (is_listed form) (sym (same_text other (string_bytes e.0) tied)) ∙ unlisted))
      | inr later ↦ least other later unlisted
    ]

least_at : (form : Form) (e : Entry) (es : List Entry) (name : List ℕ) (listed : Bool) → is_listed form (string_bytes e.0) ≡ listed → IsStrictlySortedBy string_cmp (keys_of (e ∷ es))
    → (first_unlisted form (members_view es) ≡ Some name → IsLeastUnlisted form (members_view es) name)
    → cond listed (first_unlisted form (members_view es)) (Some (string_bytes e.0)) ≡ Some name → IsLeastUnlisted form (members_view (e ∷ es)) name
least_at form e es name true is sorted rest first = least_later form e es name is (rest first)
least_at form e es name false is sorted rest first =
    let same : string_bytes e.0 ≡ name = cc in
    subst (IsLeastUnlisted form (members_view (e ∷ es))) same (least_here form e es sorted)

least : (form : Form) (es : List Entry) (name : List ℕ) → IsStrictlySortedBy string_cmp (keys_of es) → first_unlisted form (members_view es) ≡ Some name → IsLeastUnlisted form (members_view es) name
least form [] name sorted first = absurd (cc)
least form (e ∷ es) name sorted first = least_at form e es name _ refl sorted (least form es name (sorted_tail string_cmp _ _ sorted)) first

-- what a search among a map's keys found
pub least_found : (form : Form) (es : List Entry) (r : Option (Bor (String Global))) → IsStrictlySortedBy string_cmp (keys_of es) → option_map (λ name. string_bytes name.now) r ≡ first_unlisted form (members_view es)
    → IfSome r (λ name. IsLeastUnlisted form (members_view es) (string_bytes name.now))
least_found form es None sorted first = tt
least_found form es (Some name) sorted first = least form es (string_bytes name.now) sorted (sym first)
