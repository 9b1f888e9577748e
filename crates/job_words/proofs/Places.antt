-- What one more pair adds to the values by their places.
use Rattle.std.proofs.Common.{◌≡◌, ℕ, zero, suc, ◌<◌, ◌≤◌, ◌||◌, ◌&&◌, Bool, cond, true, false, List, [], ◌∷◌, length, get_or, Option, Some, None, is_none, is_some, nat_lt, if◌then◌else◌, Bor, refl, sym, ap, subst, ◌∙◌, arith}
use Rattle.std.specs.List.{list_any, position, position_or_len}
use Rattle.std.specs.Option.{option_copied}
use Rattle.std.specs.Str.{bytes_eq}
use Rattle.std.proofs.lemmas.List.Quantifiers.{position-Some}
use Rattle.std.proofs.lemmas.List.Sums.{fails_before_first}
use Rattle.std.proofs.lemmas.Slice.Eq.{bytes_eq-Decides}
use Rattle.std.proofs.Math.ListN.{set}
use Rattle.job_words.specs.CommandLine.{may_be_given, with_value}
use Rattle.job_words.specs.Places.{by_place, in_places, texts_of}

if_if : {A : Type 0} (b : Bool) (x y z : A) → (if b then x else z) ≡ (if b then x else (if b then y else z))
if_if true x y z = refl
if_if false x y z = refl

if_swap : {A : Type 0} (here there : Bool) (x y z w : A) → (here ≡ true → there ≡ false) → w ≡ (if there then x else z) → (if here then y else w) ≡ (if there then x else (if here then y else z))
if_swap true there x y z w apart is = sym (ap (λ (b : Bool). if b then x else y) (apart refl))
if_swap false there x y z w apart is = is

-- of two names that differ, another is at most one
other_than : (name first other : List ℕ) (b : Bool) → bytes_eq other name ≡ b → bytes_eq name first ≡ false → bytes_eq other first ≡ true → b ≡ false
other_than name first other false there apart is = refl
other_than name first other true there apart is =
    let same : other ≡ name = (bytes_eq-Decides other name).0 there in
    let here : bytes_eq name first ≡ true = subst (λ (n : List ℕ). bytes_eq n first ≡ true) same is in
    cc

-- what stands in the place of a name
pub record IsPlace (name : List ℕ) (place : ℕ) (names : List (List ℕ)) (values : List (Option (Bor (List ℕ)))) : Type 0 where
  pub known : list_any (bytes_eq name) names ≡ true
  pub was : in_places names values name ≡ option_copied (get_or values place None)
  pub now : (value : Bor (List ℕ)) (other : List ℕ) → in_places names (set values place (Some value)) other ≡ with_value name value.now (in_places names values) other

placed : (name : List ℕ) (place : ℕ) (names : List (Bor (List ℕ))) (values : List (Option (Bor (List ℕ)))) (d : Bor (List ℕ)) → place < length names → length names ≤ length values → bytes_eq name (get_or names place d).now ≡ true → ((k : ℕ) → k < place → bytes_eq name (get_or names k d).now ≡ false) → IsPlace name place (texts_of names) values
placed name place [] values d within few is before = absurd (omega arith)
placed name place (first ∷ names) [] d within few is before = absurd (omega arith)
placed name zero (first ∷ names) (v ∷ values) d within few is before = record {
  known = ap (λ (b : Bool). b || list_any (bytes_eq name) (texts_of names)) is;
  was = ap (λ (b : Bool). if b then option_copied v else by_place names values name) is;
  now = λ value other.
      let same : name ≡ first.now = (bytes_eq-Decides name first.now).0 is in
      if_if (bytes_eq other first.now) (Some value.now) (option_copied v) (by_place names values other)
      ∙ ap (λ (n : List ℕ). if bytes_eq other n then Some value.now else by_place (first ∷ names) (v ∷ values) other) (sym same);
}
placed name (suc place) (first ∷ names) (v ∷ values) d within few is before =
    let apart : bytes_eq name first.now ≡ false = before 0 (omega arith) in
    let rest : IsPlace name place (texts_of names) values = placed name place names values d (omega arith) (omega arith) is (λ k h. before (suc k) (omega arith)) in
    record {
      known = ap (λ (b : Bool). b || list_any (bytes_eq name) (texts_of names)) apart ∙ rest.known;
      was = ap (λ (b : Bool). if b then option_copied v else by_place names values name) apart ∙ rest.was;
      now = λ value other. if_swap (bytes_eq other first.now) (bytes_eq other name) (Some value.now) (option_copied v) (by_place names values other) (by_place names (set values place (Some value)) other) (λ here. other_than name first.now other (bytes_eq other name) refl apart here) (rest.now value other);
    }

-- the place that a search finds
pub place_found : (name : List ℕ) (place : ℕ) (names : List (Bor (List ℕ))) (values : List (Option (Bor (List ℕ)))) → length names ≤ length values → position (λ other. bytes_eq name other.now) names ≡ Some place → IsPlace name place (texts_of names) values
place_found name place [] values few is = cc
place_found name place (first ∷ names) values few is =
    let at = position-Some (λ (other : Bor (List ℕ)). bytes_eq name other.now) (first ∷ names) place first is in
    placed name place (first ∷ names) values first at.0 few at.1 at.2

past : (place count : ℕ) (here : Bool) → nat_lt place count ≡ here → cond here (Some place) None ≡ None → count ≤ place
past place count true is none = cc
past place count false is none = grind arith

no_place : (name : List ℕ) (names : List (Bor (List ℕ))) (d : Bor (List ℕ)) → ((k : ℕ) → k < length names → bytes_eq name (get_or names k d).now ≡ false) → list_any (bytes_eq name) (texts_of names) ≡ false
no_place name [] d apart = refl
no_place name (first ∷ names) d apart = ap (λ (b : Bool). b || list_any (bytes_eq name) (texts_of names)) (apart 0 (omega arith)) ∙ no_place name names d (λ k h. apart (suc k) (omega arith))

-- a name that a search does not find is none of the names
pub place_missed : (name : List ℕ) (names : List (Bor (List ℕ))) → position (λ other. bytes_eq name other.now) names ≡ None → list_any (bytes_eq name) (texts_of names) ≡ false
place_missed name [] none = refl
place_missed name (first ∷ names) none =
    let named : Bor (List ℕ) → Bool = λ other. bytes_eq name other.now in
    let count : ℕ = length (first ∷ names) in
    let end : count ≤ position_or_len named (first ∷ names) = past (position_or_len named (first ∷ names)) count (nat_lt (position_or_len named (first ∷ names)) count) refl none in
    no_place name (first ∷ names) first (λ k h. fails_before_first named (first ∷ names) k first (omega (arith, end)))

-- ---- whether a name may be given

is_free : (value : Option (Bor (List ℕ))) → is_some value ≡ false → is_none (option_copied value) ≡ true
is_free None is = refl
is_free (Some value) is = cc

is_taken : (value : Option (Bor (List ℕ))) → is_some value ≡ true → is_none (option_copied value) ≡ false
is_taken None is = cc
is_taken (Some value) is = refl

-- a name whose place has no value may be given
pub may_be : {name : List ℕ} {place : ℕ} {names : List (List ℕ)} {values : List (Option (Bor (List ℕ)))} → IsPlace name place names values → is_some (get_or values place None) ≡ false → may_be_given names (in_places names values) name ≡ true
may_be {name = name} {place = place} {names = names} {values = values} at free =
    ap (λ (b : Bool). b && is_none (in_places names values name)) at.known ∙ ap (λ (o : Option (List ℕ)). is_none o) at.was ∙ is_free (get_or values place None) free

-- a name whose place has a value may not
pub may_not_be : {name : List ℕ} {place : ℕ} {names : List (List ℕ)} {values : List (Option (Bor (List ℕ)))} → IsPlace name place names values → is_some (get_or values place None) ≡ true → may_be_given names (in_places names values) name ≡ false
may_not_be {name = name} {place = place} {names = names} {values = values} at taken =
    ap (λ (b : Bool). b && is_none (in_places names values name)) at.known ∙ ap (λ (o : Option (List ℕ)). is_none o) at.was ∙ is_taken (get_or values place None) taken

-- what is given, where a name is given its value
pub given_at : {name : List ℕ} {place : ℕ} {names : List (List ℕ)} {values : List (Option (Bor (List ℕ)))} (value : Bor (List ℕ)) → IsPlace name place names values → in_places names (set values place (Some value)) ≡ with_value name value.now (in_places names values)
given_at value at = λ i. λ other. at.now value other i
