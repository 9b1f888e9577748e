-- What a walk adds to the values before it, and that it finds what is given.
use Rattle.std.proofs.Common.{◌≡◌, ◌≢◌, ℕ, suc, ◌&&◌, Bool, true, false, List, [], ◌∷◌, Option, Some, None, is_none, if◌then◌else◌, refl, sym, ap, ◌∙◌, arith}
use Rattle.std.specs.List.{All, AllPairs, Contains, list_any}
use Rattle.std.specs.Str.{bytes_eq}
use Rattle.std.proofs.lemmas.List.Elements.{All-cons, All-head, All-nil, All-tail}
use Rattle.std.proofs.lemmas.List.Folds.{list_any_at}
use Rattle.std.proofs.lemmas.List.Kept.{AllPairs-cons}
use Rattle.std.proofs.lemmas.Map.Views.{Contains-from_any}
use Rattle.std.proofs.lemmas.Slice.Eq.{bytes_eq-Decides}
use Rattle.job_words.specs.CommandLine.{Given, found_in, may_be_given, none_given, with_value}
use Rattle.job_words.specs.Laws.{AreGiven, FindsGiven, FindsNone, paired}

-- ---- values

-- a name that is given a value has it
own_value : (name value : List ℕ) (before : Given) → with_value name value before name ≡ Some value
own_value name value before = ap (λ (b : Bool). if b then Some value else before name) ((bytes_eq-Decides name name).1 refl)

kept : (name other : List ℕ) (value was : Option (List ℕ)) (b : Bool) → bytes_eq other name ≡ b → name ≢ other → (if b then value else was) ≡ was
kept name other value was true is apart = absurd (apart (sym ((bytes_eq-Decides other name).0 is)))
kept name other value was false is apart = refl

-- any other name has what it had
other_value : (name value other : List ℕ) (before : Given) → name ≢ other → with_value name value before other ≡ before other
other_value name value other before apart = kept name other (Some value) (before other) (bytes_eq other name) refl apart

nothing : (name other value : List ℕ) (was : Option (List ℕ)) (b : Bool) → bytes_eq other name ≡ b → (if b then Some value else was) ≡ None → (name ≢ other) × (was ≡ None)
nothing name other value was true is none = absurd (cc)
nothing name other value was false is none =
    (λ same. let yes : bytes_eq other name ≡ true = (bytes_eq-Decides other name).1 (sym same) in absurd (cc), none)

-- ---- what a walk adds

-- after the words, each name of their pairs has its value, and had none before
record Adds (names words : List (List ℕ)) (before after : Given) : Type 0 where
  pub pairs : List (List ℕ × List ℕ)
  pub words_are : words ≡ paired pairs
  pub allowed : All (λ p. Contains names p.0) pairs
  pub distinct : AllPairs (λ p q. p.0 ≢ q.0) pairs
  pub fresh : All (λ p. before p.0 ≡ None) pairs
  pub values : All (λ p. after p.0 ≡ Some p.1) pairs
  pub others : (name : List ℕ) → All (λ p. p.0 ≢ name) pairs → after name ≡ before name

both : (a b : Bool) → (a && b) ≡ true → (a ≡ true) × (b ≡ true)
both true b is = (refl, is)
both false b is = absurd (cc)

has_none : (value : Option (List ℕ)) → is_none value ≡ true → value ≡ None
has_none None is = refl
has_none (Some value) is = absurd (cc)

went_on : (b : Bool) (next : Option Given) (after : Given) → (if b then next else None) ≡ Some after → (b ≡ true) × (next ≡ Some after)
went_on true next after is = (refl, is)
went_on false next after is = absurd (cc)

-- a pair before the others
pair_added : (names : List (List ℕ)) (name value : List ℕ) (words : List (List ℕ)) (before after : Given) → may_be_given names before name ≡ true → Adds names words (with_value name value before) after → Adds names (name ∷ value ∷ words) before after
pair_added names name value words before after may adds =
    let parts = both (list_any (bytes_eq name) names) (is_none (before name)) may in
    let apart : All (λ (p : List ℕ × List ℕ). name ≢ p.0) adds.pairs = λ k d h. (nothing name _ value _ _ refl (adds.fresh k d h)).0 in
    record {
      pairs = (name, value) ∷ adds.pairs;
      words_are = ap (λ (ws : List (List ℕ)). name ∷ value ∷ ws) adds.words_are;
      allowed = All-cons (λ p. Contains names p.0) _ _ (Contains-from_any (λ x y. (bytes_eq-Decides x y).0) name names parts.0) adds.allowed;
      distinct = AllPairs-cons (λ p q. p.0 ≢ q.0) _ _ apart adds.distinct;
      fresh = All-cons (λ p. before p.0 ≡ None) _ _ (has_none (before name) parts.1) (λ k d h. (nothing name _ value _ _ refl (adds.fresh k d h)).1);
      values = All-cons (λ p. after p.0 ≡ Some p.1) _ _ (adds.others name (λ k d h same. apart k d h (sym same)) ∙ own_value name value before) adds.values;
      others = λ other none.
          adds.others other (All-tail (λ p. p.0 ≢ other) (name, value) adds.pairs none)
          ∙ other_value name value other before (All-head (λ p. p.0 ≢ other) (name, value) adds.pairs none);
    }

same_given : (before after : Given) → Some before ≡ Some after → after ≡ before
same_given before after is = cc

found_adds : (names words : List (List ℕ)) (before after : Given) → found_in names before words ≡ Some after → Adds names words before after
found_adds names [] before after is = record {
  pairs = [];
  words_are = refl;
  allowed = All-nil (λ p. Contains names p.0);
  distinct = λ i j d lt within. absurd (omega arith);
  fresh = All-nil (λ p. before p.0 ≡ None);
  values = All-nil (λ p. after p.0 ≡ Some p.1);
  others = λ name none. ap (λ (g : Given). g name) (same_given before after is);
}
found_adds names (name ∷ []) before after is = absurd (cc)
found_adds names (name ∷ value ∷ words) before after is =
    let on = went_on (may_be_given names before name) (found_in names (with_value name value before) words) after is in
    pair_added names name value words before after on.0 (found_adds names words (with_value name value before) after on.1)

-- ---- and back

is_named : (names : List (List ℕ)) (name : List ℕ) → Contains names name → list_any (bytes_eq name) names ≡ true
is_named names name at = list_any_at (bytes_eq name) names at.0 name at.1 ((bytes_eq-Decides name _).1 (sym at.2))

may_stand : (names : List (List ℕ)) (name : List ℕ) (before : Given) → Contains names name → before name ≡ None → may_be_given names before name ≡ true
may_stand names name before at none = ap (λ (b : Bool). b && is_none (before name)) (is_named names name at) ∙ ap (λ (o : Option (List ℕ)). is_none o) none

-- what the rest of the pairs leaves, where one name has its value already
left : (name value other : List ℕ) (before after : Given) (b : Bool) → bytes_eq other name ≡ b → after name ≡ Some value → (name ≢ other → after other ≡ before other) → after other ≡ (if b then Some value else before other)
left name value other before after true is has rest = ap after ((bytes_eq-Decides other name).0 is) ∙ has
left name value other before after false is has rest =
    rest (λ same. let yes : bytes_eq other name ≡ true = (bytes_eq-Decides other name).1 (sym same) in absurd (cc))

adds_found : (names : List (List ℕ)) (pairs : List (List ℕ × List ℕ)) (before after : Given) → All (λ p. Contains names p.0) pairs → AllPairs (λ p q. p.0 ≢ q.0) pairs → All (λ p. before p.0 ≡ None) pairs → All (λ p. after p.0 ≡ Some p.1) pairs → ((name : List ℕ) → All (λ p. p.0 ≢ name) pairs → after name ≡ before name) → found_in names before (paired pairs) ≡ Some after
adds_found names [] before after allowed distinct fresh values others =
    ap Some (λ i. λ name. sym (others name (All-nil (λ p. p.0 ≢ name))) i)
adds_found names (p ∷ ps) before after allowed distinct fresh values others =
    let next : Given = with_value p.0 p.1 before in
    let may : may_be_given names before p.0 ≡ true = may_stand names p.0 before (All-head (λ q. Contains names q.0) p ps allowed) (All-head (λ q. before q.0 ≡ None) p ps fresh) in
    let has : after p.0 ≡ Some p.1 = All-head (λ q. after q.0 ≡ Some q.1) p ps values in
    let apart : All (λ (q : List ℕ × List ℕ). p.0 ≢ q.0) ps = λ k d h. distinct 0 (suc k) d (omega arith) (omega arith) in
    let others_left : (name : List ℕ) → All (λ (q : List ℕ × List ℕ). q.0 ≢ name) ps → after name ≡ next name =
    λ name none. left p.0 p.1 name before after (bytes_eq name p.0) refl has (λ differs. others name (All-cons (λ q. q.0 ≢ name) p ps differs none)) in
    ap (λ (b : Bool). if b then found_in names next (paired ps) else None) may
    ∙ adds_found names ps next after (All-tail (λ q. Contains names q.0) p ps allowed) (λ i j d lt within. distinct (suc i) (suc j) d (omega arith) (omega arith)) (λ k d h. other_value p.0 p.1 _ before (apart k d h) ∙ fresh (suc k) d (omega arith)) (All-tail (λ q. after q.0 ≡ Some q.1) p ps values) others_left

-- ---- the laws

given_found : (names words : List (List ℕ)) (given : Given) → AreGiven names words given → found_in names none_given words ≡ Some given
given_found names words given are =
    ap (found_in names none_given) are.words_are
    ∙ adds_found names are.pairs none_given given are.allowed are.distinct (λ k d h. refl) are.values are.others

found_given : (names words : List (List ℕ)) (given : Given) → found_in names none_given words ≡ Some given → AreGiven names words given
found_given names words given is =
    let adds = found_adds names words none_given given is in
    record { pairs = adds.pairs; words_are = adds.words_are; allowed = adds.allowed; distinct = adds.distinct; values = adds.values; others = adds.others }

pub finds_given : FindsGiven
finds_given names words given = (found_given names words given, given_found names words given)

no_other : (found : Option Given) → ((given : Given) → ¬ (found ≡ Some given)) → found ≡ None
no_other None none = refl
no_other (Some given) none = absurd (none given refl)

pub finds_none : FindsNone
finds_none names words = (
  λ none given are. let some : found_in names none_given words ≡ Some given = given_found names words given are in absurd (cc),
  λ none. no_other (found_in names none_given words) (λ given is. none given (found_given names words given is)),
)
