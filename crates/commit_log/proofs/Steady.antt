-- Readers of a line that stop as late as they can. A reader gives what a list spells, or how many bytes
-- are left where it stops. It is steady for a meaning of lists where three things hold: what it gives is
-- meant by the list; some list is accepted; and wherever it stops, the front so far can be completed to
-- a list that is accepted, but with the next byte it cannot, whatever follows.
use Rattle.std.proofs.Common.{◌≡◌, ℕ, suc, ◌⊎◌, inl, inr, List, [], ◌∷◌, ◌++◌, length, Option, Some, None, Result, Ok, Err, refl, sym, ap, subst}
use Rattle.std.proofs.lemmas.Bool.Decides.{eqb_tells}
use Rattle.commit_log.specs.Reading.{◌>>=◌, one, past, at_end, choice, unless_end}

-- where a reader stops on the list xs with so many bytes left
pub record Stop {C : Type 0} (reader : List ℕ → Result C ℕ) (xs : List ℕ) (left : ℕ) : Type 0 where
  pub front : List ℕ
  pub rest : List ℕ
  pub parts : xs ≡ front ++ rest
  pub count : length rest ≡ left
  pub more : List ℕ
  pub value : C
  pub completed : reader (front ++ more) ≡ Ok value
  pub stuck : (b : ℕ) (ys zs : List ℕ) (c : C) → rest ≡ b ∷ ys → reader (front ++ b ∷ zs) ≡ Ok c → ⊥

pub record Steady {C : Type 0} (reader : List ℕ → Result C ℕ) (Means : C → List ℕ → Type 0) : Type 0 where
  pub meant : (c : C) (xs : List ℕ) → reader xs ≡ Ok c → Means c xs
  pub some : List ℕ
  pub value : C
  pub accepted : reader some ≡ Ok value
  pub stops : (xs : List ℕ) (left : ℕ) → reader xs ≡ Err left → Stop reader xs left

-- after the byte b the reader is steady, or it stops before b
abbrev pub GoesOn : {C : Type 0} → (List ℕ → Result C ℕ) → (C → List ℕ → Type 0) → ℕ → Type 0
GoesOn reader Means b =
    Steady (λ xs. reader (b ∷ xs)) (λ c xs. Means c (b ∷ xs)) ⊎ ((xs : List ℕ) → reader (b ∷ xs) ≡ Err (suc (length xs)))

-- what is known of a reader by the first byte
pub record Firsts {C : Type 0} (reader : List ℕ → Result C ℕ) (Means : C → List ℕ → Type 0) : Type 0 where
  pub empty : (c : C) → reader [] ≡ Ok c → Means c []
  pub empty_left : (left : ℕ) → reader [] ≡ Err left → left ≡ 0
  pub some : List ℕ
  pub value : C
  pub accepted : reader some ≡ Ok value
  pub goes_on : (b : ℕ) → GoesOn reader Means b

module _ {C : Type 0} (reader : List ℕ → Result C ℕ) (Means : C → List ℕ → Type 0) where
  meant_first : Firsts reader Means → (c : C) (xs : List ℕ) → reader xs ≡ Ok c → Means c xs
  meant_first f c [] h = f.empty c h
  meant_first f c (x ∷ xs) h = elim (f.goes_on x) [ inl s ↦ s.meant c xs h | inr halts ↦ absurd (let e = halts xs in cc) ]

  -- a reader that accepts something stops before the byte x
  stops_before : (some : List ℕ) (value : C) → reader some ≡ Ok value → (x : ℕ) (xs : List ℕ) (left : ℕ) → ((ys : List ℕ) → reader (x ∷ ys) ≡ Err (suc (length ys))) → reader (x ∷ xs) ≡ Err left → Stop reader (x ∷ xs) left
  stops_before some value accepted x xs left halts h = record {
    front = [];
    rest = x ∷ xs;
    parts = refl;
    count = let e = halts xs in cc;
    more = some;
    value = value;
    completed = accepted;
    stuck = λ b ys zs c e ok. let n = halts zs in let same : x ≡ b = cc in let m : reader (x ∷ zs) ≡ Ok c = rw same ok in cc;
  }

  stops_empty : (some : List ℕ) (value : C) → reader some ≡ Ok value → (left : ℕ) → left ≡ 0 → Stop reader [] left
  stops_empty some value accepted left none = record {
    front = [];
    rest = [];
    parts = refl;
    count = sym none;
    more = some;
    value = value;
    completed = accepted;
    stuck = λ b ys zs c e ok. cc;
  }

  stops_after : (x : ℕ) (xs : List ℕ) (left : ℕ) → Stop (λ ys. reader (x ∷ ys)) xs left → Stop reader (x ∷ xs) left
  stops_after x xs left s = record {
    front = x ∷ s.front;
    rest = s.rest;
    parts = ap (λ (ys : List ℕ). x ∷ ys) s.parts;
    count = s.count;
    more = s.more;
    value = s.value;
    completed = s.completed;
    stuck = s.stuck;
  }

  stops_first : Firsts reader Means → (xs : List ℕ) (left : ℕ) → reader xs ≡ Err left → Stop reader xs left
  stops_first f [] left h = stops_empty f.some f.value f.accepted left (f.empty_left left h)
  stops_first f (x ∷ xs) left h = elim (f.goes_on x) [
    | inl s ↦ stops_after x xs left (s.stops xs left h)
    | inr halts ↦ stops_before f.some f.value f.accepted x xs left halts h
  ]

  pub steady : Firsts reader Means → Steady reader Means
  steady f = record {
    meant = meant_first f;
    some = f.some;
    value = f.value;
    accepted = f.accepted;
    stops = stops_first f;
  }

-- ---- parts of a line

pub option_cases : {A : Type 0} (o : Option A) → ((a : A) × (o ≡ Some a)) ⊎ (o ≡ None)
option_cases (Some a) = inl (a, refl)
option_cases None = inr refl

module _ {C : Type 0} (letter : ℕ) (k : List ℕ → Result C ℕ) (Means : C → List ℕ → Type 0) where
  pub past_firsts : Steady k (λ c xs. Means c (letter ∷ xs)) → Firsts (λ xs. past letter xs >>= k) Means
  unfolding past
  past_firsts s = record {
    empty = λ c h. absurd cc;
    empty_left = λ left h. cc;
    some = letter ∷ s.some;
    value = s.value;
    accepted = elim (eqb_tells letter letter) [ inl t ↦ rw t.0 s.accepted | inr t ↦ absurd (t.1 refl) ];
    goes_on = λ b. elim (eqb_tells b letter) [
      | inl t ↦ inl (rw (t.0, t.1) s)
      | inr t ↦ inr (λ xs. rw t.0 refl)
    ];
  }

  pub past_steady : Steady k (λ c xs. Means c (letter ∷ xs)) → Steady (λ xs. past letter xs >>= k) Means
  past_steady s = steady _ Means (past_firsts s)

module _ {A C : Type 0} (meaning : ℕ → Option A) (k : A × List ℕ → Result C ℕ) (Means : C → List ℕ → Type 0) where
  -- a character that stands for a value, as b does for a
  pub one_steady : (b : ℕ) (a : A) → meaning b ≡ Some a → ((x : ℕ) (v : A) → meaning x ≡ Some v → Steady (λ xs. k (v, xs)) (λ c xs. Means c (x ∷ xs))) → Steady (λ xs. one meaning xs >>= k) Means
  unfolding one
  one_steady b a e s = steady _ Means (record {
    empty = λ c h. absurd cc;
    empty_left = λ left h. cc;
    some = b ∷ (s b a e).some;
    value = (s b a e).value;
    accepted = rw e (s b a e).accepted;
    goes_on = λ x. elim (option_cases (meaning x)) [
      | inl t ↦ inl (rw t.1 (s x t.0 t.1))
      | inr t ↦ inr (λ xs. rw t refl)
    ];
  })

module _ {C : Type 0} (letter : ℕ) (after without : List ℕ → Result C ℕ) (Means : C → List ℕ → Type 0) where
  pub choice_firsts : Steady after (λ c xs. Means c (letter ∷ xs)) → Firsts without Means → Firsts (choice letter after without) Means
  unfolding choice
  choice_firsts s w = record {
    empty = w.empty;
    empty_left = w.empty_left;
    some = letter ∷ s.some;
    value = s.value;
    accepted = elim (eqb_tells letter letter) [ inl t ↦ rw t.0 s.accepted | inr t ↦ absurd (t.1 refl) ];
    goes_on = λ b. elim (eqb_tells b letter) [
      | inl t ↦ inl (rw (t.0, t.1) s)
      | inr t ↦ rw t.0 (w.goes_on b)
    ];
  }

module _ {C : Type 0} (a : C) (Means : C → List ℕ → Type 0) where
  pub end_firsts : Means a [] → Firsts (at_end a) Means
  unfolding at_end
  end_firsts m = record {
    empty = λ c h. let e : a ≡ c = cc in subst (λ (x : C). Means x []) e m;
    empty_left = λ left h. absurd cc;
    some = [];
    value = a;
    accepted = refl;
    goes_on = λ b. inr (λ xs. refl);
  }

  pub end_steady : Means a [] → Steady (at_end a) Means
  end_steady m = steady _ Means (end_firsts m)

  pub unless_end_steady : (after : List ℕ → Result C ℕ) → Means a [] → Steady after (λ c xs. Means c (32 ∷ xs)) → Steady (unless_end a after) Means
  unfolding unless_end
  unless_end_steady after m s = steady _ Means (record {
    empty = λ c h. let e : a ≡ c = cc in subst (λ (x : C). Means x []) e m;
    empty_left = λ left h. absurd cc;
    some = [];
    value = a;
    accepted = refl;
    goes_on = λ b. (past_firsts 32 after Means s).goes_on b;
  })

-- ---- what is read, changed

module _ {A C : Type 0} (reader : List ℕ → Result A ℕ) (f : A → C) (MeansA : A → List ℕ → Type 0) (Means : C → List ℕ → Type 0) where
  changed_ok : (r : Result A ℕ) (c : C) → (r >>= (λ a. Ok (f a))) ≡ Ok c → (a : A) × (r ≡ Ok a) × (f a ≡ c)
  changed_ok (Ok a) c h = (a, refl, cc)
  changed_ok (Err left) c h = absurd cc

  changed_err : (r : Result A ℕ) (left : ℕ) → (r >>= (λ a. Ok (f a))) ≡ Err left → r ≡ Err left
  changed_err (Ok a) left h = absurd cc
  changed_err (Err e) left h = cc

  changed_stop : (xs : List ℕ) (left : ℕ) → Stop reader xs left → Stop (λ ys. reader ys >>= (λ a. Ok (f a))) xs left
  changed_stop xs left s = record {
    front = s.front;
    rest = s.rest;
    parts = s.parts;
    count = s.count;
    more = s.more;
    value = f s.value;
    completed = rw s.completed refl;
    stuck = λ b ys zs c e ok. let t = changed_ok _ c ok in s.stuck b ys zs t.0 e t.1;
  }

  pub changed : ((a : A) (xs : List ℕ) → MeansA a xs → Means (f a) xs) → Steady reader MeansA → Steady (λ xs. reader xs >>= (λ a. Ok (f a))) Means
  changed m s = record {
    meant = λ c xs h. let t = changed_ok (reader xs) c h in subst (λ (x : C). Means x xs) t.2 (m t.0 xs (s.meant t.0 xs t.1));
    some = s.some;
    value = f s.value;
    accepted = rw s.accepted refl;
    stops = λ xs left h. changed_stop xs left (s.stops xs left (changed_err (reader xs) left h));
  }

-- ---- one step after another

-- steps in a row may be grouped from either side
pub regrouped : {A B C : Type 0} (r : Result A ℕ) (f : A → Result B ℕ) (g : B → Result C ℕ) → ((r >>= f) >>= g) ≡ (r >>= (λ a. f a >>= g))
regrouped (Ok a) f g = refl
regrouped (Err left) f g = refl

pub same_steady : {C : Type 0} (reader other : List ℕ → Result C ℕ) (Means : C → List ℕ → Type 0) → ((xs : List ℕ) → reader xs ≡ other xs) → Steady reader Means → Steady other Means
same_steady reader other Means same s = subst (λ (r : List ℕ → Result _ ℕ). Steady r Means) (λ i xs. same xs i) s

module _ {C : Type 0} (reader : List ℕ → Result C ℕ) (Means Wider : C → List ℕ → Type 0) (wider : (c : C) (xs : List ℕ) → Means c xs → Wider c xs) where
  pub wider_steady : Steady reader Means → Steady reader Wider
  wider_steady s = record {
    meant = λ c xs h. wider c xs (s.meant c xs h);
    some = s.some;
    value = s.value;
    accepted = s.accepted;
    stops = s.stops;
  }

pub wider_firsts : {C : Type 0} (reader : List ℕ → Result C ℕ) (Means Wider : C → List ℕ → Type 0) → ((c : C) (xs : List ℕ) → Means c xs → Wider c xs) → Firsts reader Means → Firsts reader Wider
wider_firsts reader Means Wider wider f = record {
  empty = λ c h. wider c [] (f.empty c h);
  empty_left = f.empty_left;
  some = f.some;
  value = f.value;
  accepted = f.accepted;
  goes_on = λ b. elim (f.goes_on b) [
    | inl s ↦ inl (wider_steady _ (λ c xs. Means c (b ∷ xs)) (λ c xs. Wider c (b ∷ xs)) (λ c xs m. wider c (b ∷ xs) m) s)
    | inr halts ↦ inr halts
  ];
}

pub same_firsts : {C : Type 0} (reader other : List ℕ → Result C ℕ) (Means : C → List ℕ → Type 0) → ((xs : List ℕ) → reader xs ≡ other xs) → Firsts reader Means → Firsts other Means
same_firsts reader other Means same s = subst (λ (r : List ℕ → Result _ ℕ). Firsts r Means) (λ i xs. same xs i) s

-- the step after the first is grouped otherwise
pub regrouped_by : {A B C : Type 0} (r : Result A ℕ) (f : A → Result B ℕ) (g : B → Result C ℕ) (h : A → Result C ℕ) → ((a : A) → h a ≡ (f a >>= g)) → (r >>= h) ≡ ((r >>= f) >>= g)
regrouped_by (Ok a) f g h e = e a
regrouped_by (Err left) f g h e = refl
