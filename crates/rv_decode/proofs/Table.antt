-- Laws of any table of rows: rows with other bits under a key never match, rows that are apart never
-- match together, and a word that matches a row of a table whose rows are apart is decoded by that row.
use Rattle.std.proofs.Common.{◌≡◌, ℕ, ◌+◌, ◌≤◌, Bool, true, false, cond, not, ◌&&◌, ◌||◌, List, [], ◌∷◌, Some, None, bit_and, refl, sym, ◌∙◌, ap, ◌⊎◌, inl, inr, ⊎_elim, arith}
use Rattle.std.specs.Prelude.{◌==◌, count_by, find}
use Rattle.std.specs.List.{filter, list_all, list_any}
use Rattle.std.proofs.lemmas.List.Sums.{sum_by-cons}
use Rattle.std.proofs.lemmas.Bool.{eqb-true, eq-eqb, false≢true, or_cases}
use Rattle.std.proofs.lemmas.Nat.{and_assoc, and_comm}
use Rattle.rv_decode.specs.Words.{Row, decoded_by, has_bits, is_match}

-- ---- tests

bool_cases : (b : Bool) → (b ≡ true) ⊎ (b ≡ false)
bool_cases true = inl refl
bool_cases false = inr refl

left_true : (a b : Bool) → (a && b) ≡ true → a ≡ true
left_true true b h = refl
left_true false b h = h

right_true : (a b : Bool) → (a && b) ≡ true → b ≡ true
right_true true b h = h
right_true false b h = absurd (false≢true h)

not_both : (b : Bool) → b ≡ true → not b ≡ true → ⊥
not_both true h g = false≢true g
not_both false h g = false≢true h

miss_of : (b : Bool) → (b ≡ true → ⊥) → b ≡ false
miss_of true h = absurd (h refl)
miss_of false h = refl

pub differs : (a b : ℕ) → (a ≡ b → ⊥) → (a == b) ≡ false
differs a b h = miss_of (a == b) (λ e. h (eqb-true a b e))

-- ---- the rows under a key

-- the value that a matching word has under the row's mask
matched_value : (r : Row) (w : ℕ) → is_match r w ≡ true → bit_and w r.mask ≡ r.value
matched_value r w h = eqb-true (bit_and w r.mask) r.value (right_true (list_all (λ e. not (has_bits e.0 e.1 w)) r.except) (has_bits r.mask r.value w) h)

-- the bits under `inner` of a word whose bits under `outer`, which holds `inner`, are known
narrowed : (w outer inner value : ℕ) → bit_and w outer ≡ value → bit_and outer inner ≡ inner → bit_and w inner ≡ bit_and value inner
narrowed w outer inner value has within = ap (bit_and w) (sym within) ∙ sym (and_assoc inner w outer) ∙ ap (λ x. bit_and x inner) has

-- the row's mask holds the key
abbrev pub covers : ℕ → Row → Bool
covers key r = bit_and r.mask key == key

-- the row's value has the bits k under the key
abbrev pub has_key : ℕ → ℕ → Row → Bool
has_key key k r = bit_and r.value key == k

match_key : (key : ℕ) (r : Row) (w : ℕ) → covers key r ≡ true → is_match r w ≡ true → has_key key (bit_and w key) r ≡ true
match_key key r w within h = eq-eqb (bit_and r.value key) (bit_and w key) (sym (narrowed w r.mask key r.value (matched_value r w h) (eqb-true (bit_and r.mask key) key within)))

-- only rows with the word's own key matter
pub decoded_by_key : (key : ℕ) (L : List Row) (w k : ℕ) → list_all (covers key) L ≡ true → bit_and w key ≡ k → decoded_by L w ≡ decoded_by (filter (has_key key k) L) w
decoded_by_key key [] w k within is_k = refl
decoded_by_key key (r ∷ rest) w k within is_k =
    let first : covers key r ≡ true = left_true (covers key r) (list_all (covers key) rest) within in
    let others : list_all (covers key) rest ≡ true = right_true (covers key r) (list_all (covers key) rest) within in
    let below : decoded_by rest w ≡ decoded_by (filter (has_key key k) rest) w = decoded_by_key key rest w k others is_k in
    let hit : is_match r w ≡ true → decoded_by (r ∷ rest) w ≡ decoded_by (filter (has_key key k) (r ∷ rest)) w = λ h.
    let keyed : has_key key k r ≡ true = ap (λ x. has_key key x r) (sym is_k) ∙ match_key key r w first h in
    simp (keyed, h) in
    let miss : is_match r w ≡ false → decoded_by (r ∷ rest) w ≡ decoded_by (filter (has_key key k) (r ∷ rest)) w = λ h.
    ⊎_elim (λ (keyed : has_key key k r ≡ true). simp (keyed, h) below) (λ (keyed : has_key key k r ≡ false). simp (keyed, h) below) (bool_cases (has_key key k r)) in
    ⊎_elim hit miss (bool_cases (is_match r w))

-- a word whose key is none of the rows' keys matches no row
pub decoded_by_no_key : (key : ℕ) (keys : List ℕ) (L : List Row) (w : ℕ) → list_all (covers key) L ≡ true → list_all (λ r. list_any (λ x. has_key key x r) keys) L ≡ true → list_any (λ x. bit_and w key == x) keys ≡ false → decoded_by L w ≡ None
decoded_by_no_key key keys [] w within known other = refl
decoded_by_no_key key keys (r ∷ rest) w within known other =
    let first : covers key r ≡ true = left_true (covers key r) (list_all (covers key) rest) within in
    let listed : list_any (λ x. has_key key x r) keys ≡ true = left_true (list_any (λ x. has_key key x r) keys) (list_all (λ s. list_any (λ x. has_key key x s) keys) rest) known in
    let hit : is_match r w ≡ true → ⊥ = λ h.
    let same : bit_and w key ≡ bit_and r.value key = narrowed w r.mask key r.value (matched_value r w h) (eqb-true (bit_and r.mask key) key first) in
    false≢true (sym other ∙ ap (λ k. list_any (λ x. k == x) keys) same ∙ listed) in
    let missed : is_match r w ≡ false = miss_of (is_match r w) hit in
    simp missed (decoded_by_no_key key keys rest w (right_true (covers key r) (list_all (covers key) rest) within) (right_true (list_any (λ x. has_key key x r) keys) (list_all (λ s. list_any (λ x. has_key key x s) keys) rest) known) other)

-- ---- rows that are apart

-- the exception e holds of every word that matches the row
abbrev pub is_implied : Row → ℕ × ℕ → Bool
is_implied r e = (bit_and r.mask e.0 == e.0) && (bit_and r.value e.0 == e.1)

-- no word matches both rows: they differ in a bit under both masks, or one has an exception that the other implies
abbrev pub is_apart : Row → Row → Bool
is_apart r s = not (bit_and r.value s.mask == bit_and s.value r.mask) || (list_any (is_implied s) r.except || list_any (is_implied r) s.except)

-- each row of the list is apart from those after it
abbrev pub are_apart : List Row → Bool
are_apart [] = true
are_apart (r ∷ rest) = list_all (is_apart r) rest && are_apart rest

excepted : (es : List (ℕ × ℕ)) (s : Row) (w : ℕ) → list_any (is_implied s) es ≡ true → list_all (λ e. not (has_bits e.0 e.1 w)) es ≡ true → bit_and w s.mask ≡ s.value → ⊥
excepted [] s w some none has = false≢true some
excepted (e ∷ es) s w some none has =
    let here : is_implied s e ≡ true → ⊥ = λ h.
    let within : bit_and s.mask e.0 ≡ e.0 = eqb-true (bit_and s.mask e.0) e.0 (left_true (bit_and s.mask e.0 == e.0) (bit_and s.value e.0 == e.1) h) in
    let value : bit_and s.value e.0 ≡ e.1 = eqb-true (bit_and s.value e.0) e.1 (right_true (bit_and s.mask e.0 == e.0) (bit_and s.value e.0 == e.1) h) in
    not_both (has_bits e.0 e.1 w) (eq-eqb (bit_and w e.0) e.1 (narrowed w s.mask e.0 s.value has within ∙ value)) (left_true (not (has_bits e.0 e.1 w)) (list_all (λ x. not (has_bits x.0 x.1 w)) es) none) in
    let there : list_any (is_implied s) es ≡ true → ⊥ = λ h. excepted es s w h (right_true (not (has_bits e.0 e.1 w)) (list_all (λ x. not (has_bits x.0 x.1 w)) es) none) has in
    ⊎_elim here there (or_cases (is_implied s e) (list_any (is_implied s) es) some)

-- two rows that are apart do not both match
never_both : (r s : Row) (w : ℕ) → is_apart r s ≡ true → is_match r w ≡ true → is_match s w ≡ true → ⊥
never_both r s w apart in_r in_s =
    let r_has : bit_and w r.mask ≡ r.value = matched_value r w in_r in
    let s_has : bit_and w s.mask ≡ s.value = matched_value s w in_s in
    let r_bars : list_all (λ e. not (has_bits e.0 e.1 w)) r.except ≡ true = left_true (list_all (λ e. not (has_bits e.0 e.1 w)) r.except) (has_bits r.mask r.value w) in_r in
    let s_bars : list_all (λ e. not (has_bits e.0 e.1 w)) s.except ≡ true = left_true (list_all (λ e. not (has_bits e.0 e.1 w)) s.except) (has_bits s.mask s.value w) in_s in
    let r_common : bit_and w (bit_and r.mask s.mask) ≡ bit_and r.value s.mask = sym (and_assoc s.mask w r.mask) ∙ ap (λ x. bit_and x s.mask) r_has in
    let s_common : bit_and w (bit_and s.mask r.mask) ≡ bit_and s.value r.mask = sym (and_assoc r.mask w s.mask) ∙ ap (λ x. bit_and x r.mask) s_has in
    let same : bit_and r.value s.mask ≡ bit_and s.value r.mask = sym r_common ∙ ap (bit_and w) (and_comm r.mask s.mask) ∙ s_common in
    let differ : Bool = not (bit_and r.value s.mask == bit_and s.value r.mask) in
    let by_exception : (list_any (is_implied s) r.except || list_any (is_implied r) s.except) ≡ true → ⊥ = λ h.
    ⊎_elim (λ (a : list_any (is_implied s) r.except ≡ true). excepted r.except s w a r_bars s_has) (λ (b : list_any (is_implied r) s.except ≡ true). excepted s.except r w b s_bars r_has) (or_cases (list_any (is_implied s) r.except) (list_any (is_implied r) s.except) h) in
    ⊎_elim (λ (d : not (bit_and r.value s.mask == bit_and s.value r.mask) ≡ true). not_both (bit_and r.value s.mask == bit_and s.value r.mask) (eq-eqb (bit_and r.value s.mask) (bit_and s.value r.mask) same) d) by_exception (or_cases (not (bit_and r.value s.mask == bit_and s.value r.mask)) (list_any (is_implied s) r.except || list_any (is_implied r) s.except) apart)

-- no row that is apart from a matching one matches
none_match : (r : Row) (L : List Row) (w : ℕ) → list_all (is_apart r) L ≡ true → is_match r w ≡ true → count_by (λ s. is_match s w) L ≡ 0
none_match r [] w apart h = refl
none_match r (s ∷ rest) w apart h =
    let missed : is_match s w ≡ false = miss_of (is_match s w) (never_both r s w (left_true (is_apart r s) (list_all (is_apart r) rest) apart) h) in
    simp missed (none_match r rest w (right_true (is_apart r s) (list_all (is_apart r) rest) apart) h)

-- at most one row of a list whose rows are apart matches a word
pub at_most_one : (L : List Row) (w : ℕ) → are_apart L ≡ true → count_by (λ s. is_match s w) L ≤ 1
at_most_one [] w apart = omega arith
at_most_one (r ∷ rest) w apart =
    let first : list_all (is_apart r) rest ≡ true = left_true (list_all (is_apart r) rest) (are_apart rest) apart in
    let others : count_by (λ s. is_match s w) rest ≤ 1 = at_most_one rest w (right_true (list_all (is_apart r) rest) (are_apart rest) apart) in
    let step : count_by (λ s. is_match s w) (r ∷ rest) ≡ cond (is_match r w) 1 0 + count_by (λ s. is_match s w) rest = sum_by-cons (λ s. cond (is_match s w) 1 0) r rest in
    let hit : is_match r w ≡ true → count_by (λ s. is_match s w) (r ∷ rest) ≤ 1 = λ h.
    let one : cond {A = ℕ} (is_match r w) 1 0 ≡ 1 = ap (λ b. cond {A = ℕ} b 1 0) h in
    let none : count_by (λ s. is_match s w) rest ≡ 0 = none_match r rest w first h in
    omega (arith, step, one, none) in
    let miss : is_match r w ≡ false → count_by (λ s. is_match s w) (r ∷ rest) ≤ 1 = λ h.
    let zero_here : cond {A = ℕ} (is_match r w) 1 0 ≡ 0 = ap (λ b. cond {A = ℕ} b 1 0) h in
    omega (arith, step, zero_here, others) in
    ⊎_elim hit miss (bool_cases (is_match r w))

-- ---- the row that a word is decoded by

some_injective : {A : Type 0} (x y : A) → Some x ≡ Some y → x ≡ y
some_injective x y h = cc

-- a found element passes each test that all elements of the list pass
found_passes : (p test : Row → Bool) (L : List Row) (r : Row) → list_all test L ≡ true → find p L ≡ Some r → test r ≡ true
found_passes p test [] r all found = absurd cc
found_passes p test (s ∷ rest) r all found =
    let first : test s ≡ true = left_true (test s) (list_all test rest) all in
    let others : list_all test rest ≡ true = right_true (test s) (list_all test rest) all in
    let hit : p s ≡ true → test r ≡ true = λ h.
    let same : s ≡ r = some_injective s r (simp h at found) in ap test (sym same) ∙ first in
    let miss : p s ≡ false → test r ≡ true = λ h. found_passes p test rest r others (simp h at found) in
    ⊎_elim hit miss (bool_cases (p s))

-- a word that matches a row of a list whose rows are apart is decoded by that row
pub decoded_by_row : (p : Row → Bool) (L : List Row) (r : Row) (w : ℕ) → are_apart L ≡ true → find p L ≡ Some r → is_match r w ≡ true → decoded_by L w ≡ Some (r.make w)
decoded_by_row p [] r w apart found matched = absurd cc
decoded_by_row p (s ∷ rest) r w apart found matched =
    let first : list_all (is_apart s) rest ≡ true = left_true (list_all (is_apart s) rest) (are_apart rest) apart in
    let others : are_apart rest ≡ true = right_true (list_all (is_apart s) rest) (are_apart rest) apart in
    let hit : p s ≡ true → decoded_by (s ∷ rest) w ≡ Some (r.make w) = λ h.
    let same : s ≡ r = some_injective s r (simp h at found) in
    let matches : is_match s w ≡ true = ap (λ x. is_match x w) same ∙ matched in
    simp matches (ap (λ x. Some (x.make w)) same) in
    let miss : p s ≡ false → decoded_by (s ∷ rest) w ≡ Some (r.make w) = λ h.
    let below : find p rest ≡ Some r = simp h at found in
    let missed : is_match s w ≡ false = miss_of (is_match s w) (λ in_s. never_both s r w (found_passes p (is_apart s) rest r first below) in_s matched) in
    simp missed (decoded_by_row p rest r w others below matched) in
    ⊎_elim hit miss (bool_cases (p s))
