-- Names that end at a zero byte.
use Rattle.std.proofs.Common.{◌≡◌, ℕ, suc, ◌+◌, ◌<◌, ◌≤◌, List, [], ◌∷◌, Bool, true, false, not, cond, ◌&&◌, ◌||◌, ◌==◌, length, take, drop, get_or, None, refl, sym, ap, ◌∙◌, arith}
use Rattle.std.specs.List.{list_any}
use Rattle.std.specs.Str.{bytes_eq}
use Rattle.std.proofs.lemmas.List.{drop_all, places}
use Rattle.std.proofs.lemmas.Bool.Decides.{nat_tests}
use Rattle.elf_load.specs.Symbols.{begins_with_name, is_zero, named_value}
use Rattle.elf_load.specs.declared.format.Symbol.{Symbol}

-- laws of `&&`
and_false : (a : Bool) → (a && false) ≡ false
and_false true = refl
and_false false = refl

and_true : (a : Bool) → a ≡ (a && true)
and_true true = refl
and_true false = refl

and_swap : (a b x : Bool) → (a && (b && x)) ≡ (b && (a && x))
and_swap true b x = refl
and_swap false true x = refl
and_swap false false x = refl

neither : (a b : Bool) → (a && (b && false)) ≡ false
neither true b = and_false b
neither false b = refl

one_more : (p : ℕ) → 1 + p ≡ suc p
one_more p = omega arith

-- no bytes begin with no name
begins_with_name-none : (name : List ℕ) → begins_with_name [] name ≡ false
unfolding begins_with_name
begins_with_name-none name = refl

-- bytes that begin with the empty name begin with the zero byte
empty_by_test : (t any : Bool) (p b : ℕ) (bs : List ℕ) → ((t || any) && bytes_eq (take (cond (not t) (1 + p) 0) (b ∷ bs)) []) ≡ t
empty_by_test true any p b bs = refl
empty_by_test false any p b bs = rw (one_more p) (and_false any)

begins_with_name-empty : (b : ℕ) (bs : List ℕ) → begins_with_name (b ∷ bs) [] ≡ is_zero b
unfolding begins_with_name
begins_with_name-empty b bs = empty_by_test (is_zero b) _ _ b bs

-- by the first bytes
cons_by_test : (t any : Bool) (p b c : ℕ) (bs cs : List ℕ) → ((t || any) && bytes_eq (take (cond (not t) (1 + p) 0) (b ∷ bs)) (c ∷ cs)) ≡ (not t && ((b == c) && (any && bytes_eq (take p bs) cs)))
cons_by_test true any p b c bs cs = refl
cons_by_test false any p b c bs cs = rw (one_more p) (and_swap any (b == c) (bytes_eq (take p bs) cs))

begins_with_name-cons : (b c : ℕ) (bs cs : List ℕ) → begins_with_name (b ∷ bs) (c ∷ cs) ≡ (not (is_zero b) && ((b == c) && begins_with_name bs cs))
unfolding begins_with_name
begins_with_name-cons b c bs cs = cons_by_test (is_zero b) _ _ b c bs cs

-- bytes that are no longer than the name
pub begins_with_name-short : (bytes name : List ℕ) → length bytes ≤ length name → begins_with_name bytes name ≡ false
begins_with_name-short [] name h = begins_with_name-none name
begins_with_name-short (b ∷ bs) [] h = absurd (omega arith)
begins_with_name-short (b ∷ bs) (c ∷ cs) h =
    let ih = begins_with_name-short bs cs (omega arith) in
    rw (begins_with_name-cons b c bs cs, ih) (neither (not (is_zero b)) (b == c))

-- the tests of one byte and of the rest, in the other order
regroup : (b_zero c_zero same rest ended any : Bool) → (same ≡ true → b_zero ≡ c_zero) → (not b_zero && (same && (rest && (ended && not any)))) ≡ ((same && rest) && (ended && not (c_zero || any)))
regroup b_zero c_zero false rest ended any h = and_false (not b_zero)
regroup b_zero true true rest ended any h = rw (h refl) (sym (neither rest ended))
regroup b_zero false true rest ended any h = rw (h refl) refl

-- longer bytes: the name, a zero byte after it, and none in it
begins_with_name-is : (bytes name : List ℕ) → length name < length bytes → begins_with_name bytes name ≡ (bytes_eq (take (length name) bytes) name && (is_zero (get_or bytes (length name) 0) && not (list_any is_zero name)))
begins_with_name-is [] name h = absurd (omega arith)
begins_with_name-is (b ∷ bs) [] h = begins_with_name-empty b bs ∙ and_true (is_zero b)
begins_with_name-is (b ∷ bs) (c ∷ cs) h =
    let ih = begins_with_name-is bs cs (omega arith) in
    rw (begins_with_name-cons b c bs cs, ih)
    (regroup (is_zero b) (is_zero c) (b == c) _ _ _ (λ t. let same : b ≡ c = grind (arith, nat_tests) in ap is_zero same))

-- a name past the end of the section
begins_with_name-past : (bytes name : List ℕ) (at : ℕ) → length bytes < at → begins_with_name (drop at bytes) name ≡ false
begins_with_name-past bytes name at h = rw (drop_all at bytes (omega arith)) (begins_with_name-none name)

-- the tests of the code
pub begins_with_name-tests : (bytes name front rest : List ℕ) (same any : Bool) → length name < length bytes → front ≡ take (length name) bytes → rest ≡ drop (length name) bytes → same ≡ bytes_eq front name → any ≡ list_any is_zero name → (same && ((get_or rest 0 0 == 0) && not any)) ≡ begins_with_name bytes name
begins_with_name-tests bytes name front rest same any h is_front is_rest is_same is_any =
    let first : get_or (drop (length name) bytes) 0 0 ≡ get_or bytes (length name) 0 = grind (arith, places) in
    rw (is_same, is_any, is_front, is_rest, first) (sym (begins_with_name-is bytes name h))

-- a symbol whose name begins past the end of the section
pub named_value-past : (names name : List ℕ) (s : Symbol) → length names < s.name → named_value names name s ≡ None
unfolding named_value
named_value-past names name s h = rw (begins_with_name-past names name s.name h, and_false (not (s.shndx == 0))) refl
