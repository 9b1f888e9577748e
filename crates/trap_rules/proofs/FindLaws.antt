-- The first element of a list that passes a test, under another test.
use Rattle.std.proofs.Common.{◌≡◌, ℕ, Bool, true, false, cond, List, [], ◌∷◌, refl, sym, subst, ap₂}
use Rattle.std.specs.Prelude.{Option, None, Some, find}
use Rattle.std.specs.Option.{option_or}

-- a fact of each number of a list
abbrev pub Each : (ℕ → Type 0) → List ℕ → Type 0
Each P [] = Unit {0}
Each P (x ∷ xs) = P x × Each P xs

-- tests that agree on the list find the same
pub find-same : (p q : ℕ → Bool) (xs : List ℕ) → Each (λ n. p n ≡ q n) xs → find p xs ≡ find q xs
find-same p q [] h = refl
find-same p q (x ∷ xs) (e, es) = ap₂ (λ b o. cond b (Some x) o) e (find-same p q xs es)

first_has : (P : ℕ → Type 0) (b : Bool) (x c : ℕ) (o : Option ℕ) → (b ≡ true → P x) → (o ≡ Some c → P c) → cond b (Some x) o ≡ Some c → P c
first_has P true x c o here there e = let same : x ≡ c = cc in subst P same (here refl)
first_has P false x c o here there e = there e

-- what is found passes the test
pub find-passes : (p : ℕ → Bool) (xs : List ℕ) (c : ℕ) → find p xs ≡ Some c → p c ≡ true
find-passes p [] c e = absurd (cc)
find-passes p (x ∷ xs) c e = first_has (λ n. p n ≡ true) (p x) x c (find p xs) (λ h. h) (find-passes p xs c) e

-- what is found has what each element has
pub find-each : (P : ℕ → Type 0) (p : ℕ → Bool) (xs : List ℕ) (c : ℕ) → Each P xs → find p xs ≡ Some c → P c
find-each P p [] c h e = absurd (cc)
find-each P p (x ∷ xs) c (h, hs) e = first_has P (p x) x c (find p xs) (λ _. h) (find-each P p xs c hs) e

pub option_or-has : (P : ℕ → Type 0) (a b : Option ℕ) (c : ℕ) → (a ≡ Some c → P c) → (b ≡ Some c → P c) → option_or a b ≡ Some c → P c
option_or-has P None b c left right e = right e
option_or-has P (Some x) b c left right e = left e

stays_none : (b d : Bool) (x : ℕ) (o u : Option ℕ) → (d ≡ true → b ≡ true) → (o ≡ None → u ≡ None) → cond b (Some x) o ≡ None → cond d (Some x) u ≡ None
stays_none true d x o u stricter rest e = absurd (cc)
stays_none false true x o u stricter rest e = let h : false ≡ true = stricter refl in absurd (cc)
stays_none false false x o u stricter rest e = rest e

-- where nothing passes, nothing passes a stricter test
pub find-none : (p q : ℕ → Bool) → ((n : ℕ) → q n ≡ true → p n ≡ true) → (xs : List ℕ) → find p xs ≡ None → find q xs ≡ None
find-none p q stricter [] e = refl
find-none p q stricter (x ∷ xs) e = stays_none (p x) (q x) x (find p xs) (find q xs) (stricter x) (find-none p q stricter xs) e

stays_first : (b d : Bool) (x c : ℕ) (o u : Option ℕ) → (d ≡ true → b ≡ true) → (x ≡ c → d ≡ true) → (o ≡ Some c → u ≡ Some c) → cond b (Some x) o ≡ Some c → cond d (Some x) u ≡ Some c
stays_first true true x c o u stricter here rest e = e
stays_first true false x c o u stricter here rest e = let same : x ≡ c = cc in let h : false ≡ true = here same in absurd (cc)
stays_first false true x c o u stricter here rest e = let h : false ≡ true = stricter refl in absurd (cc)
stays_first false false x c o u stricter here rest e = rest e

-- the first that passes is also the first that passes a stricter test, if it passes that
pub find-stays : (p q : ℕ → Bool) → ((n : ℕ) → q n ≡ true → p n ≡ true) → (xs : List ℕ) (c : ℕ) → q c ≡ true → find p xs ≡ Some c → find q xs ≡ Some c
find-stays p q stricter [] c passes e = absurd (cc)
find-stays p q stricter (x ∷ xs) c passes e =
    stays_first (p x) (q x) x c (find p xs) (find q xs) (stricter x) (λ same. subst (λ n. q n ≡ true) (sym same) passes) (find-stays p q stricter xs c passes) e
