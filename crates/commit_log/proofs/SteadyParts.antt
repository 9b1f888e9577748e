-- The parts of a line are steady: each lemma says that a part before steady readers is steady.
use Rattle.std.proofs.Common.{◌≡◌, ℕ, zero, suc, ◌+◌, ◌-◌, ◌*◌, ◌/◌, ◌%◌, ◌^◌, ◌<◌, ◌≤◌, ◌⊎◌, inl, inr, false, List, [], ◌∷◌, ◌++◌, Some, Result, Ok, refl, sym, ap, subst, ◌∙◌, arith}
use Rattle.std.specs.Prelude.{nat_lt}
use Rattle.std.proofs.lemmas.Bool.Decides.{nat_tests}
use Rattle.std.proofs.lemmas.Nat.{div-mul-add, mod-mul-add, mul-add-lt, pow_pos}
use Rattle.std.proofs.Math.Nat.{add-mul, mul-add-div_right, mul-add-mod_self_right, mul_assoc}
use Rattle.hart_step.specs.declared.event.Priv.{Priv}
use Rattle.hart_step.specs.declared.event.Priv.TheVariants.{U, S, M, D}
use Rattle.commit_log.specs.declared.parts.Place.{Place}
use Rattle.guest_ram.specs.Bytes.{IsSize}
use Rattle.commit_log.specs.Spelling.{hex, hex_digit, mode_letter, number, place, word}
use Rattle.commit_log.specs.Reading.{◌>>=◌, digits_of, first_value, hart_value, hex_value, mode_value, number_of, one, past, place_of, second_value, size_value, with_second, word_of}
use Rattle.commit_log.proofs.ReadDigits.{sixteen_times}
use Rattle.commit_log.proofs.Steady.{Firsts, Steady, one_steady, option_cases, past_firsts, past_steady, regrouped, regrouped_by, same_firsts, same_steady, steady}

-- ---- characters

hex_value_is : (c d : ℕ) → hex_value c ≡ Some d → (d < 16) × (c ≡ hex_digit d)
hex_value_is c d h = grind (arith, nat_tests)

pub hart_value_is : (c d : ℕ) → hart_value c ≡ Some d → (d < 8) × (c ≡ 48 + d)
hart_value_is c d h = grind (arith, nat_tests)

pub size_value_is : (c n : ℕ) → size_value c ≡ Some n → ((n ≡ 1) ⊎ (n ≡ 2) ⊎ (n ≡ 4) ⊎ (n ≡ 8)) × (c ≡ 48 + n)
size_value_is c n h = grind (arith, nat_tests)

first_value_is : (low c d : ℕ) → first_value low c ≡ Some d → (low ≤ d) × (d < 10) × (c ≡ 48 + d)
first_value_is low c d h = grind (arith, nat_tests)

second_value_is : (d high c v : ℕ) → second_value d high c ≡ Some v → (0 < d) × (v ≤ high) × (48 ≤ c) × (c ≤ 57) × (v ≡ 10 * d + (c - 48))
second_value_is d high c v h = grind (arith, nat_tests)

-- ---- hexadecimal numbers

-- the n lowest digits do not see what is above them
pub hex_low : (n q w : ℕ) → hex n (q * 2 ^ (4 * n) + w) ≡ hex n w
unfolding hex
hex_low zero q w = refl
hex_low (suc n) q w =
    let positive : zero < 2 ^ (4 * n) = pow_pos (4 * n) in
    let same : q * 2 ^ (4 * suc n) + w ≡ (q * 16) * 2 ^ (4 * n) + w =
    ap (λ (p : ℕ). q * p + w) (sixteen_times n) ∙ ap (λ (v : ℕ). v + w) (sym (mul_assoc q 16 (2 ^ (4 * n)))) in
    let digit : (q * 2 ^ (4 * suc n) + w) / 2 ^ (4 * n) % 16 ≡ w / 2 ^ (4 * n) % 16 =
    ap (λ (v : ℕ). v / 2 ^ (4 * n) % 16) same
    ∙ ap (λ (v : ℕ). v % 16) (mul-add-div_right positive (q * 16) w)
    ∙ mul-add-mod_self_right q 16 (w / 2 ^ (4 * n)) in
    let others : hex n (q * 2 ^ (4 * suc n) + w) ≡ hex n w = ap (λ (v : ℕ). hex n v) same ∙ hex_low n (q * 16) w in
    rw (digit, others) refl

-- the first digit, and the others
pub hex_more : (n d w : ℕ) → d < 16 → w < 2 ^ (4 * n) → hex (suc n) (d * 2 ^ (4 * n) + w) ≡ hex_digit d ∷ hex n w
unfolding hex
hex_more n d w small below =
    let quotient : (d * 2 ^ (4 * n) + w) / 2 ^ (4 * n) ≡ d = div-mul-add d (2 ^ (4 * n)) w below in
    let digit : (d * 2 ^ (4 * n) + w) / 2 ^ (4 * n) % 16 ≡ d = rw quotient (omega arith) in
    rw (digit, hex_low n d w) refl

hex_after : (n c d w : ℕ) → d < 16 → c ≡ hex_digit d → w < 2 ^ (4 * n) → hex (suc n) (d * 2 ^ (4 * n) + w) ≡ c ∷ hex n w
hex_after n c d w small is below = hex_more n d w small below ∙ ap (λ (x : ℕ). x ∷ hex n w) (sym is)

next_below : (n d w : ℕ) → d < 16 → w < 2 ^ (4 * n) → d * 2 ^ (4 * n) + w < 2 ^ (4 * suc n)
next_below n d w small below = rw sixteen_times (omega (arith, mul-add-lt d (2 ^ (4 * n)) w 16 small below))

pub places_join : (n value d w : ℕ) → value * 2 ^ (4 * suc n) + (d * 2 ^ (4 * n) + w) ≡ (16 * value + d) * 2 ^ (4 * n) + w
places_join n value d w =
    let a : (16 * value + d) * 2 ^ (4 * n) ≡ 16 * value * 2 ^ (4 * n) + d * 2 ^ (4 * n) = add-mul (16 * value) d (2 ^ (4 * n)) in
    let turned : 16 * value ≡ value * 16 = omega arith in
    let b : 16 * value * 2 ^ (4 * n) ≡ value * (16 * 2 ^ (4 * n)) = ap (λ (v : ℕ). v * 2 ^ (4 * n)) turned ∙ mul_assoc value 16 (2 ^ (4 * n)) in
    rw sixteen_times (omega (arith, a, b))

steady_along : {C : Type 0} (k : ℕ × List ℕ → Result C ℕ) (Means : C → List ℕ → Type 0) (i j : ℕ) (front other : List ℕ) → i ≡ j → front ≡ other → Steady (λ xs. k (i, xs)) (λ c xs. Means c (front ++ xs)) → Steady (λ xs. k (j, xs)) (λ c xs. Means c (other ++ xs))
steady_along k Means i j front other e f s =
    subst (λ (n : ℕ). Steady (λ xs. k (n, xs)) (λ c xs. Means c (other ++ xs))) e
    (subst (λ (ys : List ℕ). Steady (λ xs. k (i, xs)) (λ c xs. Means c (ys ++ xs))) f s)

digits_same : {C : Type 0} (n value : ℕ) (k : ℕ × List ℕ → Result C ℕ) (xs : List ℕ) → (one hex_value xs >>= (λ p. digits_of n (16 * value + p.0) p.1 >>= k)) ≡ (digits_of (suc n) value xs >>= k)
unfolding digits_of
digits_same n value k xs = sym (regrouped (one hex_value xs) (λ p. digits_of n (16 * value + p.0) p.1) k)

pub digits_steady : {C : Type 0} (n value : ℕ) (k : ℕ × List ℕ → Result C ℕ) (Means : C → List ℕ → Type 0) → ((v : ℕ) → v < 2 ^ (4 * n) → Steady (λ xs. k (value * 2 ^ (4 * n) + v, xs)) (λ c xs. Means c (hex n v ++ xs))) → Steady (λ xs. digits_of n value xs >>= k) Means
unfolding digits_of hex
digits_steady zero value k Means s =
    let e : value * 2 ^ (4 * zero) + 0 ≡ value = omega arith in
    subst (λ (v : ℕ). Steady (λ xs. k (v, xs)) Means) e (s 0 (omega arith))
digits_steady (suc n) value k Means s =
    same_steady _ _ Means (digits_same n value k)
    (one_steady hex_value (λ p. digits_of n (16 * value + p.0) p.1 >>= k) Means 48 0 refl
    (λ c d is. let f = hex_value_is c d is in
    digits_steady n (16 * value + d) k (λ t xs. Means t (c ∷ xs))
    (λ w below. steady_along k Means _ _ _ _ (places_join n value d w) (hex_after n c d w f.0 f.1 below) (s (d * 2 ^ (4 * n) + w) (next_below n d w f.0 below)))))

-- ---- decimal numbers

module _ {C : Type 0} (d high : ℕ) (k : ℕ × List ℕ → Result C ℕ) (Means : C → List ℕ → Type 0) where
  record Accepted : Type 0 where
    xs : List ℕ
    value : C
    ok : k (with_second d high xs) ≡ Ok value

  -- what goes on after the one digit, or after two, goes on after the number
  accepted_too : ((c v : ℕ) → second_value d high c ≡ Some v → Steady (λ xs. k (v, xs)) (λ t xs. Means t (c ∷ xs))) → (some : List ℕ) (value : C) → k (d, some) ≡ Ok value → Accepted
  unfolding with_second
  accepted_too s [] value ok = record { xs = []; value = value; ok = ok }
  accepted_too s (c ∷ xs) value ok = elim (option_cases (second_value d high c)) [
    | inl t ↦ record { xs = c ∷ (s c t.0 t.1).some; value = (s c t.0 t.1).value; ok = rw t.1 (s c t.0 t.1).accepted }
    | inr t ↦ record { xs = c ∷ xs; value = value; ok = rw t ok }
  ]

  second_firsts : Firsts (λ xs. k (d, xs)) Means → ((c v : ℕ) → second_value d high c ≡ Some v → Steady (λ xs. k (v, xs)) (λ t xs. Means t (c ∷ xs))) → Firsts (λ xs. k (with_second d high xs)) Means
  unfolding with_second
  second_firsts f s = let a = accepted_too s f.some f.value f.accepted in record {
    empty = f.empty;
    empty_left = f.empty_left;
    some = a.xs;
    value = a.value;
    accepted = a.ok;
    goes_on = λ c. elim (option_cases (second_value d high c)) [
      | inl t ↦ inl (rw t.1 (s c t.0 t.1))
      | inr t ↦ rw t (f.goes_on c)
    ];
  }

pub number_one : (d : ℕ) → d < 10 → number d ≡ (48 + d) ∷ []
unfolding number
number_one d small = grind (arith, nat_tests)

pub number_two : (d e : ℕ) → 0 < d → e < 10 → number (d * 10 + e) ≡ (48 + d) ∷ (48 + e) ∷ []
unfolding number
number_two d e above small =
    let q : (d * 10 + e) / 10 ≡ d = div-mul-add d 10 e small in
    let r : (d * 10 + e) % 10 ≡ e = mod-mul-add d 10 e small in
    let above_nine : nat_lt (d * 10 + e) 10 ≡ false = grind (arith, nat_tests) in
    rw (above_nine, q, r) refl

number_from_first : (c d : ℕ) → d < 10 → c ≡ 48 + d → number d ≡ c ∷ []
number_from_first c d small is = number_one d small ∙ ap (λ (x : ℕ). x ∷ []) (sym is)

number_from_both : (c d b v : ℕ) → 0 < d → c ≡ 48 + d → 48 ≤ b → b ≤ 57 → v ≡ 10 * d + (b - 48) → number v ≡ c ∷ b ∷ []
number_from_both c d b v above is low high value =
    let small : b - 48 < 10 = omega arith in
    let turned : v ≡ d * 10 + (b - 48) = omega arith in
    let back : 48 + (b - 48) ≡ b = omega arith in
    ap (λ (x : ℕ). number x) turned ∙ number_two d (b - 48) above small ∙ rw (back, is) refl

number_same : {C : Type 0} (low high : ℕ) (k : ℕ × List ℕ → Result C ℕ) (xs : List ℕ) → (one (first_value low) xs >>= (λ p. k (with_second p.0 high p.1))) ≡ (number_of low high xs >>= k)
unfolding number_of
number_same low high k xs = sym (regrouped (one (first_value low) xs) (λ p. Ok (with_second p.0 high p.1)) k)

pub number_steady : {C : Type 0} (low high : ℕ) (k : ℕ × List ℕ → Result C ℕ) (Means : C → List ℕ → Type 0) → first_value low 57 ≡ Some 9 → 9 ≤ high → low ≤ 9 → ((v : ℕ) → low ≤ v → v ≤ high → Firsts (λ xs. k (v, xs)) (λ t xs. Means t (number v ++ xs))) → Steady (λ xs. number_of low high xs >>= k) Means
number_steady low high k Means nine enough little f =
    same_steady _ _ Means (number_same low high k)
    (one_steady (first_value low) (λ p. k (with_second p.0 high p.1)) Means 57 9 nine
    (λ c d is. let t = first_value_is low c d is in
    steady _ _ (second_firsts d high k (λ t xs. Means t (c ∷ xs))
    (subst (λ (ys : List ℕ). Firsts (λ xs. k (d, xs)) (λ t xs. Means t (ys ++ xs))) (number_from_first c d t.1 t.2) (f d t.0 (omega arith)))
    (λ b v two. let u = second_value_is d high b v two in
    let enough : low ≤ v = omega arith in
    subst (λ (ys : List ℕ). Steady (λ xs. k (v, xs)) (λ t xs. Means t (ys ++ xs))) (number_from_both c d b v u.0 t.2 u.2 u.3 u.4) (steady _ _ (f v enough u.1))))))

-- ---- a space and a number, and the three parts in which a step stood

module _ {C : Type 0} (n : ℕ) (k : ℕ × List ℕ → Result C ℕ) (Means : C → List ℕ → Type 0) where
  word_same : (xs : List ℕ) → (past 32 xs >>= (λ rest. digits_of n 0 rest >>= k)) ≡ (word_of n xs >>= k)
  unfolding word_of
  word_same xs = sym (regrouped (past 32 xs) (λ rest. digits_of n 0 rest) k)

  pub word_firsts : ((v : ℕ) → v < 2 ^ (4 * n) → Steady (λ xs. k (v, xs)) (λ c xs. Means c (word n v ++ xs))) → Firsts (λ xs. word_of n xs >>= k) Means
  unfolding word
  word_firsts s =
      same_firsts _ _ Means word_same
      (past_firsts 32 (λ rest. digits_of n 0 rest >>= k) Means
      (digits_steady n 0 k (λ c xs. Means c (32 ∷ xs))
      (λ v below. let e : v ≡ 0 * 2 ^ (4 * n) + v = omega arith in
      subst (λ (i : ℕ). Steady (λ xs. k (i, xs)) (λ c xs. Means c (32 ∷ (hex n v ++ xs)))) e (s v below))))

  pub word_steady : ((v : ℕ) → v < 2 ^ (4 * n) → Steady (λ xs. k (v, xs)) (λ c xs. Means c (word n v ++ xs))) → Steady (λ xs. word_of n xs >>= k) Means
  word_steady s = steady _ Means (word_firsts s)

mode_value_is : (c : ℕ) (mode : Priv) → mode_value c ≡ Some mode → c ≡ mode_letter mode
mode_value_is c U h = grind (arith, nat_tests)
mode_value_is c S h = grind (arith, nat_tests)
mode_value_is c M h = grind (arith, nat_tests)
mode_value_is c D h = grind (arith, nat_tests)

module _ {C : Type 0} (Means : C → List ℕ → Type 0) where
  pub hart_steady : (k : ℕ × List ℕ → Result C ℕ) → ((hart : ℕ) → hart < 8 → Steady (λ xs. k (hart, xs)) (λ c xs. Means c ((48 + hart) ∷ xs))) → Steady (λ xs. one hart_value xs >>= k) Means
  hart_steady k s =
      one_steady hart_value k Means 48 0 refl
      (λ c hart is. let t = hart_value_is c hart is in
      subst (λ (b : ℕ). Steady (λ xs. k (hart, xs)) (λ v xs. Means v (b ∷ xs))) (sym t.1) (s hart t.0))

  pub mode_steady : (k : Priv × List ℕ → Result C ℕ) → ((mode : Priv) → Steady (λ xs. k (mode, xs)) (λ c xs. Means c (mode_letter mode ∷ xs))) → Steady (λ xs. one mode_value xs >>= k) Means
  mode_steady k s =
      one_steady mode_value k Means 85 U refl
      (λ c mode is. subst (λ (b : ℕ). Steady (λ xs. k (mode, xs)) (λ v xs. Means v (b ∷ xs))) (sym (mode_value_is c mode is)) (s mode))

  pub size_steady : (k : ℕ × List ℕ → Result C ℕ) → ((size : ℕ) → IsSize size → Steady (λ xs. k (size, xs)) (λ c xs. Means c ((48 + size) ∷ xs))) → Steady (λ xs. one size_value xs >>= k) Means
  size_steady k s =
      one_steady size_value k Means 49 1 refl
      (λ c size is. let t = size_value_is c size is in
      subst (λ (b : ℕ). Steady (λ xs. k (size, xs)) (λ v xs. Means v (b ∷ xs))) (sym t.1) (s size t.0))

module _ {C : Type 0} (k : Place × List ℕ → Result C ℕ) (Means : C → List ℕ → Type 0) where
  place_flat : List ℕ → Result C ℕ
  place_flat xs = do
    rest ← past 32 xs
    hart ← one hart_value rest
    rest ← past 32 hart.1
    mode ← one mode_value rest
    pc ← word_of 16 mode.1
    k (record { hart = hart.0; mode = mode.0; pc = pc.0 }, pc.1)

  place_same : (xs : List ℕ) → place_flat xs ≡ (place_of xs >>= k)
  unfolding place_flat place_of
  place_same xs =
      regrouped_by (past 32 xs) _ k _ (λ rest.
      regrouped_by (one hart_value rest) _ k _ (λ hart.
      regrouped_by (past 32 hart.1) _ k _ (λ rest.
      regrouped_by (one mode_value rest) _ k _ (λ mode.
      regrouped_by (word_of 16 mode.1) _ k _ (λ pc. refl)))))

  pub place_steady : ((hart : ℕ) → hart < 8 → (mode : Priv) (pc : ℕ) → pc < 2 ^ 64 → Steady (λ xs. k (record { hart = hart; mode = mode; pc = pc }, xs)) (λ c xs. Means c (place hart mode pc ++ xs))) → Steady (λ xs. place_of xs >>= k) Means
  unfolding place_flat place
  place_steady s =
      same_steady _ _ Means place_same
      (past_steady 32 _ Means
      (hart_steady _ _ (λ hart small.
      past_steady 32 _ _
      (mode_steady _ _ (λ mode.
      word_steady 16 _ _ (λ pc below. s hart small mode pc below))))))
