-- Laws of `first_of`, for loops that stop at the first answer.
use Rattle.std.proofs.Common.{◌≡◌, ℕ, zero, suc, ◌+◌, ◌<◌, Option, Some, None, refl, subst, add-one, arith, inl, inr}
use Rattle.std.proofs.lemmas.Bool.{cases_lt}
use Rattle.std.specs.Option.{option_or}
use Rattle.elf_load.specs.First.{first_of}

-- neither answers
pub option_or-none : {X : Type 0} (a b : Option X) → option_or a b ≡ None → (a ≡ None) × (b ≡ None)
option_or-none None b h = (refl, h)
option_or-none (Some x) b h = absurd (let h = h in cc)

-- one number more
pub first_of-more : {X : Type 0} (f : ℕ → Option X) (i : ℕ) → first_of f i ≡ None → f i ≡ None → first_of f (i + 1) ≡ None
first_of-more f i before here = rw (add-one i, before, here) refl

-- an answer where none came before is the first
pub first_of-found : {X : Type 0} (f : ℕ → Option X) (i n : ℕ) (x : X) → i < n → first_of f i ≡ None → f i ≡ Some x → first_of f n ≡ Some x
first_of-found f i zero x h before here = absurd (omega arith)
first_of-found {X} f i (suc n) x h before here =
    elim (cases_lt i n) [
      | inl less ↦ rw (first_of-found f i n x less before here) refl
      | inr more ↦
          let same : i ≡ n = omega arith in
          let P : ℕ → Type 0 = λ k. option_or (first_of f k) (f k) ≡ Some x in subst P same (rw (before, here) refl)
    ]

-- where there is no answer, there is none at any number
pub first_of-none : {X : Type 0} (f : ℕ → Option X) (n : ℕ) → first_of f n ≡ None → (i : ℕ) → i < n → f i ≡ None
first_of-none f zero none i h = absurd (omega arith)
first_of-none {X} f (suc n) none i h =
    let parts = option_or-none (first_of f n) (f n) none in
    elim (cases_lt i n) [
      | inl less ↦ first_of-none f n parts.0 i less
      | inr more ↦
          let same : n ≡ i = omega arith in
          let P : ℕ → Type 0 = λ k. f k ≡ None in subst P same parts.1
    ]
