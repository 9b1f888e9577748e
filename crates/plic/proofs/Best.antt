-- A claim takes the best source.
use Rattle.std.proofs.Common.{◌≡◌, ◌≢◌, ◌<◌, ◌≤◌, ◌⊎◌, inl, inr, ℕ, zero, suc, Bool, true, false, refl, arith}
use Rattle.std.specs.Prelude.{IsTrue, ◌&&◌, ◌||◌, ◌==◌, nat_lt, if◌then◌else◌}
use Rattle.std.proofs.lemmas.Grind.{common_steps}
use Rattle.plic.specs.State.{PlicRegisters}
use Rattle.plic.specs.Claims.{IsBest, claimed, preferred, is_ready, priority_of}

-- s wins: it is the answer, ready, and above what stood before
record Wins (ready : ℕ → Bool) (pri : ℕ → ℕ) (before s answer : ℕ) : Type 0 where
  is : answer ≡ s
  level : pri answer ≡ pri s
  can : ready s ≡ true
  above : pri before < pri s

-- s loses: what stood before is the answer, and s is not ready or not above it
record Loses (ready : ℕ → Bool) (pri : ℕ → ℕ) (before s answer : ℕ) : Type 0 where
  is : answer ≡ before
  level : pri answer ≡ pri before
  not_above : ready s ≡ true → pri s ≤ pri before

-- the better of what stood before and s
better : (ℕ → Bool) → (ℕ → ℕ) → ℕ → ℕ → ℕ
better ready pri before s = if ready s && nat_lt (pri before) (pri s) then s else before

chosen : (ready : ℕ → Bool) (pri : ℕ → ℕ) (before s : ℕ) (b : Bool) → (ready s && nat_lt (pri before) (pri s)) ≡ b → Wins ready pri before s (if b then s else before) ⊎ Loses ready pri before s (if b then s else before)
chosen ready pri before s true h = inl record {
  is = refl;
  level = refl;
  can = grind (arith, common_steps);
  above = grind (arith, common_steps);
}
chosen ready pri before s false h = inr record {
  is = refl;
  level = refl;
  not_above = λ can. grind (arith, common_steps);
}

better_cases : (ready : ℕ → Bool) (pri : ℕ → ℕ) (before s : ℕ) → Wins ready pri before s (better ready pri before s) ⊎ Loses ready pri before s (better ready pri before s)
unfolding better
better_cases ready pri before s = chosen ready pri before s _ refl

-- what may be claimed is source 1 or 2, ready and of a priority above 0
record May (ready : ℕ → Bool) (pri : ℕ → ℕ) (k t : ℕ) : Type 0 where
  is : t ≡ k
  level : pri t ≡ pri k
  can : ready k ≡ true
  above : 0 < pri k

may_cases : (ready : ℕ → Bool) (pri : ℕ → ℕ) (t : ℕ) → IsTrue (((t == 1) || (t == 2)) && ready t && nat_lt 0 (pri t)) → May ready pri 1 t ⊎ May ready pri 2 t
may_cases ready pri zero h = let no : false ≡ true = h in cc
may_cases ready pri (suc zero) h = inl record {
  is = refl;
  level = refl;
  can = grind (arith, common_steps);
  above = grind (arith, common_steps);
}
may_cases ready pri (suc (suc zero)) h = inr record {
  is = refl;
  level = refl;
  can = grind (arith, common_steps);
  above = grind (arith, common_steps);
}
may_cases ready pri (suc (suc (suc t))) h = absurd (grind (arith, common_steps))

may_claim : (ready : ℕ → Bool) (pri : ℕ → ℕ) (s : ℕ) → (s ≡ 1) ⊎ (s ≡ 2) → ready s ≡ true → 0 < pri s → IsTrue (((s == 1) || (s == 2)) && ready s && nat_lt 0 (pri s))
may_claim ready pri s k can above =
    elim k [ inl e ↦ grind (arith, common_steps) | inr e ↦ grind (arith, common_steps) ]

-- the three facts of `IsBest` for any sources' readiness and priorities, where source 0 has priority 0
record Best (ready : ℕ → Bool) (pri : ℕ → ℕ) (s : ℕ) : Type 0 where
  one : s ≢ 0 → IsTrue (((s == 1) || (s == 2)) && ready s && nat_lt 0 (pri s))
  highest : (t : ℕ) → IsTrue (((t == 1) || (t == 2)) && ready t && nat_lt 0 (pri t)) → pri t ≤ pri s
  lowest : (t : ℕ) → IsTrue (((t == 1) || (t == 2)) && ready t && nat_lt 0 (pri t)) → pri t ≡ pri s → s ≤ t

best_from : (ready : ℕ → Bool) (pri : ℕ → ℕ) (first s : ℕ) → pri 0 ≡ 0 → Wins ready pri 0 1 first ⊎ Loses ready pri 0 1 first → Wins ready pri first 2 s ⊎ Loses ready pri first 2 s → Best ready pri s
best_from ready pri first s none one two = record {
  one = λ some. elim two [
    | inl b ↦ may_claim ready pri s (inr b.is) (rw (b.is, b.can)) (omega arith)
    | inr b ↦ elim one [
      | inl a ↦ may_claim ready pri s (inl (omega arith)) (rw (b.is, a.is, a.can)) (omega arith)
      | inr a ↦ absurd (some (omega arith))
    ]
  ];
  highest = λ t may. elim (may_cases ready pri t may) [
    | inl m ↦ elim one [
      | inl a ↦ elim two [ inl b ↦ omega arith | inr b ↦ omega arith ]
      | inr a ↦ absurd (let low : pri 1 ≤ pri 0 = a.not_above m.can in omega arith)
    ]
    | inr m ↦ elim two [
      | inl b ↦ omega arith
      | inr b ↦ let low : pri 2 ≤ pri first = b.not_above m.can in omega arith
    ]
  ];
  lowest = λ t may same. elim (may_cases ready pri t may) [
    | inl m ↦ elim one [
      | inl a ↦ elim two [ inl b ↦ omega arith | inr b ↦ omega arith ]
      | inr a ↦ absurd (let low : pri 1 ≤ pri 0 = a.not_above m.can in omega arith)
    ]
    | inr m ↦ elim two [
      | inl b ↦ omega arith
      | inr b ↦ elim one [ inl a ↦ omega arith | inr a ↦ omega arith ]
    ]
  ];
}

pub best_source : (r : PlicRegisters) (c levels : ℕ) → IsBest r c levels (claimed r c levels)
unfolding claimed preferred better
best_source r c levels =
    let ready : ℕ → Bool = λ s. is_ready r c levels s in
    let pri : ℕ → ℕ = λ s. priority_of r s in
    let first : ℕ = better ready pri 0 1 in
    let best = best_from ready pri first (better ready pri first 2) refl (better_cases ready pri 0 1) (better_cases ready pri first 2) in
    record { one = best.one; highest = best.highest; lowest = best.lowest }
