-- Steps of the lowest hart in debug mode, one after another.
use Rattle.std.proofs.Common.{◌≡◌, ◌≢◌, ℕ, zero, suc, ◌+◌, ◌==◌, if◌then◌else◌, refl, sym, ap, arith, subst}
use Rattle.std.specs.Prelude.{Some, None}
use Rattle.std.proofs.lemmas.Bool.{eq-eqb}
use Rattle.hart_step.specs.Harts.{lowest_in_debug}
use Rattle.hart_turns.specs.Boot.{Booting, boot_step, step_exception}
use Rattle.hart_turns.specs.Lowest.{LowestLead, counts, steps_of}

-- ---- how many steps

-- one step, of this hart
abbrev pub one_of : ℕ → ℕ → ℕ
one_of lowest h = if lowest == h then 1 else 0

pub one_own : (h : ℕ) → one_of h h ≡ 1
one_own h = rw (eq-eqb h h refl) refl

pub one_other : (h j : ℕ) → j ≢ h → one_of h j ≡ 0
one_other h j other = grind arith

-- the first step, and those that follow
pub counted : (j n h : ℕ) (b : Booting) → lowest_in_debug b.core ≡ Some h → steps_of j (suc n) b ≡ one_of h j + steps_of j n (boot_step h b)
unfolding steps_of
counted j n h b lowest = ap (λ o. counts j o b (steps_of j n)) lowest

pub none_counted : (j : ℕ) (b : Booting) → steps_of j 0 b ≡ 0
unfolding steps_of
none_counted j b = refl

-- ---- steps that lead on, and then more

pub no_lead : (b c : Booting) → b ≡ c → LowestLead 0 b c
unfolding LowestLead
no_lead b c same = same

pub one_lead : (n h : ℕ) (b c : Booting) → lowest_in_debug b.core ≡ Some h → step_exception h b ≡ None → LowestLead n (boot_step h b) c → LowestLead (suc n) b c
unfolding LowestLead
one_lead n h b c lowest none rest = (h, (lowest, none, rest))

pub leads_both : (n k : ℕ) (b c d : Booting) → LowestLead n b c → LowestLead k c d → LowestLead (n + k) b d
unfolding LowestLead
leads_both zero k b c d first second =
    let e : k ≡ 0 + k = omega arith in
    subst (λ i. LowestLead i b d) e (subst (λ x. LowestLead k x d) (sym first) second)
leads_both (suc n) k b c d first second =
    let e : suc (n + k) ≡ suc n + k = omega arith in
    let rest : LowestLead (n + k) (boot_step first.0 b) d = leads_both n k (boot_step first.0 b) c d first.1.2 second in
    let whole : LowestLead (suc (n + k)) b d = one_lead (n + k) first.0 b d first.1.0 first.1.1 rest in
    subst (λ i. LowestLead i b d) e whole

pub counts_both : (j n k : ℕ) (b c : Booting) → LowestLead n b c → steps_of j (n + k) b ≡ steps_of j n b + steps_of j k c
unfolding LowestLead
counts_both j zero k b c first =
    let e : 0 + k ≡ k = omega arith in
    let same : steps_of j k b ≡ steps_of j k c = ap (λ x. steps_of j k x) first in
    let here : steps_of j (0 + k) b ≡ steps_of j k b = ap (λ i. steps_of j i b) e in
    let none : steps_of j 0 b ≡ 0 = none_counted j b in
    omega (arith, same, here, none)
counts_both j (suc n) k b c first =
    let e : suc n + k ≡ suc (n + k) = omega arith in
    let next : Booting = boot_step first.0 b in
    let here : steps_of j (suc n + k) b ≡ steps_of j (suc (n + k)) b = ap (λ i. steps_of j i b) e in
    let all : steps_of j (suc (n + k)) b ≡ one_of first.0 j + steps_of j (n + k) next = counted j (n + k) first.0 b first.1.0 in
    let front : steps_of j (suc n) b ≡ one_of first.0 j + steps_of j n next = counted j n first.0 b first.1.0 in
    let rest : steps_of j (n + k) next ≡ steps_of j n next + steps_of j k c = counts_both j n k next c first.1.2 in
    omega (arith, here, all, front, rest)

-- the count of a boot's steps
pub lead_steps : (n : ℕ) (b c : Booting) → LowestLead n b c → c.steps ≡ b.steps + n
unfolding LowestLead
lead_steps zero b c lead = let e : b.steps ≡ c.steps = ap (λ (x : Booting). x.steps) lead in omega (arith, e)
lead_steps (suc n) b c lead =
    let rest : c.steps ≡ (b.steps + 1) + n = lead_steps n (boot_step lead.0 b) c lead.1.2 in
    omega (arith, rest)
