-- The steps of a hart pass.
use Rattle.std.proofs.Common.{◌≡◌, ℕ, zero, suc, ◌<◌, List, [], ◌∷◌, ◌++◌, length, Option, IfSome, IsTrue, refl, sym, ap, subst, ◌∙◌, append_assoc, append-nil}
use Rattle.hart_step.specs.declared.event.Event.{Event}
use Rattle.hart_step.specs.declared.hart.Hart.{Hart}
use Rattle.hart_step.specs.Allowed as allowed
use Rattle.hart_step.specs.Answers.{Given}
use Rattle.hart_step.specs.Harts.{CoreState, hart_of, reset_hart}
use Rattle.hart_step.specs.Step.{Answer, step}
use Rattle.hart_step.specs.Told.{CoversCore, CoversHart, StepFollows, told_by}
use Rattle.hart_step.proofs.EventKinds.{IsCommit, IsRaised, IsTaken, KindOf, event_kind, step_count}
use Rattle.hart_step.proofs.ToldHarts.{at_covers, count_covers}
use Rattle.hart_step.proofs.ToldSteps.{steps_follow_lem}
use Rattle.trap_rules.specs.Interrupt.{may_be_taken}
use Rattle.hart_turns.specs.Gives.{board_gives}
use Rattle.hart_turns.specs.Turn.{Progress, hart_steps, one_step}
use Rattle.hart_turns.proofs.Allowed.{board_is_allowed_lem}
use Rattle.cosim_check.specs.Records.{Allows, core_past}
use Rattle.trace_law.specs.Passing.{AllAllowed, PartPasses, StepsPass}

pub joins : (tohost : ℕ) (core mid past : CoreState) (xs ys : List Event) → AllAllowed core tohost xs mid → AllAllowed mid tohost ys past → AllAllowed core tohost (xs ++ ys) past
joins tohost core mid past [] ys one two = subst (λ (c : CoreState). AllAllowed c tohost ys past) one two
joins tohost core mid past (x ∷ xs) ys one two = (one.0, joins tohost (core_past core tohost x) mid past xs ys one.1 two)

-- ---- places in a turn

pub nothing_passes : (tohost : ℕ) (p : Progress) (other : CoreState) → CoversCore other p.core → PartPasses tohost other p p
nothing_passes tohost p other covers = record { new = []; events = sym (append-nil p.events); past = other; allowed = refl; covers = covers; count = refl }

pub joined : (tohost : ℕ) (other : CoreState) (p q r : Progress) (one : PartPasses tohost other p q) → PartPasses tohost one.past q r → PartPasses tohost other p r
joined tohost other p q r one two = record {
  new = one.new ++ two.new;
  events = two.events ∙ ap (λ (es : List Event). es ++ two.new) one.events ∙ append_assoc p.events one.new two.new;
  past = two.past;
  allowed = joins tohost other one.past two.past one.new two.new one.allowed two.allowed;
  covers = two.covers;
  count = two.count ∙ one.count;
}

-- ---- one step

-- the record of a step is allowed, and moves the core as the step
record Moves (tohost : ℕ) (other : CoreState) (h : ℕ) (e : Event) : Type 0 where
  allows : Allows other tohost e
  moved : core_past other tohost e ≡ (step (told_by e) other h).core

moves : (tohost : ℕ) (other : CoreState) (h : ℕ) (given : Given) (hart : Hart) (e : Event) → h < length other.harts → CoversHart (hart_of other h) hart → allowed.IsAllowed hart given → (step (told_by e) other h).event ≡ e → KindOf h given e → Moves tohost other h e
moves tohost other h given hart e within covers ok shows (IsCommit mode pc insn rd st dv vl is) =
    subst (λ (x : Event). Moves tohost other h x) (sym is) (record { allows = (within, subst (λ (x : Event). (step (told_by x) other h).event ≡ x) is shows); moved = refl })
moves tohost other h given hart e within covers ok shows (IsRaised mode pc cause tval is) =
    subst (λ (x : Event). Moves tohost other h x) (sym is) (record { allows = (within, subst (λ (x : Event). (step (told_by x) other h).event ≡ x) is shows); moved = refl })
moves tohost other h given hart e within covers ok shows (IsTaken cause is taken) =
    let may : IsTrue (may_be_taken hart.csrs hart.mode cause) = subst (λ (i : Option ℕ). IfSome i (λ c. IsTrue (may_be_taken hart.csrs hart.mode c))) taken ok.interrupt in
    let here : IsTrue (may_be_taken (hart_of other h).csrs (hart_of other h).mode cause) = subst (λ (x : Hart). IsTrue (may_be_taken x.csrs x.mode cause)) (sym covers.is) may in
    subst (λ (x : Event). Moves tohost other h x) (sym is) (record { allows = (within, here); moved = refl })

one_passes : (tohost h : ℕ) (p : Progress) (other : CoreState) → h < length p.core.harts → CoversCore other p.core → PartPasses tohost other p (one_step h p)
unfolding one_step
one_passes tohost h p other within covers =
    let given : Given = board_gives p.board h (hart_of p.core h) in
    let a : Answer = step given p.core h in
    let ok : allowed.IsAllowed (hart_of p.core h) given = board_is_allowed_lem p.board h (hart_of p.core h) in
    let follows : StepFollows (step (told_by a.event) other h) a = steps_follow_lem given p.core other h within covers ok in
    let many : length other.harts ≡ length p.core.harts = count_covers other.harts p.core.harts covers.harts in
    let moved : Moves tohost other h a.event = moves tohost other h given (hart_of p.core h) a.event (subst (λ (k : ℕ). h < k) (sym many) within) (at_covers other.harts p.core.harts h (reset_hart 0 0) covers.harts) ok follows.event (event_kind given p.core h) in
    record {
      new = a.event ∷ [];
      events = refl;
      past = core_past other tohost a.event;
      allowed = (moved.allows, refl);
      covers = subst (λ (c : CoreState). CoversCore c a.core) (sym moved.moved) follows.core;
      count = step_count given p.core h;
    }

pub steps_pass_lem : StepsPass
unfolding hart_steps
steps_pass_lem tohost h zero p other within covers = nothing_passes tohost p other covers
steps_pass_lem tohost h (suc n) p other within covers =
    let one = steps_pass_lem tohost h n p other within covers in
    joined tohost other p (hart_steps h n p) (one_step h (hart_steps h n p)) one
    (one_passes tohost h (hart_steps h n p) one.past (subst (λ (k : ℕ). h < k) (sym one.count) within) one.covers)
