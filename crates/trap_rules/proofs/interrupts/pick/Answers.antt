use Rattle.std.proofs.Common.{◌≡◌, ℕ, refl, rules, sym, ap, ◌∙◌}
use Rattle.std.specs.Prelude.{Option, None, Some, IfSome, IsTrue, is_some}
use Rattle.trap_rules.specs.Interrupt.{may_be_taken}
use Rattle.trap_rules.proofs.PickLaws.{machine-permitted, supervisor-permitted}
use Rattle.trap_rules.proofs.interrupts.pick.Goals as goal

pub returns-in-Some-clause-permitted : goal.returns-in-Some-clause-permitted
returns-in-Some-clause-permitted c = λ given.
    machine-permitted c.args.csrs.now c.args.mode c.args.live c.in-Some.cause given (ap is_some (sym c.debug.ensures.value) ∙ sym c.is_some.ensures ∙ c.if-is_some.false) (sym c.first_to_machine.ensures ∙ c.in-Some.is)

if_some : (P : ℕ → Type 0) (o : Option ℕ) → ((x : ℕ) → o ≡ Some x → P x) → IfSome o P
if_some P None h = search rules
if_some P (Some x) h = h x refl

pub returns-in-None-clause-permitted : goal.returns-in-None-clause-permitted
returns-in-None-clause-permitted c = λ given.
    if_some (λ cause. IsTrue (may_be_taken c.args.csrs.now c.args.mode cause)) c.first_to_supervisor.result (λ cause found. supervisor-permitted c.args.csrs.now c.args.mode c.args.live cause given (ap is_some (sym c.debug.ensures.value) ∙ sym c.is_some.ensures ∙ c.if-is_some.false) (sym c.first_to_machine.ensures ∙ c.in-None.is) (sym c.first_to_supervisor.ensures ∙ found))
