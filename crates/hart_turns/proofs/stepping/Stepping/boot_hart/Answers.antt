-- The steps of a hart until it leaves debug mode.
use Rattle.std.proofs.Common.{sym, ap, ◌∙◌, arith}
use Rattle.hart_turns.specs.Boot.{Booted}
use Rattle.hart_turns.proofs.BootSteps.{begins, goes_on, frees_here, traps_here, long_here}
use Rattle.hart_turns.proofs.stepping.Stepping.boot_hart.Goals as goal

pub loop-init : goal.loop-init
loop-init c = begins c.args.h c.args.self.now c.args.steps.now

pub returns-in-Some-clause-fault : goal.returns-in-Some-clause-fault
returns-in-Some-clause-fault c = sym (ap (λ (x : Booted). x.fault) (traps_here c.args.h c.in-Some.pc c.in-Some.cause c.args.self.now c.loop.self c.boot_step-exception.new.self c.args.steps.now c.loop.steps c.loop.counter c.loop.invariant c.loop-test.true
    (record { step = c.boot_step-exception.ensures.step; form = c.boot_step-exception.ensures.form; sent = c.boot_step-exception.ensures.sent }) (sym c.boot_step-exception.ensures.exception ∙ c.in-Some.is)))

pub returns-in-Some-clause-left : goal.returns-in-Some-clause-left
returns-in-Some-clause-left c = sym (ap (λ (x : Booted). x.left) (traps_here c.args.h c.in-Some.pc c.in-Some.cause c.args.self.now c.loop.self c.boot_step-exception.new.self c.args.steps.now c.loop.steps c.loop.counter c.loop.invariant c.loop-test.true
    (record { step = c.boot_step-exception.ensures.step; form = c.boot_step-exception.ensures.form; sent = c.boot_step-exception.ensures.sent }) (sym c.boot_step-exception.ensures.exception ∙ c.in-Some.is)))

pub returns-then-not-is_in_debug-clause-fault : goal.returns-then-not-is_in_debug-clause-fault
returns-then-not-is_in_debug-clause-fault c = sym (ap (λ (x : Booted). x.fault) (frees_here c.args.h c.args.self.now c.loop.self c.boot_step-exception.new.self c.args.steps.now c.loop.steps c.loop.counter c.loop.invariant c.loop-test.true
    (record { step = c.boot_step-exception.ensures.step; form = c.boot_step-exception.ensures.form; sent = c.boot_step-exception.ensures.sent }) (sym c.boot_step-exception.ensures.exception ∙ c.in_default.is) (sym c.is_in_debug.ensures ∙ c.if-not-is_in_debug.true)))

pub returns-then-not-is_in_debug-clause-left : goal.returns-then-not-is_in_debug-clause-left
returns-then-not-is_in_debug-clause-left c = sym (ap (λ (x : Booted). x.left) (frees_here c.args.h c.args.self.now c.loop.self c.boot_step-exception.new.self c.args.steps.now c.loop.steps c.loop.counter c.loop.invariant c.loop-test.true
    (record { step = c.boot_step-exception.ensures.step; form = c.boot_step-exception.ensures.form; sent = c.boot_step-exception.ensures.sent }) (sym c.boot_step-exception.ensures.exception ∙ c.in_default.is) (sym c.is_in_debug.ensures ∙ c.if-not-is_in_debug.true)))

pub loop-preserved : goal.loop-preserved
loop-preserved c = goes_on c.args.h c.args.self.now c.loop.self c.boot_step-exception.new.self c.args.steps.now c.loop.steps c.loop.counter c.loop.invariant c.loop-test.true
    (record { step = c.boot_step-exception.ensures.step; form = c.boot_step-exception.ensures.form; sent = c.boot_step-exception.ensures.sent }) (sym c.boot_step-exception.ensures.exception ∙ c.in_default.is) (sym c.is_in_debug.ensures ∙ c.if-not-is_in_debug.false)

pub returns-clause-fault : goal.returns-clause-fault
returns-clause-fault c = sym (ap (λ (x : Booted). x.fault) (long_here c.args.h c.args.self.now c.loop.self c.args.steps.now c.loop.steps c.loop.counter c.loop.invariant (let a = c.loop.auto.counter-end in let b = c.loop-test.false in omega arith)))

pub returns-clause-left : goal.returns-clause-left
returns-clause-left c = sym (ap (λ (x : Booted). x.left) (long_here c.args.h c.args.self.now c.loop.self c.args.steps.now c.loop.steps c.loop.counter c.loop.invariant (let a = c.loop.auto.counter-end in let b = c.loop-test.false in omega arith)))
