-- One hart's boot after another.
use Rattle.std.proofs.Common.{◌+◌, sym, ap, ◌∙◌, subst}
use Rattle.hart_turns.specs.Boot.{Booted}
use Rattle.hart_turns.proofs.BootHarts.{HaveBooted, none_booted, passed, booted_on, ended_here}
use Rattle.hart_turns.proofs.stepping.Stepping.boot.Goals as goal
use Rattle.hart_turns.proofs.stepping.Stepping.boot.Goals.{then-is_in_debug+in_default, else-is_in_debug}

pub loop-h-init : goal.loop-h-init
loop-h-init c = none_booted c.args.self.now c.args.steps.now

pub returns-in-Some-clause-fault : goal.returns-in-Some-clause-fault
returns-in-Some-clause-fault c = sym (ap (λ (x : Booted). x.fault) (ended_here c.loop-h.h c.args.harts c.args.self.now c.loop-h.self c.boot_hart.new.self c.args.steps.now c.loop-h.steps c.boot_hart.new.steps c.in-Some.fault c.loop-h-test.true c.loop-h.invariant
    (record { debugs = sym c.is_in_debug.ensures ∙ c.if-is_in_debug.true; fault_is = sym c.in-Some.is ∙ c.boot_hart.ensures.fault; left_is = c.boot_hart.ensures.left })))

pub returns-in-Some-clause-left : goal.returns-in-Some-clause-left
returns-in-Some-clause-left c = sym (ap (λ (x : Booted). x.left) (ended_here c.loop-h.h c.args.harts c.args.self.now c.loop-h.self c.boot_hart.new.self c.args.steps.now c.loop-h.steps c.boot_hart.new.steps c.in-Some.fault c.loop-h-test.true c.loop-h.invariant
    (record { debugs = sym c.is_in_debug.ensures ∙ c.if-is_in_debug.true; fault_is = sym c.in-Some.is ∙ c.boot_hart.ensures.fault; left_is = c.boot_hart.ensures.left })))

pub loop-h-preserved : goal.loop-h-preserved
loop-h-preserved c = elim c.if-is_in_debug.branch [
  | then-is_in_debug+in_default w ↦
      subst (λ s. HaveBooted (c.loop-h.h + 1) c.args.self.now s c.args.steps.now c.if-is_in_debug.steps) (sym w.self-is)
      (subst (λ n. HaveBooted (c.loop-h.h + 1) c.args.self.now w.boot_hart.new.self c.args.steps.now n) (sym w.steps-is)
      (booted_on c.loop-h.h c.args.self.now c.loop-h.self w.boot_hart.new.self c.args.steps.now c.loop-h.steps w.boot_hart.new.steps c.loop-h.invariant
      (record { debugs = sym c.is_in_debug.ensures ∙ w.if-is_in_debug.true; fault_is = sym w.in_default.is ∙ w.boot_hart.ensures.fault; left_is = w.boot_hart.ensures.left })
      w.boot_hart.ensures.form w.boot_hart.ensures.sent w.boot_hart.ensures.bounded))
  | else-is_in_debug w ↦
      subst (λ s. HaveBooted (c.loop-h.h + 1) c.args.self.now s c.args.steps.now c.if-is_in_debug.steps) (sym w.self-is)
      (subst (λ n. HaveBooted (c.loop-h.h + 1) c.args.self.now c.loop-h.self c.args.steps.now n) (sym w.steps-is)
      (passed c.loop-h.h c.args.self.now c.loop-h.self c.args.steps.now c.loop-h.steps c.loop-h.invariant (sym c.is_in_debug.ensures ∙ w.if-is_in_debug.false)))
]
