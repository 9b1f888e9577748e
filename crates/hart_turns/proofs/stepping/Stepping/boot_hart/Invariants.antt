use Rattle.hart_turns.proofs.BootSteps.{OnItsWay}
use Rattle.hart_turns.proofs.stepping.Stepping.boot_hart.Given as goal

-- the steps made so far
abbrev pub invariant-loop : goal.invariant-loop
invariant-loop l = OnItsWay l.h l.fn.self l.self l.fn.steps l.steps l.counter
