-- Where no interrupt is given, the step is that of the instruction.
use Rattle.std.proofs.Common.{sym, ◌∙◌}
use Rattle.hart_step.proofs.Steps.{no_interrupt}
use Rattle.hart_step.proofs.stepping.step_hart.Goals as goal

pub returns-in-None-clause-leaves : goal.returns-in-None-clause-leaves
returns-in-None-clause-leaves g c =
    no_interrupt g.A.Answers.says g.A.Answers.after c.args.answers.now c.interrupt.new.self c.run_instruction.new.answers c.args.h c.args.harts c.args.hart.now c.run_instruction.new.hart c.args.memory.now c.run_instruction.new.memory (g.S.Shows.shows c.run_instruction.new.place) c.run_instruction.result c.interrupt.ensures.same (sym c.interrupt.ensures.answer ∙ c.in-None.is) c.run_instruction.ensures.leaves
