-- Where the instruction raises an exception, the step is that of the exception.
use Rattle.std.proofs.Common.{sym, ◌∙◌}
use Rattle.hart_step.proofs.Steps.{decoded_leaves, raised_leaves}
use Rattle.hart_step.proofs.stepping.carry_out.Goals as goal

pub returns-in-Err-clause-leaves : goal.returns-in-Err-clause-leaves
returns-in-Err-clause-leaves g c =
    decoded_leaves g.A.Answers.after c.args.answers.now c.execute.new.answers _ c.args.harts c.args.h c.args.hart.now c.take_exception-in-Err.new.hart c.args.memory.now c.execute.new.memory (g.S.Shows.shows c.take_exception-in-Err.new.place) _ _ c.decode_parcels-word.result.word c.decode_parcels-word.result.len c.in-Some.insn c.decode_parcels-word.ensures.word c.decode_parcels-word.ensures.len (sym c.decode_parcels-word.ensures.row ∙ c.in-Some.is)
    (raised_leaves g.A.Answers.after c.args.answers.now c.execute.new.answers c.args.h c.args.hart.now c.execute.new.hart c.take_exception-in-Err.new.hart c.args.memory.now c.execute.new.memory (g.S.Shows.shows c.take_exception-in-Err.new.place) c.privilege-mode.result c.decode_parcels-word.result.word c.in-Err.exception _ c.privilege-mode.ensures c.in-Err.ensures.leaves c.take_exception-in-Err.ensures.hart c.take_exception-in-Err.ensures.shown c.take_exception-in-Err.ensures.formed)
