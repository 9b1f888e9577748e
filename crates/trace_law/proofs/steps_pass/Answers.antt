use Rattle.trace_law.proofs.Steps.{steps_pass_lem}
use Rattle.trace_law.proofs.steps_pass.Goals as goal

pub returns : goal.returns
returns c = steps_pass_lem
