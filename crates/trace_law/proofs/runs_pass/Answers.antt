use Rattle.trace_law.proofs.Runs.{runs_pass_lem}
use Rattle.trace_law.proofs.runs_pass.Goals as goal

pub returns : goal.returns
returns c = runs_pass_lem
