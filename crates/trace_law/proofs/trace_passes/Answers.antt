use Rattle.trace_law.proofs.ShownRuns.{traces_pass_lem}
use Rattle.trace_law.proofs.trace_passes.Goals as goal

pub returns : goal.returns
returns c = traces_pass_lem
