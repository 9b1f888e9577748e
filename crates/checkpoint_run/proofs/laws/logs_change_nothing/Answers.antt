use Rattle.checkpoint_run.proofs.Logs.{logs_change_nothing}
use Rattle.checkpoint_run.proofs.laws.logs_change_nothing.Goals as goal

pub returns : goal.returns
returns c = logs_change_nothing
