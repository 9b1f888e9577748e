use Rattle.checkpoint_run.proofs.Keeps.{runs_keep}
use Rattle.checkpoint_run.proofs.laws.runs_keep.Goals as goal

pub returns : goal.returns
returns c = runs_keep
