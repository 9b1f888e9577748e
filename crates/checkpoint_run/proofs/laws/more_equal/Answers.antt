use Rattle.checkpoint_run.proofs.After.{more_equal}
use Rattle.checkpoint_run.proofs.laws.more_equal.Goals as goal

pub returns : goal.returns
returns c = more_equal
