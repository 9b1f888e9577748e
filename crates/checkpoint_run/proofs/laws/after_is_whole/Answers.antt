use Rattle.checkpoint_run.proofs.After.{after_is_whole}
use Rattle.checkpoint_run.proofs.laws.after_is_whole.Goals as goal

pub returns : goal.returns
returns c = after_is_whole
