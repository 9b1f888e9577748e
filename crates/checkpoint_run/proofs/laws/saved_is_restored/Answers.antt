use Rattle.checkpoint_run.proofs.Restored.{saved_is_restored}
use Rattle.checkpoint_run.proofs.laws.saved_is_restored.Goals as goal

pub returns : goal.returns
returns c = saved_is_restored
