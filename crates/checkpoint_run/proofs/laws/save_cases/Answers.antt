use Rattle.checkpoint_run.proofs.Cases.{save_cases}
use Rattle.checkpoint_run.proofs.laws.save_cases.Goals as goal

pub returns : goal.returns
returns c = save_cases
