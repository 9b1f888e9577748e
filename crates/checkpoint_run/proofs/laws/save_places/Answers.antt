use Rattle.checkpoint_run.proofs.Places.{save_places}
use Rattle.checkpoint_run.proofs.laws.save_places.Goals as goal

pub returns : goal.returns
returns c = save_places
