use Rattle.checkpoint_run.proofs.Places.{unsaved_places}
use Rattle.checkpoint_run.proofs.laws.unsaved_places.Goals as goal

pub returns : goal.returns
returns c = unsaved_places
