use Rattle.hart_step.proofs.EventKinds.{events_show_stores_lem}
use Rattle.hart_step.proofs.laws.events_show_stores.Goals as goal

pub returns : goal.returns
returns c = events_show_stores_lem
