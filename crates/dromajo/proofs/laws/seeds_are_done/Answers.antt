use Rattle.dromajo.proofs.Accepted.{seeds_are_done}
use Rattle.dromajo.proofs.laws.seeds_are_done.Goals as goal

pub returns : goal.returns
returns c = seeds_are_done
