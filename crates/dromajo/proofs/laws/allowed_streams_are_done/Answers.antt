use Rattle.dromajo.proofs.Accepted.{allowed_streams_are_done}
use Rattle.dromajo.proofs.laws.allowed_streams_are_done.Goals as goal

pub returns : goal.returns
returns c = allowed_streams_are_done
