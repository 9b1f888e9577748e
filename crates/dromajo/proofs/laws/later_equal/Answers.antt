use Rattle.dromajo.proofs.Later.{later_equal}
use Rattle.dromajo.proofs.laws.later_equal.Goals as goal

pub returns : goal.returns
returns c = later_equal
