use Rattle.cosim_check.proofs.Prefix.{prefix_greatest}
use Rattle.cosim_check.proofs.laws.prefix_is_greatest.Goals as goal

pub returns : goal.returns
returns c = prefix_greatest
