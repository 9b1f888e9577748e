use Rattle.cosim_check.proofs.Streams.{stays_so}
use Rattle.cosim_check.proofs.laws.verdict_stays.Goals as goal

pub returns : goal.returns
returns c = stays_so
