use Rattle.cosim_check.proofs.Differences.{same_event}
use Rattle.cosim_check.proofs.laws.fields_tell_all.Goals as goal

pub returns : goal.returns
returns c = same_event
