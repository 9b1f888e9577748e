use Rattle.cosim_check.proofs.Allowed.{allowed_pass}
use Rattle.cosim_check.proofs.laws.allowed_streams_pass.Goals as goal

pub returns : goal.returns
returns c = allowed_pass
