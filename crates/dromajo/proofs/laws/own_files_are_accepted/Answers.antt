use Rattle.dromajo.proofs.Accepted.{own_files_accepted}
use Rattle.dromajo.proofs.laws.own_files_are_accepted.Goals as goal

pub returns : goal.returns
returns c = own_files_accepted
