use Rattle.cosim_check.proofs.Faults.{faults_found}
use Rattle.cosim_check.proofs.laws.faults_are_found.Goals as goal

pub returns : goal.returns
returns c = faults_found
