use Rattle.sv39_walk.proofs.Reckoned.{reckons_address, reckons_fault}
use Rattle.sv39_walk.proofs.laws.plain_reckoning.Goals as goal

pub returns-clause-address : goal.returns-clause-address
returns-clause-address c = reckons_address

pub returns-clause-fault : goal.returns-clause-fault
returns-clause-fault c = reckons_fault
