use Rattle.sv39_walk.proofs.Reckoned.{never_both, one_address_lem, one_fault}
use Rattle.sv39_walk.proofs.laws.one_address.Goals as goal

pub returns-clause-address : goal.returns-clause-address
returns-clause-address c = one_address_lem

pub returns-clause-address_or_fault : goal.returns-clause-address_or_fault
returns-clause-address_or_fault c = never_both

pub returns-clause-fault : goal.returns-clause-fault
returns-clause-fault c = one_fault
