use Rattle.sv39_walk.proofs.Kept.{agreement_kept}
use Rattle.sv39_walk.proofs.Stores.{store_differs}
use Rattle.sv39_walk.proofs.laws.agrees_kept.Goals as goal

pub returns-clause-kept : goal.returns-clause-kept
returns-clause-kept c = agreement_kept

pub returns-clause-store : goal.returns-clause-store
returns-clause-store c = store_differs
