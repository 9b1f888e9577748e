use Rattle.cosim_check.proofs.Meanings as meanings
use Rattle.cosim_check.proofs.laws.refused_differs.Goals as goal

pub returns : goal.returns
returns c = meanings.refused_differs
