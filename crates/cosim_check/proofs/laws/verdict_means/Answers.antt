use Rattle.cosim_check.proofs.Meanings.{verdict_meant}
use Rattle.cosim_check.proofs.laws.verdict_means.Goals as goal

pub returns : goal.returns
returns c = verdict_meant
