use Rattle.dromajo.proofs.BegunFit.{begun_is_fit}
use Rattle.dromajo.proofs.laws.begun_is_fit.Goals as goal

pub returns : goal.returns
returns c = begun_is_fit
