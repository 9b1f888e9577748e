use Rattle.hart_step.proofs.FitSteps.{host_stays_fit, unreserved_stays_fit}
use Rattle.hart_step.proofs.laws.changes_stay_fit.Goals as goal

pub returns-clause-host : goal.returns-clause-host
returns-clause-host c = host_stays_fit

pub returns-clause-unreserved : goal.returns-clause-unreserved
returns-clause-unreserved c = unreserved_stays_fit
