use Rattle.hart_step.proofs.FitSteps.{steps_stay_fit_lem}
use Rattle.hart_step.proofs.laws.steps_stay_fit.Goals as goal

pub returns : goal.returns
returns c = steps_stay_fit_lem
