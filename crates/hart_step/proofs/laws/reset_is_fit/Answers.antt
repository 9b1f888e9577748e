use Rattle.hart_step.proofs.FitSteps.{debug_reset_is_fit_lem, reset_is_fit_lem}
use Rattle.hart_step.proofs.laws.reset_is_fit.Goals as goal

pub returns : goal.returns
returns c = record { reset = reset_is_fit_lem; debug = debug_reset_is_fit_lem }
