use Rattle.hart_turns.proofs.BootFits.{boots_stay_fit_lem}
use Rattle.hart_turns.proofs.Fits.{clearing_stays_fit_lem, debug_reset_is_fit_lem, reset_is_fit_lem, turns_stay_fit_lem, turns_stay_running_lem}
use Rattle.hart_turns.proofs.laws.machines_stay_fit.Goals as goal

pub returns : goal.returns
returns c = record { turns = turns_stay_fit_lem; running = turns_stay_running_lem; boots = boots_stay_fit_lem; clearing = clearing_stays_fit_lem; reset = reset_is_fit_lem; debug = debug_reset_is_fit_lem }
