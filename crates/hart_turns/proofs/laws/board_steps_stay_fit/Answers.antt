use Rattle.hart_turns.proofs.Fits.{board_steps_stay_fit_lem}
use Rattle.hart_turns.proofs.laws.board_steps_stay_fit.Goals as goal

pub returns : goal.returns
returns c = board_steps_stay_fit_lem
