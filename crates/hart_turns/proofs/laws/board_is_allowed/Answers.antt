use Rattle.hart_turns.proofs.Allowed.{board_is_allowed_lem}
use Rattle.hart_turns.proofs.laws.board_is_allowed.Goals as goal

pub returns : goal.returns
returns c = board_is_allowed_lem
