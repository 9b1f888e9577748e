use Rattle.board_bus.proofs.Loaded.{loads_fit_lem}
use Rattle.board_bus.proofs.laws.loads_fit.Goals as goal

pub returns : goal.returns
returns c = loads_fit_lem
