use Rattle.board_bus.proofs.Signals.{drives_four_bits_lem}
use Rattle.board_bus.proofs.laws.drives_four_bits.Goals as goal

pub returns : goal.returns
returns c = drives_four_bits_lem
