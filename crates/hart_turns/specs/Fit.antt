-- Which machines are well formed.
use Rattle.board_bus.specs.Board as board
use Rattle.hart_step.specs.Fit as core
use Rattle.hart_turns.specs.Machine.{FitsShape, MachineState}

-- the parts of a machine fit its shape, which keeps its ranges, and each is well formed
pub record IsFit (m : MachineState) : Type 0 where
  pub shape : FitsShape m.shape m.core m.board
  pub core : core.IsFit m.core
  pub board : board.IsFit m.board
