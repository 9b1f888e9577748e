-- What follows from the definitions: every step on the board, turn, boot and clearing keeps a machine well formed.
use Rattle.std.specs.Prelude.{◌≡◌, ◌%◌, ◌^◌, ◌<◌, ◌≤◌, ℕ, IfSome, IsTrue, List, Option, length}
use Rattle.sim_config.specs.Ranges.{IsShape}
use Rattle.sim_config.specs.declared.values.Shape.{Shape}
use Rattle.board_bus.specs.Board.{BoardState, IsFit as IsFitBoard}
use Rattle.hart_step.specs.Fit.{AreBytes, IsFit as IsFitCore}
use Rattle.hart_step.specs.Harts.{CoreState}
use Rattle.hart_step.specs.Memory.{most_rom}
use Rattle.hart_turns.specs.Boot.{booted, machine_at}
use Rattle.hart_turns.specs.Fit.{IsFit}
use Rattle.hart_turns.specs.Gives.{board_after, board_step}
use Rattle.hart_turns.specs.Machine.{FitsShape, MachineState, cleared, debug_machine, is_running, reset_machine}
use Rattle.hart_turns.specs.Turn.{turned}

-- a core and a board fit a shape, and each is well formed
pub record AreFit (shape : Shape) (core : CoreState) (board : BoardState) : Type 0 where
  pub parts : FitsShape shape core board
  pub harts : IsFitCore core
  pub devices : IsFitBoard board

-- a step of hart h on the board keeps both well formed
abbrev pub BoardStepsStayFit : Type 0
BoardStepsStayFit = (shape : Shape) (core : CoreState) (board : BoardState) (h : ℕ) →
    AreFit shape core board → h < length core.harts →
    AreFit shape (board_step core board h).core (board_after board (board_step core board h).access)

-- so does a turn of a machine, where a byte may be offered
abbrev pub TurnsStayFit : Type 0
TurnsStayFit = (m : MachineState) (offered : Option ℕ) →
    IsFit m → IfSome offered (λ byte. byte < 256) → IsFit (turned m offered).machine

-- and it leaves a machine running that was: no hart enters debug mode
abbrev pub TurnsStayRunning : Type 0
TurnsStayRunning = (m : MachineState) (offered : Option ℕ) →
    IsFit m → IsTrue (is_running m) → IsTrue (is_running (turned m offered).machine)

-- so does a boot keep a machine well formed, wherever it has come to
abbrev pub BootsStayFit : Type 0
BootsStayFit = (m : MachineState) → IsFit m → IsFit (machine_at m (booted m).left)

-- and the loss of every reservation
abbrev pub ClearingStaysFit : Type 0
ClearingStaysFit = (m : MachineState) → IsFit m → IsFit (cleared m)

-- a machine at reset is well formed, of a shape in its ranges, over bytes of its length, and with an even entry
abbrev pub ResetIsFit : Type 0
ResetIsFit = (shape : Shape) (ram : List ℕ) (entry : ℕ) →
    IsShape shape → length ram ≡ shape.ram → AreBytes ram → entry % 2 ≡ 0 → entry < 2 ^ 64 → IsFit (reset_machine shape ram entry)

-- and so is one at reset in debug mode, with a boot ROM of bounded length
abbrev pub DebugResetIsFit : Type 0
DebugResetIsFit = (shape : Shape) (taken : ℕ) (ram rom : List ℕ) →
    IsShape shape → length ram ≡ shape.ram → AreBytes ram → AreBytes rom → length rom ≤ most_rom →
    IsFit (debug_machine shape taken ram rom)
