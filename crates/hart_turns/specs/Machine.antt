-- The whole machine: its shape, its harts with their memory, its devices, and how many input bytes it has taken.
use Rattle.std.specs.Prelude.{◌≡◌, ℕ, Bool, List, is_none, length}
use Rattle.sim_config.specs.declared.values.Shape.{Shape}
use Rattle.sim_config.specs.Ranges.{IsShape}
use Rattle.board_bus.specs.Board.{BoardState, hart_count, reset_board}
use Rattle.hart_step.specs.declared.event.Event.{Event}
use Rattle.hart_step.specs.DebugReset.{debug_core}
use Rattle.hart_step.specs.Harts.{CoreState, lowest_in_debug, reset_core}
use Rattle.hart_step.specs.Step.{unreserved}

pub record MachineState : Type 0 where
  pub shape : Shape
  pub core : CoreState
  pub board : BoardState
  pub taken : ℕ

-- a machine, with the console bytes of its last turn or boot, and the events of its last turn, of which there are none
-- after an unseen turn and after a boot
pub record MachineView : Type 0 where
  pub machine : MachineState
  pub console : List ℕ
  pub events : List Event

-- a machine at reset: its harts begin at the entry, its devices are at reset, and no input byte was taken
abbrev pub reset_machine : Shape → List ℕ → ℕ → MachineState
reset_machine shape ram entry = record {
  shape = shape;
  core = reset_core shape.harts ram entry;
  board = reset_board shape.harts;
  taken = 0;
}

-- a machine at reset in debug mode, with this memory and boot ROM, of which so many input bytes were taken: its harts
-- begin to execute the ROM, and its devices are at reset
abbrev pub debug_machine : Shape → ℕ → List ℕ → List ℕ → MachineState
debug_machine shape taken ram rom = record {
  shape = shape;
  core = debug_core shape.harts ram rom;
  board = reset_board shape.harts;
  taken = taken;
}

-- a machine without any reservation
abbrev pub cleared : MachineState → MachineState
cleared m = record m { core = unreserved m.core }

-- a machine is running where no hart is in debug mode
abbrev pub is_running : MachineState → Bool
is_running m = is_none (lowest_in_debug m.core)

-- the parts of a machine fit its shape, whose values keep their ranges
pub record FitsShape (shape : Shape) (core : CoreState) (board : BoardState) : Type 0 where
  pub shape_fit : IsShape shape
  pub harts : length core.harts ≡ shape.harts
  pub devices : hart_count board ≡ shape.harts
  pub ram : length core.ram ≡ shape.ram
