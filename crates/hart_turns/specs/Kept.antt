-- What the code keeps of a turn.
use Rattle.std.specs.Prelude.{◌≡◌, ℕ, ◌+◌, ◌*◌, ◌≤◌, Bool, true, false, List, ◌++◌, All, length}
use Rattle.board_bus.specs.Board.{hart_count}
use Rattle.hart_step.specs.declared.event.Event.{Event}
use Rattle.hart_step.specs.Answers.{Access}
use Rattle.hart_step.specs.Events.{IsEvent}
use Rattle.hart_turns.specs.declared.surroundings.Surroundings.{Surroundings}
use Rattle.hart_turns.specs.declared.stepping.Stepping.{Stepping}
use Rattle.sim_config.specs.declared.values.Shape.{Shape}
use Rattle.hart_turns.specs.Gives.{board_after, sent_by}
use Rattle.hart_turns.specs.Machine.{FitsShape}
use Rattle.hart_turns.specs.Turn.{Progress}
use Rattle.hart_turns.specs.Boot.{Booting, most_steps}

-- what stands around the harts after a device access with this memory: the devices, and the console bytes beside
-- those that it sent
abbrev pub outside_after : Surroundings → List ℕ → Access → Surroundings
outside_after s ram access = record {
  board = board_after s.board access;
  output = record s.output { bytes = s.output.bytes ++ sent_by ram s.board access };
}

-- what is kept of the turn, as the definitions see it
abbrev pub progress_of : Stepping → Progress
progress_of r = record { core = r.core; board = r.outside.board; console = r.outside.output.bytes; events = r.events.items }

-- what is kept of a progress: all, or all but its events, in whose place are those of before
abbrev pub kept : Bool → List Event → Progress → Progress
kept true events p = p
kept false events p = record p { events = events }

-- what no step changes: how many harts there are, how long memory is, and the room of the buffers
pub record KeepsForm (before after : Stepping) : Type 0 where
  pub harts : length after.core.harts ≡ length before.core.harts
  pub devices : hart_count after.outside.board ≡ hart_count before.outside.board
  pub ram : length after.core.ram ≡ length before.core.ram
  pub room : after.outside.output.room ≡ before.outside.output.room
  pub places : after.events.room ≡ before.events.room

-- there is room for so many more steps and for the host's word: each sends at most 256 bytes and shows one event
pub record HasRoom (r : Stepping) (steps : ℕ) : Type 0 where
  pub console : length r.outside.output.bytes + 256 * steps + 1 ≤ r.outside.output.room
  pub events : length r.events.items + steps + 1 ≤ r.events.room

-- where all events of the turn are well formed before, they are so after
abbrev pub StaysFormed : Stepping → Stepping → Type 0
StaysFormed before after = All IsEvent before.events.items → All IsEvent after.events.items

-- the machine has gone on to this progress in n steps, whose events were kept or not
pub record AfterSteps (keeps : Bool) (before after : Stepping) (p : Progress) (n : ℕ) : Type 0 where
  pub progress_is : progress_of after ≡ kept keeps before.events.items p
  pub form : KeepsForm before after
  pub console : length after.outside.output.bytes ≤ length before.outside.output.bytes + 256 * n
  pub events : length after.events.items ≤ length before.events.items + n

-- what is kept of a boot after so many steps, as the definitions see it
abbrev pub booting_of : Stepping → ℕ → Booting
booting_of r steps = record { core = r.core; board = r.outside.board; console = r.outside.output.bytes; steps = steps }

-- there is room for so many more steps of a boot: each sends at most 256 bytes, and the event of one is kept
pub record HasBootRoom (r : Stepping) (steps : ℕ) : Type 0 where
  pub console : length r.outside.output.bytes + 256 * steps + 1 ≤ r.outside.output.room
  pub events : 2 ≤ r.events.room

-- the parts of a machine fit its shape, its buffers have room for a turn and for a boot, and each event is well formed
pub record IsMachine (shape : Shape) (r : Stepping) : Type 0 where
  pub fits : FitsShape shape r.core r.outside.board
  pub console : 256 * (shape.harts * shape.slice) + 1 ≤ r.outside.output.room
  pub boot : 256 * (shape.harts * most_steps) + 1 ≤ r.outside.output.room
  pub events : shape.harts * shape.slice + 1 ≤ r.events.room
  pub formed : All IsEvent r.events.items
