-- One turn of the machine: each hart in order of number makes its steps, then the host window is looked at, then an
-- offered input byte is taken, and then the timer ticks. Turns are this project's own: the manuals leave open how the
-- steps of harts follow one another, and how fast the timer runs.
use Rattle.std.specs.Prelude.{ℕ, zero, suc, ◌+◌, List, [], ◌∷◌, ◌++◌, length, Option, Some, None, nat_lt, if◌then◌else◌}
use Rattle.guest_ram.specs.Bytes.{number_at}
use Rattle.console.specs.State.{queue_room}
use Rattle.board_bus.specs.Board.{BoardState, entered, ticked}
use Rattle.board_bus.specs.Window.{host_says}
use Rattle.board_bus.specs.declared.window.HostSays.{HostSays}
use Rattle.board_bus.specs.declared.window.HostSays.TheVariants.{Nothing, End, Send, Bad}
use Rattle.hart_step.specs.declared.event.Event.{Event}
use Rattle.hart_step.specs.declared.event.Event.TheVariants.{Host}
use Rattle.hart_step.specs.Harts.{CoreState}
use Rattle.hart_step.specs.Step.{Answer, host_cleared}
use Rattle.hart_turns.specs.declared.machine.TurnEnd.{TurnEnd}
use Rattle.hart_turns.specs.declared.machine.TurnEnd.TheVariants.{Goes, Ended, BadHost}
use Rattle.hart_turns.specs.Gives.{board_after, board_step, sent_by}
use Rattle.hart_turns.specs.Machine.{MachineState}

-- ---- the steps

-- a machine within a turn: its harts and devices, the console bytes that it has sent in this turn, and its events
pub record Progress : Type 0 where
  pub core : CoreState
  pub board : BoardState
  pub console : List ℕ
  pub events : List Event

-- after a step
abbrev pub after_answer : Progress → Answer → Progress
after_answer p a = record {
  core = a.core;
  board = board_after p.board a.access;
  console = p.console ++ sent_by a.core.ram p.board a.access;
  events = p.events ++ a.event ∷ [];
}

-- one step of hart h
unfoldable pub one_step : ℕ → Progress → Progress
one_step h p = after_answer p (board_step p.core p.board h)

-- n steps of hart h
unfoldable pub hart_steps : ℕ → ℕ → Progress → Progress
hart_steps h zero p = p
hart_steps h (suc n) p = one_step h (hart_steps h n p)

-- n steps of each of the first harts, in order of number
unfoldable pub all_steps : ℕ → ℕ → Progress → Progress
all_steps zero n p = p
all_steps (suc h) n p = hart_steps h n (all_steps h n p)

-- ---- the host window

-- a word that sends has its byte go out, the host takes the word, and the window is cleared as a device stores
abbrev pub after_window : ℕ → HostSays → Progress → Progress
after_window tohost Nothing p = p
after_window tohost (End code) p = p
after_window tohost (Bad word) p = p
after_window tohost (Send byte) p = record {
  core = host_cleared p.core tohost;
  board = p.board;
  console = p.console ++ byte ∷ [];
  events = p.events ++ Host (number_at p.core.ram tohost 8) ∷ [];
}

-- how a turn ends, by what the window says
abbrev pub end_of : HostSays → TurnEnd
end_of Nothing = Goes
end_of (Send byte) = Goes
end_of (End code) = Ended code
end_of (Bad word) = BadHost word

-- ---- input and time

-- the board and the number of input bytes taken after a byte was offered, which is taken where the queue has room
abbrev pub takes : Option ℕ → BoardState → BoardState
takes None b = b
takes (Some byte) b = entered b byte

abbrev pub taken_after : Option ℕ → BoardState → ℕ → ℕ
taken_after None b taken = taken
taken_after (Some byte) b taken = if nat_lt (length b.console.queue) queue_room then taken + 1 else taken

-- ---- the turn

-- a turn: the machine after it, the console bytes that it sent, its events, and how it ended
pub record Turned : Type 0 where
  pub machine : MachineState
  pub console : List ℕ
  pub events : List Event
  pub end : TurnEnd

-- the beginning of a turn
abbrev pub turn_start : Progress → Progress
turn_start p = record p { console = []; events = [] }

abbrev pub begins : MachineState → Progress
begins m = record { core = m.core; board = m.board; console = []; events = [] }

-- what the window says after the steps of so many harts, and the turn's progress after the look at it
abbrev pub window_after : ℕ → ℕ → ℕ → Progress → HostSays
window_after harts slice tohost p = host_says tohost (all_steps harts slice (turn_start p)).core.ram

abbrev pub looked_after : ℕ → ℕ → ℕ → Progress → Progress
looked_after harts slice tohost p = after_window tohost (window_after harts slice tohost p) (all_steps harts slice (turn_start p))

-- the machine after a turn's steps and the look at the window; where the turn ends there, no input is taken and no
-- time passes
abbrev pub closed : MachineState → Option ℕ → Progress → TurnEnd → MachineState
closed m offered p Goes = record m { core = p.core; board = ticked (takes offered p.board); taken = taken_after offered p.board m.taken }
closed m offered p (Ended code) = record m { core = p.core; board = p.board }
closed m offered p (BadHost word) = record m { core = p.core; board = p.board }

abbrev pub turned_to : MachineState → Option ℕ → Progress → TurnEnd → Turned
turned_to m offered p end = record { machine = closed m offered p end; console = p.console; events = p.events; end = end }

-- one turn of a machine that is offered an input byte, or none
unfoldable pub turned : MachineState → Option ℕ → Turned
turned m offered =
    turned_to m offered (looked_after m.shape.harts m.shape.slice m.shape.tohost (begins m)) (end_of (window_after m.shape.harts m.shape.slice m.shape.tohost (begins m)))
