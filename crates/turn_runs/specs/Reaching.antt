-- What a run of the code reaches: a machine, the place of its input, and what was done to all that is outside.
use Rattle.std.specs.Prelude.{◌≡◌, ◌≤◌, ◌⊎◌, ℕ, ◌+◌, [], ◌∷◌, List, Option, None, Some, IsSome, ⊤}
use Rattle.hart_turns.specs.declared.machine.TurnEnd.{TurnEnd}
use Rattle.hart_turns.specs.Machine.{MachineState, MachineView}
use Rattle.outside_io.specs.Content.{IsHeld}
use Rattle.outside_acts.specs.Acts.{Act, ReadTo, Did, read}
use Rattle.outside_acts.specs.World.{Counted, Reading, Writing, TheInput, Console, World}
use Rattle.turn_runs.specs.declared.feed.Feed.{Feed}
use Rattle.turn_runs.specs.Feeding.{IsFedFrom}
use Rattle.job_words.specs.Job.{Logs}
use Rattle.turn_runs.specs.Run.{Ran, log_acts, run, turn_acts, turn_on}

-- ---- over a told input

-- whatever the input was, of which so many bytes were read, and in which the machine and the feed hold their place
abbrev pub OverInput : MachineState → Feed → World → (List ℕ → ℕ → Type 0) → Type 0
OverInput m feed world Says =
    (bytes : List ℕ) (from : ℕ) → IsFedFrom bytes m.taken from feed world.left → Says bytes from

-- these acts were done, and this machine and its feed stand after them
pub record Reached (bytes : List ℕ) (from : ℕ) (acts : List Act) (m now : MachineState) (feed : Feed)
    (before after : World) : Type 0 where
  pub machine : now ≡ m
  pub fed : IsFedFrom bytes now.taken (read acts from) feed after.left
  pub did : Did bytes from acts before after

-- a turn was made, for which the input was read. What is logged of the events at hand is what is logged of the
-- turn's events
pub record IsTurned (logs : Logs) (bytes : List ℕ) (from : ℕ) (m : MachineState) (view : MachineView) (end : TurnEnd)
    (feed : Feed) (before after : World) : Type 0 where
  pub end_is : end ≡ (turn_on bytes m).end
  pub console_is : view.console ≡ (turn_on bytes m).console
  pub logged_are : log_acts logs view.events ≡ log_acts logs (turn_on bytes m).events
  pub reached : Reached bytes from (ReadTo (m.taken + 1) ∷ []) (turn_on bytes m).machine view.machine feed before after

-- the same, and its console bytes and its lines were written
pub record IsShown (logs : Logs) (bytes : List ℕ) (from : ℕ) (m now : MachineState) (end : TurnEnd) (feed : Feed)
    (before after : World) : Type 0 where
  pub end_is : end ≡ (turn_on bytes m).end
  pub reached : Reached bytes from (turn_acts logs m (turn_on bytes m)) (turn_on bytes m).machine now feed before after

-- so many turns were made, the last of which ended so, and shown
pub record IsRun (bytes : List ℕ) (from : ℕ) (ran : Ran) (now : MachineState) (made : ℕ) (end : TurnEnd) (feed : Feed)
    (before after : World) : Type 0 where
  pub made_is : made ≡ ran.made
  pub end_is : end ≡ ran.last
  pub reached : Reached bytes from ran.acts ran.machine now feed before after

-- ---- where something failed

-- the turn was not made, or all of it was
abbrev pub MayHaveTurned : List ℕ → MachineState → MachineState → Type 0
MayHaveTurned bytes m now = (now ≡ m) ⊎ (now ≡ (turn_on bytes m).machine)

-- the machine stands after so many of these turns, whole ones
pub record HasTurned (logs : Logs) (bytes : List ℕ) (m : MachineState) (turns : ℕ) (now : MachineState) : Type 0 where
  pub made : ℕ
  pub within : made ≤ turns
  pub machine : now ≡ (run logs bytes m made).machine

-- ---- logs

-- what a run uses: the input, the console, and the writing of files where there is a log
abbrev pub log_uses : Logs → Counted → Type 0
log_uses logs Reading = ⊥
log_uses logs Writing = IsSome logs.trace
log_uses logs TheInput = ⊤
log_uses logs Console = ⊤

abbrev pub HoldsNamed : Option (List ℕ) → World → Type 0
HoldsNamed None world = ⊤
HoldsNamed (Some name) world = IsHeld world.held name

-- the file of each log is held
abbrev pub HoldsLogs : Logs → World → Type 0
HoldsLogs logs world = HoldsNamed logs.trace world
