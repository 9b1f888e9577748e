-- The events of a run, what its trace is made of, and that a core which covers the machine's allows them.
use Rattle.std.specs.Prelude.{◌≡◌, ℕ, zero, suc, ◌≤◌, Some, List, [], ◌∷◌, ◌++◌, length}
use Rattle.hart_step.specs.declared.event.Event.{Event}
use Rattle.hart_step.specs.Harts.{CoreState}
use Rattle.hart_step.specs.Told.{CoversCore}
use Rattle.hart_turns.specs.declared.machine.TurnEnd.{TurnEnd}
use Rattle.hart_turns.specs.declared.machine.TurnEnd.TheVariants.{Goes, Ended, BadHost}
use Rattle.hart_turns.specs.Machine.{MachineState}
use Rattle.job_words.specs.Job.{Logs}
use Rattle.outside_io.specs.Content.{Held}
use Rattle.outside_acts.specs.Acts.{Start, filed}
use Rattle.turn_runs.specs.Run.{no_logs, run, trace_lines, turn_on}
use Rattle.trace_law.specs.Passing.{AllAllowed}

-- ---- events

-- a run logs to a trace of this name
abbrev pub traced_to : List ℕ → Logs
traced_to name = record { trace = Some name }

-- the events of the turn after a run whose last turn ended so: none where it ended the run
abbrev pub next_events : List ℕ → MachineState → TurnEnd → List Event
next_events input m Goes = (turn_on input m).events
next_events input m (Ended code) = []
next_events input m (BadHost word) = []

-- the events of the first n turns of a run on an input, in order
unfoldable pub run_events : List ℕ → MachineState → ℕ → List Event
run_events input m zero = []
run_events input m (suc n) =
    run_events input m n ++ next_events input (run no_logs input m n).machine (run no_logs input m n).last

-- a file that is started, and to which a run is traced, holds the lines of its events
abbrev pub TraceIsEvents : Type 0
TraceIsEvents = (name input : List ℕ) (m : MachineState) (n : ℕ) (held : Held) →
    filed (Start name ∷ (run (traced_to name) input m n).acts) held name ≡ Some (trace_lines (run_events input m n))

-- ---- they are allowed

-- events are allowed from this core on, and lead it to one that covers that of the machine after them, which has kept
-- its shape and its number of harts
pub record RunPasses (core : CoreState) (before : MachineState) (events : List Event) (after : MachineState) : Type 0 where
  pub past : CoreState
  pub allowed : AllAllowed core before.shape.tohost events past
  pub covers : CoversCore past after.core
  pub shape : after.shape ≡ before.shape
  pub count : length after.core.harts ≡ length before.core.harts

-- a run passes, in whatever state the machine is, and whatever it logs to
abbrev pub RunsPass : Type 0
RunsPass = (logs : Logs) (input : List ℕ) (m : MachineState) (n : ℕ) (core : CoreState) →
    m.shape.harts ≤ length m.core.harts → CoversCore core m.core →
    RunPasses core m (run_events input m n) (run logs input m n).machine
