-- A run of a machine: turn after turn, each offered the first byte of the input that was not taken yet, and what these
-- turns do to all that is outside.
use Rattle.std.specs.Prelude.{ℕ, zero, suc, ◌+◌, List, [], ◌∷◌, ◌++◌, slice_get, Option, Some, None}
use Rattle.hart_step.specs.declared.event.Event.{Event}
use Rattle.commit_log.specs.Spelling.{line}
use Rattle.hart_turns.specs.declared.machine.TurnEnd.{TurnEnd}
use Rattle.hart_turns.specs.declared.machine.TurnEnd.TheVariants.{Goes, Ended, BadHost}
use Rattle.hart_turns.specs.Machine.{MachineState}
use Rattle.hart_turns.specs.Turn.{Turned, turned}
use Rattle.outside_acts.specs.Acts.{Act, ReadTo, Send, Append}
use Rattle.job_words.specs.Job.{Logs}

-- ---- one turn

-- the turn of a machine on an input
abbrev pub turn_on : List ℕ → MachineState → Turned
turn_on input m = turned m (slice_get input m.taken)

-- the lines of events, each with its newline
unfoldable pub trace_lines : List Event → List ℕ
trace_lines [] = []
trace_lines (e ∷ es) = line e ++ (10 ∷ trace_lines es)

-- console bytes are sent, where there are any
abbrev pub send_acts : List ℕ → List Act
send_acts [] = []
send_acts (byte ∷ bytes) = Send (byte ∷ bytes) ∷ []

-- the file of this name grows by lines, where there is one
abbrev pub append_acts : Option (List ℕ) → List ℕ → List Act
append_acts None lines = []
append_acts (Some name) lines = Append name lines ∷ []

-- events are logged
abbrev pub log_acts : Logs → List Event → List Act
log_acts logs events = append_acts logs.trace (trace_lines events)

-- the input is read up to the byte that a turn is offered, its console bytes are sent, and its events are logged
abbrev pub turn_acts : Logs → MachineState → Turned → List Act
turn_acts logs m t = ReadTo (m.taken + 1) ∷ (send_acts t.console ++ log_acts logs t.events)

-- nothing is logged
abbrev pub no_logs : Logs
no_logs = record { trace = None }

-- ---- a run

-- a machine that has run: what the run did to the outside, the turns made, and how the last of them ended
pub record Ran : Type 0 where
  pub machine : MachineState
  pub acts : List Act
  pub made : ℕ
  pub last : TurnEnd

abbrev pub at_start : MachineState → Ran
at_start m = record { machine = m; acts = []; made = 0; last = Goes }

abbrev pub after_turn : Logs → Ran → Turned → Ran
after_turn logs ran t = record {
  machine = t.machine;
  acts = ran.acts ++ turn_acts logs ran.machine t;
  made = ran.made + 1;
  last = t.end;
}

-- a machine whose last turn ended stays
abbrev pub goes_on : Logs → List ℕ → Ran → TurnEnd → Ran
goes_on logs input ran Goes = after_turn logs ran (turn_on input ran.machine)
goes_on logs input ran (Ended code) = ran
goes_on logs input ran (BadHost word) = ran

-- the run of n turns on an input, or to the first turn that ends. It may begin at any machine: the input is the whole
-- input, of which this machine has taken some
unfoldable pub run : Logs → List ℕ → MachineState → ℕ → Ran
run logs input m zero = at_start m
run logs input m (suc n) = goes_on logs input (run logs input m n) (run logs input m n).last
