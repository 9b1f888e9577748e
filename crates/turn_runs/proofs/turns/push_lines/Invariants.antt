use Rattle.std.proofs.Common.{◌≡◌, ◌++◌, take}
use Rattle.turn_runs.specs.Run.{trace_lines}
use Rattle.turn_runs.proofs.turns.push_lines.Given as goal

-- the lines of the events before this one were pushed
abbrev pub invariant-loop-event : goal.invariant-loop-event
invariant-loop-event l = l.text.items ≡ l.fn.text.items ++ trace_lines (take l.event-index l.events)
