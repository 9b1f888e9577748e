use Rattle.trace_law.proofs.Runs.{trace_is_events_lem}
use Rattle.trace_law.proofs.trace_is_events.Goals as goal

pub returns : goal.returns
returns c = trace_is_events_lem
