use Rattle.trace_law.proofs.ShownRuns.{events_spelled_lem}
use Rattle.trace_law.proofs.events_are_spelled.Goals as goal

pub returns : goal.returns
returns c = events_spelled_lem
