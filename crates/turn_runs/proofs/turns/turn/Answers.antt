-- A turn whose events are kept, or one that is not logged.
use Rattle.std.proofs.Common.{sym}
use Rattle.turn_runs.proofs.OneTurn.{logs_same}
use Rattle.turn_runs.proofs.turns.turn.Goals as goal

pub returns-in-None-clause-logged : goal.returns-in-None-clause-logged
returns-in-None-clause-logged c = logs_same _ _ _ (sym c.in-None.ensures)
