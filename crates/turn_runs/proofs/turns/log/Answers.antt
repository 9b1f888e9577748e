-- There is no log, or memory lacks for its lines.
use Rattle.std.proofs.Common.{sym}
use Rattle.turn_runs.proofs.OneTurn.{lines_lack, logs_none}
use Rattle.turn_runs.proofs.turns.log.Goals as goal

pub returns-in_default-clause-whole : goal.returns-in_default-clause-whole
returns-in_default-clause-whole g c = logs_none _ _ _ (sym c.in_default.ensures)

pub returns-in-Err-clause-cut : goal.returns-in-Err-clause-cut
returns-in-Err-clause-cut g c = lines_lack _ _ c.in-Some.name.now _ (sym c.in-Some.ensures)
