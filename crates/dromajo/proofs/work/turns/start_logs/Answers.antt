-- Without a trace nothing is started.
use Rattle.outside_acts.proofs.Algebra.{does_none}
use Rattle.dromajo.proofs.Works.{started_logs}
use Rattle.dromajo.proofs.work.turns.start_logs.Goals as goal

pub returns-in-None-clause-done : goal.returns-in-None-clause-done
returns-in-None-clause-done g c = started_logs c.args.logs.now _ (g.W.Outside.world c.args.outside.now) (g.W.Outside.world c.args.outside.now) c.in-None.ensures (does_none (g.W.Outside.world c.args.outside.now))
