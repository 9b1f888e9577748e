-- A machine at reset runs.
use Rattle.dromajo.proofs.Begins.{started_runs}
use Rattle.dromajo.proofs.begin.at_reset.Goals as goal

pub returns-clause-running : goal.returns-clause-running
returns-clause-running c = started_runs c.reset.result c.args.start.shape c.args.start.ram c.args.start.entry c.reset.ensures.machine
