-- Words that name no job.
use Rattle.dromajo.proofs.Jobs.{no_job}
use Rattle.dromajo.proofs.top.perform.Goals as goal

pub returns-in-None-clause-leaves : goal.returns-in-None-clause-leaves
returns-in-None-clause-leaves g c = no_job _ _ _ _ c.in-None.ensures.job c.ended_early.ensures.status c.ended_early.ensures.tally
