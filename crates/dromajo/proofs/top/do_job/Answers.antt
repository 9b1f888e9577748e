-- What a job leaves: its machine was not begun, or its work ended, or was cut.
use Rattle.std.proofs.Common.{refl, rules}
use Rattle.job_words.specs.Seen.{job_seen}
use Rattle.dromajo.proofs.Begins.{begins_well}
use Rattle.dromajo.proofs.Jobs.{ended_job, stopped_job, unbegun_job}
use Rattle.dromajo.proofs.top.do_job.Goals as goal

pub returns-in-Err-clause-leaves : goal.returns-in-Err-clause-leaves
returns-in-Err-clause-leaves g c = unbegun_job (job_seen c.args.job.now) c.in-Err.status _ _ _ _ _ _ c.ended_early.ensures.status c.ended_early.ensures.tally c.in-Err.ensures.leaves.content refl refl c.in-Err.ensures.refused

pub do_work-requires-clause-well : goal.do_work-requires-clause-well
do_work-requires-clause-well g c = begins_well c.args.job.now.begin c.args.job.now.work c.in-Ok.machine c.requires.reset c.in-Ok.ensures.reset

pub returns-in-Ok-do_work-clause-leaves : goal.returns-in-Ok-do_work-clause-leaves
returns-in-Ok-do_work-clause-leaves g c = ended_job (job_seen c.args.job.now) c.in-Ok.machine _ _ _ _ _ c.in-Ok.ensures.machine c.in-Ok.ensures.leaves.content refl refl (search rules) (search rules) (search rules) c.in-Ok-do_work.ensures.ended c.in-Ok-do_work.ensures.done

pub returns-in-Err-do_work-clause-leaves : goal.returns-in-Err-do_work-clause-leaves
returns-in-Err-do_work-clause-leaves g c = stopped_job c.in-Err-do_work.stop (job_seen c.args.job.now) c.in-Ok.machine _ _ _ _ _ _ c.in-Ok.ensures.machine c.in-Ok.ensures.leaves.content refl refl (search rules) (search rules) (search rules) (search rules) c.in-Err-do_work.ensures.cut
