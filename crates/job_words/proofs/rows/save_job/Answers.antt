-- The job of the values that the walk gives.
use Rattle.job_words.specs.CommandLine.{save_row, texts}
use Rattle.job_words.proofs.Commands.{row_found}
use Rattle.job_words.proofs.rows.save_job.Goals as goal

pub returns-clause-job : goal.returns-clause-job
returns-clause-job c =
    let found = row_found save_row c.walk.new.values (texts c.args.words.now) c.walk.auto.values (c.walk.ensures.all c.if-not-walk.false) in
    cc (found, c.job_with.ensures.job, c.reset_begin.ensures.begin, c.save_work.ensures.work)
