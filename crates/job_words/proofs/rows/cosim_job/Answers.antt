-- The job of the values that the walk gives, and none where it gives none.
use Rattle.std.proofs.Common.{sym}
use Rattle.job_words.specs.CommandLine.{cosim_row, texts}
use Rattle.job_words.proofs.Commands.{row_found, row_refused}
use Rattle.job_words.proofs.rows.cosim_job.Goals as goal

pub returns-then-not-walk-clause-job : goal.returns-then-not-walk-clause-job
returns-then-not-walk-clause-job c = sym (row_refused cosim_row (texts c.args.words.now) (c.walk.ensures.none c.if-not-walk.true))

pub returns-clause-job : goal.returns-clause-job
returns-clause-job c =
    let found = row_found cosim_row c.walk.new.values (texts c.args.words.now) c.walk.auto.values (c.walk.ensures.all c.if-not-walk.false) in
    cc (found, c.job_with.ensures.job, c.reset_begin.ensures.begin)
