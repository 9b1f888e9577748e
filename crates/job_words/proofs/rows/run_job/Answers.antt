-- The job of the values that the walk gives, and none where it gives none.
use Rattle.std.proofs.Common.{sym}
use Rattle.job_words.specs.CommandLine.{run_row, texts}
use Rattle.job_words.proofs.Commands.{row_found, row_refused}
use Rattle.job_words.proofs.rows.run_job.Goals as goal

pub returns-then-not-walk-clause-job : goal.returns-then-not-walk-clause-job
returns-then-not-walk-clause-job c = sym (row_refused run_row (texts c.args.words.now) (c.walk.ensures.none c.if-not-walk.true))

pub returns-clause-job : goal.returns-clause-job
returns-clause-job c =
    let found = row_found run_row c.walk.new.values (texts c.args.words.now) c.walk.auto.values (c.walk.ensures.all c.if-not-walk.false) in
    cc (found, c.job_with.ensures.job, c.run_begin.ensures, c.turns_work.ensures.work)
