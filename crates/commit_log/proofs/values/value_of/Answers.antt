use Rattle.commit_log.proofs.ReadDigits.{value_of}
use Rattle.commit_log.proofs.values.value_of.Goals as goal

pub returns-clause-value : goal.returns-clause-value
returns-clause-value c = rw c.from.ensures ((value_of c.args.c c.ranges.c.fits).0)

pub returns-clause-most : goal.returns-clause-most
returns-clause-most c = rw c.from.ensures ((value_of c.args.c c.ranges.c.fits).1)
