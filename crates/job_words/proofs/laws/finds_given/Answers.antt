use Rattle.job_words.proofs.Found.{finds_given, finds_none}
use Rattle.job_words.proofs.laws.finds_given.Goals as goal

pub returns-clause-given : goal.returns-clause-given
returns-clause-given c = finds_given

pub returns-clause-none : goal.returns-clause-none
returns-clause-none c = finds_none
