use Rattle.commit_log.proofs.Columns.{one_spelling_lem}
use Rattle.commit_log.proofs.Plain.{clean_lem, short_lem}
use Rattle.commit_log.proofs.one_spelling.Goals as goal

pub returns : goal.returns
returns c = record { one = one_spelling_lem; clean = clean_lem; short = short_lem }
