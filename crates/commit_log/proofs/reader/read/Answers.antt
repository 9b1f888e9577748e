use Rattle.std.proofs.Common.{◌∙◌, sym}
use Rattle.commit_log.proofs.Columns.{column_lem, found_lem, only_lem}
use Rattle.commit_log.proofs.reader.read.Goals as goal

pub overflow_sub-result : goal.overflow_sub-result
overflow_sub-result c = (column_lem _ _ (sym c.read_event.ensures ∙ c.in-Err.is)).within

pub returns-in-Ok-clause-found : goal.returns-in-Ok-clause-found
returns-in-Ok-clause-found c = found_lem _ _ (sym c.read_event.ensures ∙ c.in-Ok.is)

pub returns-in-Ok-clause-only : goal.returns-in-Ok-clause-only
returns-in-Ok-clause-only c = λ e good is. let same = only_lem _ e good is in let read = c.read_event.ensures in let was = c.in-Ok.is in cc

pub returns-in-Err-clause-only : goal.returns-in-Err-clause-only
returns-in-Err-clause-only c = λ e good is. let same = only_lem _ e good is in let read = c.read_event.ensures in let was = c.in-Err.is in cc

pub returns-in-Err-clause-column : goal.returns-in-Err-clause-column
returns-in-Err-clause-column c = (column_lem _ _ (sym c.read_event.ensures ∙ c.in-Err.is)).column
