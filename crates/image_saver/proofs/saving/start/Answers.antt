-- The file was started, or a part of that was done.
use Rattle.std.proofs.lemmas.Result.{err_from_is_err_and}
use Rattle.image_saver.proofs.Saves.{start_cut, starts}
use Rattle.image_saver.proofs.saving.start.Goals as goal

pub returns-in_err-start-clause-writes : goal.returns-in_err-start-clause-writes
returns-in_err-start-clause-writes g c =
    let p = err_from_is_err_and c.from_residual.result c.from_residual.ensures.1 in
    let said = c.in_err-start.ensures in
    rw (p.1, p.2) (start_cut c.in_err-start.field-0.0 c.args.file.now said.after_error said.others said.cause said.other_count)

pub returns-clause-writes : goal.returns-clause-writes
returns-clause-writes g c =
    let said = c.in_ok-start.ensures in
    starts c.in_ok-start.field-0 c.args.file.now said.named said.others said.cause said.other_count
