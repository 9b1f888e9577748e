-- The file grew, or a part of that was done.
use Rattle.std.proofs.lemmas.Result.{err_from_is_err_and}
use Rattle.image_saver.proofs.Saves.{append_cut, appends}
use Rattle.image_saver.proofs.saving.append.Goals as goal

pub returns-in_err-append-clause-writes : goal.returns-in_err-append-clause-writes
returns-in_err-append-clause-writes g c =
    let p = err_from_is_err_and c.from_residual.result c.from_residual.ensures.1 in
    let said = c.in_err-append.ensures in
    rw (p.1, p.2) (append_cut c.in_err-append.field-0.0 c.args.file.now c.args.piece.now said.after_error said.others said.cause said.other_count)

pub returns-clause-writes : goal.returns-clause-writes
returns-clause-writes g c =
    let said = c.in_ok-append.ensures in
    appends c.in_ok-append.field-0 c.args.file.now c.args.piece.now said.named said.others said.cause said.other_count
