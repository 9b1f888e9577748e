-- The file is started, and grows.
use Rattle.std.proofs.Common.{[], ◌∷◌}
use Rattle.std.proofs.lemmas.Result.{err_from_is_err_and}
use Rattle.outside_acts.specs.Acts.{Append}
use Rattle.outside_acts.proofs.OneAct.{on_start}
use Rattle.image_saver.proofs.Saves.{writes_both, writes_sooner}
use Rattle.image_saver.proofs.saving.write_file.Goals as goal

pub returns-in_err-start-clause-writes : goal.returns-in_err-start-clause-writes
returns-in_err-start-clause-writes g c =
    let p = err_from_is_err_and c.from_residual.result c.from_residual.ensures.1 in
    rw (p.1, p.2) (writes_sooner (Append c.args.name.now c.args.bytes.now ∷ []) c.in_err-start.ensures.writes)

pub returns-clause-writes : goal.returns-clause-writes
returns-clause-writes g c = writes_both (on_start c.args.name.now) c.in_ok-start.ensures.writes c.append.ensures.writes
