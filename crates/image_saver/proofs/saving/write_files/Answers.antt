-- Six acts, one after another.
use Rattle.std.proofs.Common.{[], ◌∷◌, ◌++◌}
use Rattle.std.proofs.lemmas.Result.{err_from_is_err_and}
use Rattle.outside_acts.specs.Acts.{Append}
use Rattle.outside_acts.proofs.OneAct.{on_start}
use Rattle.image_saver.proofs.Pieces.{made, on_made}
use Rattle.image_saver.proofs.Saves.{writes_both, writes_sooner}
use Rattle.image_saver.proofs.saving.write_files.Goals as goal

pub returns-in_err-start-clause-writes : goal.returns-in_err-start-clause-writes
returns-in_err-start-clause-writes g c =
    let p = err_from_is_err_and c.from_residual.result c.from_residual.ensures.1 in
    rw (p.1, p.2) (writes_sooner (made c.args.mainram.now c.args.ram.now ++ (made c.args.bootram.now c.args.rom.now ++ (Append c.args.meta.now c.args.text.now ∷ [])))
    c.in_err-start.ensures.writes)

pub returns-in_err-write_ram-clause-writes : goal.returns-in_err-write_ram-clause-writes
returns-in_err-write_ram-clause-writes g c =
    let p = err_from_is_err_and c.from_residual-in_err-write_ram.result c.from_residual-in_err-write_ram.ensures.1 in
    rw (p.1, p.2) (writes_both (on_start c.args.meta.now) c.in_ok-start.ensures.writes
    (writes_sooner (made c.args.bootram.now c.args.rom.now ++ (Append c.args.meta.now c.args.text.now ∷ [])) c.in_err-write_ram.ensures.writes))

pub returns-in_err-write_file-clause-writes : goal.returns-in_err-write_file-clause-writes
returns-in_err-write_file-clause-writes g c =
    let p = err_from_is_err_and c.from_residual-in_err-write_file.result c.from_residual-in_err-write_file.ensures.1 in
    rw (p.1, p.2) (writes_both (on_start c.args.meta.now) c.in_ok-start.ensures.writes
    (writes_both (on_made c.args.mainram.now c.args.ram.now) c.in_ok-write_ram.ensures.writes
    (writes_sooner (Append c.args.meta.now c.args.text.now ∷ []) c.in_err-write_file.ensures.writes)))

pub returns-clause-writes : goal.returns-clause-writes
returns-clause-writes g c =
    writes_both (on_start c.args.meta.now) c.in_ok-start.ensures.writes
    (writes_both (on_made c.args.mainram.now c.args.ram.now) c.in_ok-write_ram.ensures.writes
    (writes_both (on_made c.args.bootram.now c.args.rom.now) c.in_ok-write_file.ensures.writes c.append.ensures.writes))
