-- Where memory lacks before the first act, nothing was done.
use Rattle.std.proofs.Common.{ap, ◌∙◌}
use Rattle.std.proofs.lemmas.Result.{err_from_is_err_and}
use Rattle.image_saver.proofs.Saves.{none_saved, saves}
use Rattle.image_saver.proofs.saving.save.Goals as goal

pub returns-in_err-text-clause-writes : goal.returns-in_err-text-clause-writes
returns-in_err-text-clause-writes g c =
    let p = err_from_is_err_and c.from_residual.result c.from_residual.ensures.1 in
    rw (p.1, p.2) (none_saved c.args.name.now c.args.machine.now.machine c.args.rom.now)

pub returns-in_err-meta_name-clause-writes : goal.returns-in_err-meta_name-clause-writes
returns-in_err-meta_name-clause-writes g c =
    let p = err_from_is_err_and c.from_residual-in_err-meta_name.result c.from_residual-in_err-meta_name.ensures.1 in
    rw (p.1, p.2) (none_saved c.args.name.now c.args.machine.now.machine c.args.rom.now)

pub returns-in_err-mainram-clause-writes : goal.returns-in_err-mainram-clause-writes
returns-in_err-mainram-clause-writes g c =
    let p = err_from_is_err_and c.from_residual-in_err-mainram.result c.from_residual-in_err-mainram.ensures.1 in
    rw (p.1, p.2) (none_saved c.args.name.now c.args.machine.now.machine c.args.rom.now)

pub returns-in_err-bootram-clause-writes : goal.returns-in_err-bootram-clause-writes
returns-in_err-bootram-clause-writes g c =
    let p = err_from_is_err_and c.from_residual-in_err-bootram.result c.from_residual-in_err-bootram.ensures.1 in
    rw (p.1, p.2) (none_saved c.args.name.now c.args.machine.now.machine c.args.rom.now)

pub returns-clause-writes : goal.returns-clause-writes
returns-clause-writes g c =
    let text = rw (c.shape.ensures.value, c.taken.ensures) at (c.deref.ensures.value ∙ c.in_ok-text.ensures.bytes) in
    saves c.args.name.now c.args.machine.now.machine c.args.rom.now
    (c.as_str.ensures.value ∙ c.in_ok-meta_name.ensures)
    (c.as_str-2.ensures.value ∙ c.in_ok-mainram.ensures)
    (c.as_str-3.ensures.value ∙ c.in_ok-bootram.ensures)
    (c.ram.ensures ∙ ap (λ core. core.ram) c.core.ensures) text c.write_files.ensures.writes
