-- The program is loaded into zeros, and its window is found.
use Rattle.std.proofs.Common.{Ok, refl, ap, ◌∙◌}
use Rattle.std.proofs.lemmas.Result.{err_from_is_err_and}
use Rattle.machine_start.proofs.Starts.{program_fits, program_loaded, program_refused, program_started}
use Rattle.machine_start.proofs.program.program_start.Goals as goal

pub returns-in_err-entry-clause-refused : goal.returns-in_err-entry-clause-refused
returns-in_err-entry-clause-refused c =
    let p = err_from_is_err_and c.from_residual-in_err-entry.result c.from_residual-in_err-entry.ensures.1 in
    rw (p.1, p.2) (λ count. (program_refused _ c.args.file.now c.in_ok-ram.ram _ c.in_ok-ram.ensures c.in_err-entry.ensures.refused, refl))

pub returns-in_err-tohost-clause-refused : goal.returns-in_err-tohost-clause-refused
returns-in_err-tohost-clause-refused c =
    let p = err_from_is_err_and c.from_residual-in_err-tohost.result c.from_residual-in_err-tohost.ensures.1 in
    rw (p.1, p.2)
    (λ count. (program_loaded _ c.args.file.now c.in_ok-ram.ram c.load.new.ram _ c.in_ok-ram.ensures c.in_ok-entry.ensures.refused c.in_ok-entry.ensures.memory c.in_err-tohost.ensures, refl))

pub returns-clause-start : goal.returns-clause-start
returns-clause-start c =
    program_loaded c.args.config.now c.args.file.now c.in_ok-ram.ram c.load.new.ram _ c.in_ok-ram.ensures c.in_ok-entry.ensures.refused c.in_ok-entry.ensures.memory c.in_ok-tohost.ensures
    ∙ ap Ok (program_started c.args.config.now c.args.file.now c.in_ok-ram.ram c.load.new.ram c.in_ok-entry.entry c.in_ok-tohost.tohost c.in_ok-ram.ensures c.in_ok-entry.ensures.memory c.in_ok-entry.ensures.entry)

pub returns-clause-fit : goal.returns-clause-fit
returns-clause-fit c =
    program_fits _ c.args.file.now c.in_ok-ram.ram c.load.new.ram c.in_ok-entry.entry c.in_ok-tohost.tohost c.requires c.in_ok-ram.ensures c.in_ok-entry.ensures.memory c.in_ok-tohost.ensures c.in_ok-entry.ensures.entry c.in_ok-entry.ensures.header
