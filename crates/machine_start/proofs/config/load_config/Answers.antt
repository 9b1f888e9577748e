-- The configuration is refused.
use Rattle.std.proofs.Common.{◌≡◌, ◌≢◌, Err, IfSome, ap, sym, ◌∙◌}
use Rattle.std.proofs.lemmas.Result.{err_from_is_err_and}
use Rattle.sim_config.specs.Reading.{config_of}
use Rattle.sim_config.specs.declared.fault.ConfigFault.TheVariants as config_fault
use Rattle.machine_start.specs.declared.fault.StartFault.{StartFault}
use Rattle.machine_start.specs.Start.{start_of_config}
use Rattle.machine_start.proofs.Refusals.{config_refused}
use Rattle.machine_start.proofs.Starts.{config_faulty, config_too_long}
use Rattle.machine_start.proofs.Telling.{told_map}
use Rattle.machine_start.proofs.config.load_config.Goals as goal

pub returns-in_err-read_config-in-Bytes-clause-refused : goal.returns-in_err-read_config-in-Bytes-clause-refused
returns-in_err-read_config-in-Bytes-clause-refused g c =
    let told = rw c.in-Bytes.is at c.in_ok-text.ensures.contents in
    let X : StartFault → Type 0 = λ (fault : StartFault). IfSome (g.F.Files.held c.args.files.now) (λ held. start_of_config held c.args.name.now ≡ Err fault) in
    let p = err_from_is_err_and c.from_residual-in_err-read_config-in-Bytes.result c.from_residual-in_err-read_config-in-Bytes.ensures.1 in
    rw (p.1, p.2) (config_refused c.in_err-read_config-in-Bytes.field-0.0 X _ _ c.in_ok-text.ensures.cause.kept
    (λ other. told_map _ _ (g.F.Files.held c.args.files.now) (λ held is. config_faulty held c.args.name.now _ (ap config_of (sym (c.deref.ensures.value ∙ is.0)) ∙ c.in_err-read_config-in-Bytes.ensures.err other)) told))

pub returns-in-TooLong-clause-refused : goal.returns-in-TooLong-clause-refused
returns-in-TooLong-clause-refused g c =
    let told = rw c.in-TooLong.is at c.in_ok-text.ensures.contents in
    let other : config_fault.TooLong c.in-TooLong.len ≢ config_fault.NoMemory = λ e. cc in
    (other, told_map _ _ (g.F.Files.held c.args.files.now) (λ held is. config_too_long held c.args.name.now c.in-TooLong.len is.0 is.1) told, c.in_ok-text.ensures.cause.kept)
