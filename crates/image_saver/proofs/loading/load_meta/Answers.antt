-- The text is too long.
use Rattle.std.proofs.Common.{◌≡◌, ◌≢◌, ◌∙◌}
use Rattle.sim_config.specs.declared.fault.ConfigFault.TheVariants as config_fault
use Rattle.image_saver.specs.Checkpoint.{meta_file}
use Rattle.machine_start.proofs.Telling.{told_map}
use Rattle.image_saver.proofs.Checkpoints.{meta_too_long}
use Rattle.image_saver.proofs.loading.load_meta.Goals as goal

pub returns-clause-refused : goal.returns-clause-refused
returns-clause-refused g c =
    let name : c.as_str.result.now ≡ meta_file c.args.name.now = c.as_str.ensures.value ∙ c.in_ok-file.ensures in
    let read = rw name at c.in_ok-text.ensures.contents in
    let told = rw c.in-TooLong.is at read in
    let other : config_fault.TooLong c.in-TooLong.len ≢ config_fault.NoMemory = λ e. cc in
    (other, told_map _ _ (g.F.Files.held c.args.files.now) (λ held is. meta_too_long held c.args.name.now c.in-TooLong.len is.0 is.1) told, c.in_ok-text.ensures.cause.kept)
