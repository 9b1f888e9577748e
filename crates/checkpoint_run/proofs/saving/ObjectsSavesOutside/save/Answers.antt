-- A save of the files is one over all that is outside.
use Rattle.std.proofs.Common.{refl}
use Rattle.image_saver.proofs.Jobs.{save_does}
use Rattle.checkpoint_run.proofs.Joins.{save_stops_as}
use Rattle.checkpoint_run.proofs.saving.ObjectsSavesOutside.save.Goals as goal

pub returns-in-Ok-clause-done : goal.returns-in-Ok-clause-done
returns-in-Ok-clause-done g c = λ bytes from is.
    save_does c.args.name.now c.args.machine.now.machine c.args.rom.now refl refl c.in-Ok.ensures.writes.done bytes from is

pub returns-in-Err-clause-cut : goal.returns-in-Err-clause-cut
returns-in-Err-clause-cut g c = λ bytes from is.
    save_stops_as c.in-Err.fault c.args.name.now c.args.machine.now.machine c.args.rom.now c.stop_of.ensures refl refl
    c.in-Err.ensures.writes.cut bytes from is
