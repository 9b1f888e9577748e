-- Memory lacked for the boot ROM.
use Rattle.checkpoint_run.proofs.Keeps.{save_starved}
use Rattle.checkpoint_run.proofs.saving.save_machine.Goals as goal

pub returns-in-Err-clause-cut : goal.returns-in-Err-clause-cut
returns-in-Err-clause-cut g c =
    save_starved c.args.name.now _ c.in-Err.ensures.starved (record { fit = c.see_fit.ensures; running = c.requires })
