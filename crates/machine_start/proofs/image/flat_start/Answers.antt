-- The image stands at the front of zeros.
use Rattle.machine_start.proofs.Starts.{flat_started}
use Rattle.machine_start.proofs.image.flat_start.Goals as goal

pub returns : goal.returns
returns c = flat_started c.args.image.now c.copy_from_slice.new.self c.in_ok-ram.ram c.in_ok-ram.ensures c.requires c.copy_from_slice.ensures.after
