-- What the files say of the named one, and of all others, is the act.
use Rattle.std.proofs.Common.{refl}
use Rattle.outside_acts.proofs.OneAct.{adds}
use Rattle.outside_acts.proofs.objects.ObjectsOutside.append.Goals as goal

pub returns-in-Ok-clause-done : goal.returns-in-Ok-clause-done
returns-in-Ok-clause-done g c = adds refl refl c.in-Ok.ensures.named c.in-Ok.ensures.others
