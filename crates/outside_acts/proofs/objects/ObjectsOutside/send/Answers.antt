-- What the console got is the act.
use Rattle.std.proofs.Common.{refl}
use Rattle.outside_acts.proofs.OneAct.{sends}
use Rattle.outside_acts.proofs.objects.ObjectsOutside.send.Goals as goal

pub returns-in-Ok-clause-whole : goal.returns-in-Ok-clause-whole
returns-in-Ok-clause-whole g c = sends refl refl c.in-Ok.ensures.whole
