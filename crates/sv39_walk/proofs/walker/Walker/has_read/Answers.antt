use Rattle.std.proofs.Common.{List, subst}
use Rattle.sv39_walk.specs.Remembered.{Remembered}
use Rattle.sv39_walk.specs.Slots.{HasNoneNear}
use Rattle.sv39_walk.proofs.Marks.{none_near}
use Rattle.sv39_walk.proofs.walker.Walker.has_read.Goals as goal

pub returns : goal.returns
returns c = λ clear.
    subst (λ (walker : List Remembered). HasNoneNear c.args.at walker) c.self.view_is
    (none_near c.self.inside.tables c.self.inside.slots c.args.at c.self.invariant.2 clear)
