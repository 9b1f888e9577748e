use Rattle.std.proofs.Common.{arith}
use Rattle.sv39_walk.proofs.Marks.{agreement_whole, nothing_touched}
use Rattle.sv39_walk.proofs.walker.Walker.noted.Goals as goal

pub returns-else-has_read-clause-agrees : goal.returns-else-has_read-clause-agrees
returns-else-has_read-clause-agrees c = λ before after agrees differs.
    agreement_whole c.args.self.now c.args.at c.args.n before after
    (nothing_touched c.args.self.now c.args.at c.args.n (omega arith) (omega arith) (c.has_read.ensures c.if-has_read.false)) agrees differs
