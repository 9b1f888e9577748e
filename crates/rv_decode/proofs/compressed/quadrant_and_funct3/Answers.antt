-- The word turned by three places has its quadrant above its funct3.
use Rattle.std.proofs.Common.{arith}
use Rattle.rv_decode.proofs.Masks.{key_mask}
use Rattle.rv_decode.proofs.compressed.quadrant_and_funct3.Goals as goal

pub returns-clause-key : goal.returns-clause-key
returns-clause-key c = omega (arith, key_mask c.args.c)
