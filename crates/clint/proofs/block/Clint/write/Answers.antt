use Rattle.std.proofs.Common.{◌<◌, ◌%◌, arith}
use Rattle.std.proofs.lemmas.Grind.{common_steps}
use Rattle.std.proofs.Math.Seq.{take-set-lt}
use Rattle.clint.proofs.block.Clint.write.Goals as goal

pub returns-in-Msip-clause-value : goal.returns-in-Msip-clause-value
returns-in-Msip-clause-value c =
    let inside : c.in-Msip.h < c.self.inside.harts = grind (arith, common_steps) in
    rw (← c.self.view_is, c.in-Msip.is, take-set-lt c.self.inside.harts c.self.inside.msip c.in-Msip.h (c.args.v % 2) inside)

pub returns-in-Mtimecmp-clause-value : goal.returns-in-Mtimecmp-clause-value
returns-in-Mtimecmp-clause-value c =
    let inside : c.in-Mtimecmp.h < c.self.inside.harts = grind (arith, common_steps) in
    rw (← c.self.view_is, c.in-Mtimecmp.is, take-set-lt c.self.inside.harts c.self.inside.mtimecmp c.in-Mtimecmp.h c.args.v inside)
