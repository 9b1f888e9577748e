use Rattle.std.proofs.Common.{◌<◌, ◌%◌, refl, arith, bit_and}
use Rattle.std.proofs.lemmas.Grind.{common_steps}
use Rattle.std.proofs.lemmas.List.Elements.{All-set}
use Rattle.std.proofs.Math.Seq.{take-set-lt}
use Rattle.plic.specs.State.{IsWithinSources}
use Rattle.plic.proofs.Within.{within_and}
use Rattle.plic.proofs.controller.Plic.write.Goals as goal

pub invariant_of-self-in-Enable : goal.invariant_of-self-in-Enable
invariant_of-self-in-Enable c = record {
  some = c.self-in-Enable.invariant.some;
  most = c.self-in-Enable.invariant.most;
  priorities = c.self-in-Enable.invariant.priorities;
  enables = All-set IsWithinSources c.self-in-Enable.inside.enable c.in-Enable.c (bit_and c.args.v 6) (within_and c.args.v 6 refl) c.self-in-Enable.invariant.enables;
  thresholds = c.self-in-Enable.invariant.thresholds;
  marks = c.self-in-Enable.invariant.marks;
}

pub returns-in-Enable-clause-value : goal.returns-in-Enable-clause-value
returns-in-Enable-clause-value c =
    let inside : c.in-Enable.c < c.self-in-Enable.inside.contexts = grind (arith, common_steps) in
    rw (← c.self-in-Enable.view_is, c.in-Enable.is, take-set-lt c.self-in-Enable.inside.contexts c.self-in-Enable.inside.enable c.in-Enable.c (bit_and c.args.v 6) inside)

pub returns-in-Threshold-clause-value : goal.returns-in-Threshold-clause-value
returns-in-Threshold-clause-value c =
    let inside : c.in-Threshold.c < c.self-in-Threshold.inside.contexts = grind (arith, common_steps) in
    rw (← c.self-in-Threshold.view_is, c.in-Threshold.is, take-set-lt c.self-in-Threshold.inside.contexts c.self-in-Threshold.inside.threshold c.in-Threshold.c (c.args.v % 8) inside)
