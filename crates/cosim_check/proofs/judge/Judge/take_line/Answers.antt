use Rattle.cosim_check.proofs.WholeLines.{plain_before}
use Rattle.cosim_check.proofs.judge.Judge.take_line.Goals as goal

pub take_whole-requires : goal.take_whole-requires
take_whole-requires c = record { plain = plain_before c.args.rest.now c.in-Some.i c.in-Some.ensures.0.before }
