use Rattle.std.proofs.Common.{arith}
use Rattle.std.proofs.lemmas.Grind.{common_steps}
use Rattle.outside_io.proofs.StreamLemmas.{more_written}
use Rattle.outside_io.proofs.streams.write_whole.Goals as goal

pub loop-preserved : goal.loop-preserved
loop-preserved g c = record {
  within = grind (arith, common_steps, c.in_ok-count.ensures.bound);
  written = more_written _ _ _ c.args.piece.now c.loop.done c.in_ok-count.count c.loop.invariant.written c.in_ok-count.ensures.bytes;
}
