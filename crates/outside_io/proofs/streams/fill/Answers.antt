use Rattle.std.proofs.Common.{arith}
use Rattle.std.proofs.lemmas.Grind.{common_steps}
use Rattle.outside_io.proofs.StreamLemmas.{more_read}
use Rattle.outside_io.proofs.streams.fill.Goals as goal

pub loop-preserved : goal.loop-preserved
loop-preserved g c = record {
  within = grind (arith, common_steps, c.in_ok-count.ensures.bound);
  taken = more_read _ _ _ c.loop.buf c.read_once.new.buf c.loop.filled c.in_ok-count.count c.loop.invariant.within (grind (arith, common_steps)) c.in_ok-count.ensures.bound.0 c.loop.invariant.taken c.in_ok-count.ensures.bytes.0;
}
