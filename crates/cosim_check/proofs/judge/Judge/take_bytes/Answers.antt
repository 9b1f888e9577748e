use Rattle.std.proofs.Common.{◌∙◌}
use Rattle.cosim_check.specs.Places.{place_of, places}
use Rattle.cosim_check.proofs.Bytes.{all_placed, step_place}
use Rattle.cosim_check.proofs.judge.Judge.take_bytes.Goals as goal

pub loop-b-preserved : goal.loop-b-preserved
loop-b-preserved c = record {
  place = step_place c.args.self.now.tohost c.loop-b.self.tohost (place_of c.loop-b.self) (place_of c.take_byte.new.self) c.args.piece.now c.loop-b.b-index _ c.loop-b.invariant.tohost c.loop-b-test.true c.take_byte.ensures.place ∙ c.loop-b.invariant.place;
  tohost = c.take_byte.ensures.tohost ∙ c.loop-b.invariant.tohost;
  most = c.take_byte.ensures.most ∙ c.loop-b.invariant.most;
  finished = c.take_byte.ensures.finished ∙ c.loop-b.invariant.finished;
}

pub returns-clause-place : goal.returns-clause-place
returns-clause-place c = all_placed c.args.self.now.tohost (place_of c.loop-b.self) (places c.args.self.now.tohost (place_of c.args.self.now) c.args.piece.now) c.args.piece.now c.loop-b.b-index c.loop-b-test.false c.loop-b.invariant.place
