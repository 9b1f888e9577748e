use Rattle.std.proofs.Common.{◌∙◌, ℕ, List, ap, arith, length, take}
use Rattle.std.proofs.lemmas.List.{length-drop}
use Rattle.cosim_check.specs.Places.{place_of, places}
use Rattle.cosim_check.proofs.Bytes.{all_placed}
use Rattle.cosim_check.proofs.WholeLines.{from_on, lines_on}
use Rattle.cosim_check.proofs.judge.Judge.take_lines.Goals as goal

pub lines-preserved : goal.lines-preserved
lines-preserved c = record {
  within = let few = c.take_line-done.ensures.within in let whole = ap (λ (ys : List ℕ). length ys) (from_on c.args.piece.now c.lines.done) in let room = c.lines-test.true in omega (arith, length-drop c.lines.done c.args.piece.now);
  place = lines_on c.args.self.now.tohost c.lines.self.tohost (place_of c.lines.self) (place_of c.take_line-done.new.self) c.args.piece.now c.lines.done c.take_line-done.result c.lines.invariant.tohost (c.take_line-done.ensures.place ∙ ap (λ (ys : List ℕ). places c.lines.self.tohost (place_of c.lines.self) (take c.take_line-done.result ys)) (from_on c.args.piece.now c.lines.done)) ∙ c.lines.invariant.place;
  tohost = c.take_line-done.ensures.tohost ∙ c.lines.invariant.tohost;
  most = c.take_line-done.ensures.most ∙ c.lines.invariant.most;
  finished = c.take_line-done.ensures.finished ∙ c.lines.invariant.finished;
}

pub returns-clause-place : goal.returns-clause-place
returns-clause-place c = all_placed c.args.self.now.tohost (place_of c.lines.self) (places c.args.self.now.tohost (place_of c.args.self.now) c.args.piece.now) c.args.piece.now c.lines.done (let past = c.lines-test.false in omega arith) c.lines.invariant.place
