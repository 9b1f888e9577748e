use Rattle.std.proofs.Common.{◌≡◌, drop}
use Rattle.cosim_check.specs.Places.{place_of, places}
use Rattle.cosim_check.proofs.judge.Judge.take_bytes.Given as goal

-- the bytes still to come lead where all of them lead from the start
abbrev pub invariant-loop-b : goal.invariant-loop-b
invariant-loop-b l = record {
  place : places l.fn.self.tohost (place_of l.self) (drop l.b-index l.piece) ≡ places l.fn.self.tohost (place_of l.fn.self) l.piece;
  tohost : l.self.tohost ≡ l.fn.self.tohost;
  most : l.self.most ≡ l.fn.self.most;
  finished : l.self.finished ≡ l.fn.self.finished;
}
