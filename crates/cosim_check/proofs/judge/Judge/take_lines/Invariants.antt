use Rattle.std.proofs.Common.{◌≡◌, ◌-◌, ◌≤◌, drop, length}
use Rattle.cosim_check.specs.Places.{place_of, places}
use Rattle.cosim_check.proofs.judge.Judge.take_lines.Given as goal

-- the bytes still to come lead where all of them lead from the start
abbrev pub invariant-lines : goal.invariant-lines
invariant-lines l = record {
  within : l.done ≤ length l.piece;
  place : places l.fn.self.tohost (place_of l.self) (drop l.done l.piece) ≡ places l.fn.self.tohost (place_of l.fn.self) l.piece;
  tohost : l.self.tohost ≡ l.fn.self.tohost;
  most : l.self.most ≡ l.fn.self.most;
  finished : l.self.finished ≡ l.fn.self.finished;
}

abbrev pub decreases-lines : goal.decreases-lines
decreases-lines l = length l.piece - l.done
