-- A cut of a run lies in one of its turns.
use Rattle.turn_runs.proofs.Leaving.{cut_in_turn}
use Rattle.turn_runs.proofs.laws.cut_in_turn.Goals as goal

pub returns : goal.returns
returns c = λ stop logs bytes from m turns front cut. cut_in_turn stop logs bytes from m turns front cut
