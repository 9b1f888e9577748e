use Rattle.hart_turns.proofs.LowestOnly.{boots_are_lowest_lem}
use Rattle.hart_turns.proofs.laws.boots_are_lowest.Goals as goal

pub returns : goal.returns
returns c = boots_are_lowest_lem
