use Rattle.hart_turns.proofs.BootEnds.{boots_end_lem}
use Rattle.hart_turns.proofs.laws.boots_end_debug.Goals as goal

pub returns : goal.returns
returns c = boots_end_lem
