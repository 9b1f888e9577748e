use Rattle.trace_law.proofs.Turns.{turns_pass_lem}
use Rattle.trace_law.proofs.turns_pass.Goals as goal

pub returns : goal.returns
returns c = turns_pass_lem
