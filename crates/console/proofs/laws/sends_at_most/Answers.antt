use Rattle.console.proofs.Sends.{store_short}
use Rattle.console.proofs.laws.sends_at_most.Goals as goal

pub returns : goal.returns
returns c = store_short
