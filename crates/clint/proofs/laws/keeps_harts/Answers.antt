use Rattle.clint.proofs.Harts.{stored_harts}
use Rattle.clint.proofs.laws.keeps_harts.Goals as goal

pub returns : goal.returns
returns c = stored_harts
