use Rattle.checkpoint_run.proofs.Keeps.{early_cuts_are_cuts}
use Rattle.checkpoint_run.proofs.laws.early_cuts_are_cuts.Goals as goal

pub returns : goal.returns
returns c = early_cuts_are_cuts
