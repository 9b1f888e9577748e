-- A run that its input cut has made the least number of turns that took so many bytes.
use Rattle.turn_runs.proofs.InputCuts.{input_cuts_are_least}
use Rattle.turn_runs.proofs.laws.input_cuts_are_least.Goals as goal

pub returns : goal.returns
returns c = input_cuts_are_least
