-- Nothing was to be sent.
use Rattle.std.proofs.Common.{◌≡◌, length, arith}
use Rattle.turn_runs.proofs.OneTurn.{sends_none}
use Rattle.turn_runs.proofs.turns.show.Goals as goal

pub returns-then-is_empty-clause-whole : goal.returns-then-is_empty-clause-whole
returns-then-is_empty-clause-whole g c =
    let none : length c.args.machine.now.console ≡ 0 = grind arith in
    sends_none _ _ none
