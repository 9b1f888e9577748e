-- The turn was made and shown, or it was cut at its byte, at its console bytes or at its lines.
use Rattle.std.proofs.Common.{inl, inr}
use Rattle.turn_runs.proofs.OneTurn.{turn_shown, turn_unlogged, turn_unmade, turn_unsent}
use Rattle.turn_runs.proofs.turns.run_turn.Goals as goal

pub returns-in-Err-clause-cut : goal.returns-in-Err-clause-cut
returns-in-Err-clause-cut g c = λ bytes from fed. turn_unmade _ _ (c.in-Err.ensures.cut bytes from fed)

pub returns-in-Err-clause-whole : goal.returns-in-Err-clause-whole
returns-in-Err-clause-whole g c = λ bytes from fed. inl c.in-Err.ensures.unmoved

pub returns-in-Err-show-clause-cut : goal.returns-in-Err-show-clause-cut
returns-in-Err-show-clause-cut g c = λ bytes from fed.
    turn_unsent _ (c.in-Ok.ensures.turned bytes from fed) c.in-Err-show.ensures.cut

pub returns-in-Err-show-clause-whole : goal.returns-in-Err-show-clause-whole
returns-in-Err-show-clause-whole g c = λ bytes from fed. inr (c.in-Ok.ensures.turned bytes from fed).reached.machine

pub returns-in-Ok-log-clause-shown : goal.returns-in-Ok-log-clause-shown
returns-in-Ok-log-clause-shown g c = λ bytes from fed.
    turn_shown _ (c.in-Ok.ensures.turned bytes from fed) c.in-Ok-show.ensures.whole c.in-Ok-log.ensures.whole

pub returns-in-Err-log-clause-cut : goal.returns-in-Err-log-clause-cut
returns-in-Err-log-clause-cut g c = λ bytes from fed.
    turn_unlogged _ (c.in-Ok.ensures.turned bytes from fed) c.in-Ok-show.ensures.whole c.in-Err-log.ensures.cut

pub returns-in-Err-log-clause-whole : goal.returns-in-Err-log-clause-whole
returns-in-Err-log-clause-whole g c = λ bytes from fed. inr (c.in-Ok.ensures.turned bytes from fed).reached.machine
