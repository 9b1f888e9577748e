-- The turn was made, or the input failed.
use Rattle.hart_turns.proofs.Fits.{turns_stay_running_lem}
use Rattle.turn_runs.proofs.OneTurn.{runs_still, turn_made, turn_unread}
use Rattle.turn_runs.proofs.turns.make_turn.Goals as goal

pub returns-in-Err-clause-cut : goal.returns-in-Err-clause-cut
returns-in-Err-clause-cut g c = λ bytes from fed. turn_unread c.in-Err.ensures.unread fed

pub returns-clause-turned : goal.returns-clause-turned
returns-clause-turned g c = λ bytes from fed.
    let turn = c.turn-end.ensures in
    turn_made c.in-Ok.ensures.filled fed
    (record {
      end_is = turn.end;
      machine_is = turn.machine;
      console_is = turn.console;
      logged_are = turn.logged;
      least = turn.grows;
      most = turn.at_most_one;
    })
    (cc (c.taken.ensures, c.taken-before.ensures)) c.offered.ensures.byte c.offered.ensures.ended

pub returns-clause-running : goal.returns-clause-running
returns-clause-running g c = λ runs.
    runs_still c.turn-end.ensures.machine (turns_stay_running_lem _ _ c.see_fit.ensures runs)
