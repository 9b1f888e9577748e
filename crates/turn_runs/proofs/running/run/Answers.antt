-- The run goes on by one turn, ends in it, is cut in it, or has made all its turns.
use Rattle.std.proofs.Common.{◌+◌, refl, ◌∙◌, arith}
use Rattle.outside_acts.proofs.Causes.{none_passed, none_passed_both}
use Rattle.turn_runs.proofs.Runs.{goes_at, held_logs, run_all, run_cut, run_ends, run_first, run_step, run_stops}
use Rattle.turn_runs.proofs.running.run.Goals as goal

pub loop-made-init : goal.loop-made-init
loop-made-init g c = record {
  stands = λ bytes from fed. run_first _ fed;
  taken = omega arith;
  running = λ runs. runs;
  count = none_passed _;
  same = refl;
  told = λ some. some;
  holds = λ name held. held;
  calm = λ quiet held. (quiet, held);
}

pub returns-in-Err-clause-cut : goal.returns-in-Err-clause-cut
returns-in-Err-clause-cut g c = λ bytes from fed.
    let stands = c.loop-made.invariant.stands bytes from fed in
    let cut = c.in-Err.ensures.cut bytes _ stands.reached.fed in
    run_cut _ bytes from _ c.loop-made.made c.args.turns (omega arith) stands cut

pub returns-in-Err-clause-turned : goal.returns-in-Err-clause-turned
returns-in-Err-clause-turned g c = λ bytes from fed.
    let stands = c.loop-made.invariant.stands bytes from fed in
    run_stops _ bytes from _ c.loop-made.made c.args.turns (omega arith) stands (c.in-Err.ensures.whole bytes _ stands.reached.fed)

pub returns-then-has_ended-clause-ran : goal.returns-then-has_ended-clause-ran
returns-then-has_ended-clause-ran g c = λ bytes from fed.
    let stands = c.loop-made.invariant.stands bytes from fed in
    let shown = c.in-Ok.ensures.shown bytes _ stands.reached.fed in
    let ended = c.has_ended.ensures.ended c.if-has_ended.true in
    run_ends _ bytes from _ (c.loop-made.made + 1) c.args.turns (omega arith) ended
    (run_step _ bytes from _ c.loop-made.made stands shown)

pub loop-made-preserved : goal.loop-made-preserved
loop-made-preserved g c =
    let before = c.loop-made.invariant in
    let cause = c.in-Ok.ensures.cause in
    let taken = before.taken in
    let takes_one = c.run_turn.ensures.takes_one in
    let running = c.run_turn.ensures.running in
    let goes = c.has_ended.ensures.goes c.if-has_ended.false in
    record {
      stands = λ bytes from fed.
          let stands = before.stands bytes from fed in
          let shown = c.in-Ok.ensures.shown bytes _ stands.reached.fed in
          goes_at goes (run_step _ bytes from _ c.loop-made.made stands shown);
      taken = omega (arith, taken, takes_one);
      running = λ runs. running (before.running runs);
      count = none_passed_both before.count cause.count;
      same = cause.same ∙ before.same;
      told = λ some. cause.told (before.told some);
      holds = λ name held. cause.holds name (before.holds name held);
      calm = λ quiet held.
          let both = before.calm quiet held in
          ((c.in-Ok.ensures.calm both.0 both.1).still, held_logs _ _ _ cause.holds both.1);
    }

pub returns-clause-ran : goal.returns-clause-ran
returns-clause-ran g c = λ bytes from fed.
    let stands = c.loop-made.invariant.stands bytes from fed in
    run_all _ bytes from _ c.loop-made.made c.args.turns (omega arith) stands
