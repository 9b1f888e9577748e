-- A piece was passed over, the input has ended, or all was passed over.
use Rattle.std.proofs.Common.{◌≤◌, length, ◌∙◌, arith, inl, inr, length-take}
use Rattle.outside_acts.proofs.Causes.{none_passed_both}
use Rattle.turn_runs.proofs.Passing.{has_passed, only_read_both, pass_cut, passed_on, passed_within}
use Rattle.turn_runs.proofs.feed.Feed.pass_over.Goals as goal

pub returns-in-Err-clause-cut : goal.returns-in-Err-clause-cut
returns-in-Err-clause-cut g c = λ bytes is.
    let inv = c.loop-passed.invariant in
    let here = g.W.Outside.world c.loop-passed.outside in
    let rest = only_read_both inv.rest c.in-Err.ensures.rest in
    pass_cut c.args.count c.loop-passed.passed here c.in-Err.ensures.failed rest
    (inv.stands bytes is).0 c.in-Err.ensures.bytes c.loop-passed-test.true

pub loop-passed-preserved : goal.loop-passed-preserved
loop-passed-preserved g c =
    let inv = c.loop-passed.invariant in
    let most : c.in-Ok.got ≤ length c.read.new.buf = c.in-Ok.ensures.bound.0 in
    let long = c.read.auto.buf in
    let cause = c.in-Ok.ensures.cause in
    record {
      stands = λ bytes is.
          let before = inv.stands bytes is in
          let bytes_read = c.in-Ok.ensures.bytes.0 in
          let now = passed_on bytes c.read.new.buf c.loop-passed.passed c.in-Ok.got _ _ before.0 most bytes_read in
          let held = passed_within bytes c.read.new.buf c.loop-passed.passed c.in-Ok.got _ _ before.0 most before.2 bytes_read in
          (now, (λ yes. let past = before.1 yes in omega (arith, past)), held);
      within = omega (arith, most, long, length-take c.if-left.size c.loop-passed.buffer);
      byte = inv.byte;
      rest = only_read_both inv.rest c.in-Ok.ensures.rest;
      count = none_passed_both inv.count cause.count;
      same = cause.same ∙ inv.same;
      told = λ some. cause.told (inv.told some);
      holds = λ name held. cause.holds name (inv.holds name held);
      calm = λ quiet. (c.in-Ok.ensures.calm (inv.calm quiet)).still;
    }

pub returns-else-not-self-clause-passed : goal.returns-else-not-self-clause-passed
returns-else-not-self-clause-passed g c = λ bytes is.
    let inv = c.loop-passed.invariant in
    has_passed inv.rest (inv.stands bytes is).0 (inv.stands bytes is).1 (inv.stands bytes is).2 inv.within inv.byte (inl c.if-not-self.false)

pub returns-after-loop-passed-clause-passed : goal.returns-after-loop-passed-clause-passed
returns-after-loop-passed-clause-passed g c = λ bytes is.
    let inv = c.loop-passed.invariant in
    has_passed inv.rest (inv.stands bytes is).0 (inv.stands bytes is).1 (inv.stands bytes is).2 inv.within inv.byte (inr (omega arith))
