-- No byte was read; a piece passed; the input has ended or failed, or a verdict was found.
use Rattle.std.proofs.Common.{◌≡◌, ℕ, length, take, refl, ap, subst, ◌∙◌, arith}
use Rattle.std.proofs.lemmas.List.{length-replicate, length-take-le}
use Rattle.outside_acts.proofs.Causes.{none_passed, none_passed_both}
use Rattle.outside_acts.specs.World.{World}
use Rattle.stream_judge.specs.Judging.{IsPassing}
use Rattle.stream_judge.proofs.Room.{less_room}
use Rattle.stream_judge.proofs.Taking.{final_unless, judged_at_end, judged_before, judging_stops, none_taken, taken_on}
use Rattle.stream_judge.proofs.judging.judge_input.Goals as goal

pub pieces-init : goal.pieces-init
pieces-init g c =
    let made = c.new-judge.ensures in
    let world : World = g.W.Outside.world c.args.outside.now in
    record {
      taken = none_taken world made.stands made.tohost made.most;
      size = length-replicate {A = ℕ} 4096 0;
      count = none_passed world.counts;
      same = refl;
      told = λ some. some;
      holds = λ name held. held;
      calm = λ quiet. quiet;
    }

pub pieces-smaller : goal.pieces-smaller
pieces-smaller g c =
    let h = c.pieces.invariant.taken in
    let fed = c.feed.ensures in
    let many = length-take-le c.in-Ok.count c.read.new.buf c.in-Ok.ensures.bound.0 in
    less_room c.pieces.judge c.feed.new.self c.args.core h.taken (take c.in-Ok.count c.read.new.buf) h.stands
    (fed.stands c.args.core h.taken h.stands) fed.tohost fed.most h.passing (subst IsPassing c.in-Passing.ensures.verdict tt)
    (let some = c.if-count-eq0.false in omega (arith, many, some))

pub pieces-preserved : goal.pieces-preserved
pieces-preserved g c =
    let inv = c.pieces.invariant in
    let h = inv.taken in
    let read = c.in-Ok.ensures in
    let fed = c.feed.ensures in
    record {
      taken = taken_on (take c.in-Ok.count c.read.new.buf) h read.rest read.bytes.0
          (fed.stands c.args.core h.taken h.stands) fed.tohost fed.most (subst IsPassing c.in-Passing.ensures.verdict tt);
      size = c.read.auto.buf ∙ inv.size;
      count = none_passed_both inv.count read.cause.count;
      same = read.cause.same ∙ inv.same;
      told = λ some. read.cause.told (inv.told some);
      holds = λ name held. read.cause.holds name (inv.holds name held);
      calm = λ quiet. (read.calm (inv.calm quiet)).still;
    }

pub returns-in-Err-clause-cut : goal.returns-in-Err-clause-cut
returns-in-Err-clause-cut g c =
    let read = c.in-Err.ensures in
    judging_stops c.pieces.invariant.taken read.failed read.rest read.bytes

pub returns-then-count-eq0-clause-judged : goal.returns-then-count-eq0-clause-judged
returns-then-count-eq0-clause-judged g c =
    let h = c.pieces.invariant.taken in
    let read = c.in-Ok.ensures in
    let long : length c.read.new.buf ≡ 4096 = c.read.auto.buf ∙ c.pieces.invariant.size in
    let none : c.in-Ok.count ≡ 0 = c.if-count-eq0.true in
    judged_at_end (take c.in-Ok.count c.read.new.buf) c.finish.result h read.rest read.bytes.0
    (ap (λ n. take n c.read.new.buf) none) (read.bytes.1 none (omega (arith, long)))
    (c.finish.ensures.answer c.args.core h.taken h.stands)

pub returns-in_default : goal.returns-in_default
returns-in_default g c =
    let inv = c.pieces.invariant in
    let h = inv.taken in
    let read = c.in-Ok.ensures in
    let long : length c.read.new.buf ≡ 4096 = c.read.auto.buf ∙ c.pieces.invariant.size in
    let most = read.bound.0 in
    let many = length-take-le c.in-Ok.count c.read.new.buf most in
    let last = final_unless c.feed.result c.in_default.not-Passing in
    record {
      judged = judged_before (take c.in-Ok.count c.read.new.buf) c.feed.result h read.rest
          read.bytes.0 (omega (arith, many, most, long))
          (c.feed.ensures.answer c.args.core h.taken h.stands) last;
      cut = tt;
      cause = record {
        count = none_passed_both inv.count read.cause.count;
        same = read.cause.same ∙ inv.same;
        told = λ some. read.cause.told (inv.told some);
        holds = λ name held. read.cause.holds name (inv.holds name held);
      };
      calm = λ quiet. record { unfailed = tt; still = (read.calm (inv.calm quiet)).still };
    }
