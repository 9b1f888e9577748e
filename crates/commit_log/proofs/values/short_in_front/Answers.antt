use Rattle.std.proofs.Common.{◌≡◌, ℕ, ◌-◌, ap, drop, get_or, Ok, ◌∙◌, arith}
use Rattle.commit_log.proofs.ReadDigits.{digits_done, front_below, front_more_room, front_read}
use Rattle.commit_log.proofs.values.short_in_front.Goals as goal

pub loop-i-preserved : goal.loop-i-preserved
loop-i-preserved c =
    let i = c.loop-i.i in
    let value = c.loop-i.value in
    let entry = c.value_of.result in
    let is = c.value_of.ensures in
    record {
      read = λ small. front_read _ c.args.count i value entry c.args.line.now (omega arith) (omega arith) is.value c.loop-i.invariant.read small;
      below = λ small. front_below i value entry (get_or c.args.line.now i 0) is.value c.loop-i.invariant.below small;
      room = front_more_room i value entry is.most c.loop-i.invariant.room;
    }

pub returns-then-value-lt-NONE-clause-value : goal.returns-then-value-lt-NONE-clause-value
returns-then-value-lt-NONE-clause-value c =
    let all : c.loop-i.i ≡ c.args.count = omega arith in
    digits_done _ (c.args.count - c.loop-i.i) c.loop-i.value _ (omega arith) (c.loop-i.invariant.read c.if-value-lt-NONE.true)
    ∙ ap (λ (n : ℕ). Ok (c.loop-i.value, drop n c.args.line.now)) all
