-- There is a byte, or one was read, or the input has ended.
use Rattle.std.proofs.Common.{◌≡◌, ◌<◌, ◌≤◌, ℕ, length, take, sym, subst, arith, inl, inr}
use Rattle.std.specs.Io.KnownBytes.{Consumes}
use Rattle.turn_runs.proofs.Feeds.{end_fills, kept_fills, no_byte, one_fills}
use Rattle.turn_runs.proofs.feed.Feed.fill.Goals as goal
use Rattle.turn_runs.proofs.feed.Feed.fill.Goals.{then-is_some-via-then-is_some, then-is_some-via-else-is_some+then-self}

pub returns-then-is_some-clause-filled : goal.returns-then-is_some-clause-filled
returns-then-is_some-clause-filled g c =
    kept_fills c.args.self.now (g.W.Outside.world c.args.outside.now)
    (elim c.then-is_some.branch [
      | then-is_some-via-then-is_some w ↦ inl (sym w.if-is_some.ensures)
      | then-is_some-via-else-is_some+then-self w ↦ inr w.if-self.true
    ])

pub returns-in-Ok-eq0-clause-filled : goal.returns-in-Ok-eq0-clause-filled
returns-in-Ok-eq0-clause-filled g c =
    let before = (g.W.Outside.world c.args.outside.now).left in
    let now = (g.W.Outside.world c.read.new.self).left in
    let bytes = c.in-Ok-eq0.ensures.bytes in
    let long : length c.read.new.buf ≡ 1 = c.read.auto.buf in
    let some : 0 < length c.read.new.buf = omega (arith, long) in
    let none : c.in-Ok-eq0.field-0 ≡ 0 = c.in-Ok-eq0.field-0-test in
    let consumed = subst (λ (n : ℕ). Consumes before now (take n c.read.new.buf)) none bytes.0 in
    end_fills (no_byte c.args.self.now.byte (sym c.if-is_some.ensures)) c.in-Ok-eq0.ensures.rest consumed (bytes.1 none some)

pub returns-in-Ok-clause-filled : goal.returns-in-Ok-clause-filled
returns-in-Ok-clause-filled g c =
    let read = c.in-Ok.ensures in
    let byte = no_byte c.args.self.now.byte (sym c.if-is_some.ensures) in
    let long : length c.read.new.buf ≡ 1 = c.read.auto.buf in
    let bound = read.bound.0 in
    let most : c.in-Ok.field-0 ≤ 1 = omega (arith, long, bound) in
    one_fills c.read.new.buf c.in-Ok.field-0 byte c.if-self.false read.rest read.bytes.0 long most c.in-Ok.field-0-test.1
