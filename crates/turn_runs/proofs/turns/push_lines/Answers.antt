-- The lines of one event after another.
use Rattle.std.proofs.Common.{ℕ, List, ◌++◌, ap, sym, ◌∙◌}
use Rattle.std.proofs.lemmas.List.{append-nil, take_all}
use Rattle.hart_step.specs.declared.event.Event.{Event}
use Rattle.turn_runs.specs.Run.{trace_lines}
use Rattle.turn_runs.proofs.Lines.{lines_step, no_lines}
use Rattle.turn_runs.proofs.turns.push_lines.Goals as goal

pub loop-event-init : goal.loop-event-init
loop-event-init c =
    let text : List ℕ = c.args.text.now.items in
    sym (ap (λ (zs : List ℕ). text ++ zs) no_lines ∙ append-nil text)

pub loop-event-preserved : goal.loop-event-preserved
loop-event-preserved c =
    let line = c.bytes.ensures.value ∙ c.write.ensures.value in
    lines_step c.args.text.now.items c.loop-event.text.items c.extend_from_slice.new.self.items c.bytes.result.now
    c.push.new.self.items c.args.events.now c.loop-event.event-index _ c.loop-event-test.true c.loop-event.invariant
    c.in_ok-extend_from_slice.ensures.items line c.in_ok-push.ensures.items

pub returns : goal.returns
returns c =
    let all = take_all c.loop-event.event-index c.args.events.now c.loop-event-test.false in
    c.loop-event.invariant ∙ ap (λ (es : List Event). c.args.text.now.items ++ trace_lines es) all
