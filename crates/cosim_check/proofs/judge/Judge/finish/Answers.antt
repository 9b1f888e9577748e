use Rattle.std.proofs.Common.{true, sym, ap, ◌∙◌}
use Rattle.cosim_check.specs.Places.{Place, verdict_at}
use Rattle.cosim_check.specs.Standing.{JudgeState}
use Rattle.cosim_check.proofs.Streams.{placed, verdict_placed}
use Rattle.cosim_check.proofs.judge.Judge.finish.Goals as goal

pub returns-clause-answer : goal.returns-clause-answer
returns-clause-answer c = λ core bytes s.
    c.verdict-2.ensures ∙ ap (λ (j : JudgeState). j.verdict) c.self-2.view_is ∙ c.end_line.ensures.verdict
    ∙ ap (λ (p : Place). verdict_at c.args.self.now.tohost true p) (placed c.args.self.now core bytes s)
    ∙ sym (verdict_placed core c.args.self.now.tohost c.args.self.now.most bytes true)
