use Rattle.std.proofs.Common.{ℕ, ◌++◌, false, sym, ap, subst, ◌∙◌}
use Rattle.cosim_check.specs.Standing.{JudgeState}
use Rattle.cosim_check.specs.Verdicts.{IsFinal, verdict_of}
use Rattle.cosim_check.proofs.Bytes.{some_final}
use Rattle.cosim_check.proofs.Streams.{over_stands, stands_on}
use Rattle.cosim_check.proofs.judge.Judge.feed.Goals as goal

-- a verdict was found before

pub returns-then-is_some-clause-stands : goal.returns-then-is_some-clause-stands
returns-then-is_some-clause-stands c =
    over_stands c.args.self.now
    (subst (λ (j : JudgeState). IsFinal j.verdict) c.self.view_is (some_final c.self.inside.passed c.self.inside.end (sym c.is_some.ensures ∙ c.if-is_some.true) c.self.invariant.last))
    c.args.piece.now

pub returns-then-is_some-clause-answer : goal.returns-then-is_some-clause-answer
returns-then-is_some-clause-answer c = λ core bytes s. c.verdict-then-is_some.ensures ∙ (returns-then-is_some-clause-stands c core bytes s).verdict

-- the piece was taken

pub returns-clause-stands : goal.returns-clause-stands
returns-clause-stands c =
    let taken = c.take_lines.ensures in
    stands_on c.args.self.now c.take_lines.new.self c.args.piece.now taken.tohost taken.most taken.finished taken.place

pub returns-clause-answer : goal.returns-clause-answer
returns-clause-answer c = λ core bytes s.
    let taken = c.take_lines.ensures in
    c.verdict-2.ensures ∙ (returns-clause-stands c core bytes s).verdict
    ∙ ap (λ (t : ℕ). verdict_of core t c.take_lines.new.self.most (bytes ++ c.args.piece.now) false) taken.tohost
    ∙ ap (λ (m : ℕ). verdict_of core c.args.self.now.tohost m (bytes ++ c.args.piece.now) false) taken.most
