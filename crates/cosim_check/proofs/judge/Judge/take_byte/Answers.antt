use Rattle.std.proofs.Common.{◌≡◌, ℕ, ◌+◌, List, ◌∙◌, sym, ap, subst, rules}
use Rattle.std.specs.Prelude.{IfSome}
use Rattle.commit_log.specs.Column.{IsColumn}
use Rattle.cosim_check.specs.Places.{next_place, place_of}
use Rattle.cosim_check.specs.Standing.{JudgeState}
use Rattle.cosim_check.specs.Verdicts.{Found, Passed, after_line}
use Rattle.cosim_check.proofs.Bytes.{byte_waits, line_full, newline_ends, newline_passes, stays, too_many, view_of}
use Rattle.cosim_check.proofs.judge.Judge.take_byte.Goals as goal

-- a verdict was found before
pub returns-then-is_some-clause-place : goal.returns-then-is_some-clause-place
returns-then-is_some-clause-place c =
    let j = c.self.inside in
    subst (λ (s : JudgeState). place_of s ≡ next_place s.tohost c.args.b (place_of s)) c.self.view_is
    (stays j.core j.passed j.line j.tohost j.most c.args.b j.end j.finished (sym c.is_some.ensures ∙ c.if-is_some.true) c.self.invariant.last)

-- no more records may pass
pub returns-then-self-clause-place : goal.returns-then-self-clause-place
returns-then-self-clause-place c =
    let j = c.self.inside in
    too_many j.core j.passed j.line j.tohost j.most c.args.b j.end j.finished (sym c.is_some.ensures ∙ c.if-is_some.false) c.if-self.true
    ∙ ap (λ (s : JudgeState). next_place s.tohost c.args.b (place_of s)) c.self.view_is

-- the line ends and passes
pub returns-then-is_none-clause-place : goal.returns-then-is_none-clause-place
returns-then-is_none-clause-place c =
    let j = c.self.inside in
    let judged = c.judge_line-self-inside in
    let passes = subst (λ (l : List ℕ). after_line j.tohost l (Passed j.core j.passed) ≡ Passed judged.new.core (j.passed + 1)) c.bytes.ensures.value (judged.ensures.past (search rules)) in
    subst (λ (l : List ℕ). place_of (view_of judged.new.core (j.passed + 1) l j.tohost j.most judged.result j.finished) ≡ next_place j.tohost c.args.b (place_of (view_of j.core j.passed j.line j.tohost j.most j.end j.finished))) (sym c.clear.ensures)
    (newline_passes j.core judged.new.core j.passed j.line j.tohost j.most c.args.b j.end judged.result j.finished (sym c.is_some.ensures ∙ c.if-is_some.false) c.if-self.false c.if-b-eq10.true (search rules) passes)
    ∙ ap (λ (s : JudgeState). next_place s.tohost c.args.b (place_of s)) c.self.view_is

-- the line ends and is refused
pub returns-else-is_none-clause-place : goal.returns-else-is_none-clause-place
returns-else-is_none-clause-place c =
    let j = c.self.inside in
    let judged = c.judge_line-self-inside in
    let found = subst (λ (l : List ℕ). IfSome judged.result (λ v. after_line j.tohost l (Passed j.core j.passed) ≡ Found v)) c.bytes.ensures.value judged.ensures.found in
    subst (λ (l : List ℕ). place_of (view_of judged.new.core j.passed l j.tohost j.most judged.result j.finished) ≡ next_place j.tohost c.args.b (place_of (view_of j.core j.passed j.line j.tohost j.most j.end j.finished))) (sym c.clear.ensures)
    (newline_ends j.core judged.new.core j.passed j.line j.tohost j.most c.args.b j.end judged.result j.finished (sym c.is_some.ensures ∙ c.if-is_some.false) c.if-self.false c.if-b-eq10.true (search rules) judged.ensures.last found)
    ∙ ap (λ (s : JudgeState). next_place s.tohost c.args.b (place_of s)) c.self.view_is

-- the line is too long
pub returns-then-not-push-clause-place : goal.returns-then-not-push-clause-place
returns-then-not-push-clause-place c =
    let j = c.self.inside in
    let stops = subst (λ (l : List ℕ). IsColumn l c.long_column.result) c.bytes-then-not-push.ensures.value c.long_column.ensures in
    line_full j.core j.passed j.line c.push.new.self j.tohost j.most c.args.b c.long_column.result j.end j.finished (sym c.is_some.ensures ∙ c.if-is_some.false) c.if-self.false c.if-b-eq10.false (search rules) (sym c.if-not-push.true ∙ c.push.ensures.room) c.push.ensures.value stops
    ∙ ap (λ (s : JudgeState). next_place s.tohost c.args.b (place_of s)) c.self.view_is

-- the byte waits for its newline
pub returns-else-not-push-clause-place : goal.returns-else-not-push-clause-place
returns-else-not-push-clause-place c =
    let j = c.self.inside in
    byte_waits j.core j.passed j.line c.push.new.self j.tohost j.most c.args.b j.end j.finished (sym c.is_some.ensures ∙ c.if-is_some.false) c.if-self.false c.if-b-eq10.false (sym c.if-not-push.false ∙ c.push.ensures.room) c.push.ensures.value
    ∙ ap (λ (s : JudgeState). next_place s.tohost c.args.b (place_of s)) c.self.view_is
