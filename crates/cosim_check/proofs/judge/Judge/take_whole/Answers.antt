use Rattle.std.proofs.Common.{◌++◌, ◌∷◌, [], ◌∙◌, ap, rules}
use Rattle.cosim_check.specs.Lines.{newline}
use Rattle.cosim_check.specs.Places.{place_of, places}
use Rattle.cosim_check.specs.Standing.{JudgeState}
use Rattle.cosim_check.proofs.WholeLines.{by_byte, whole_ends, whole_passes}
use Rattle.cosim_check.proofs.judge.Judge.take_whole.Goals as goal

-- the line passes
pub returns-then-is_none-2-clause-place : goal.returns-then-is_none-2-clause-place
returns-then-is_none-2-clause-place c =
    let j = c.self.inside in
    let judged = c.judge_line-self-inside in
    whole_passes j.core judged.new.core j.passed j.line c.args.line.now j.tohost j.most j.end judged.result j.finished (search rules) c.if-self.true (search rules) c.requires.plain c.if-line-lt256.true (search rules) (judged.ensures.past (search rules))
    ∙ ap (λ (s : JudgeState). places s.tohost (place_of s) (c.args.line.now ++ newline ∷ [])) c.self.view_is

-- the line is refused
pub returns-else-is_none-2-clause-place : goal.returns-else-is_none-2-clause-place
returns-else-is_none-2-clause-place c =
    let j = c.self.inside in
    let judged = c.judge_line-self-inside in
    whole_ends j.core judged.new.core j.passed j.line c.args.line.now j.tohost j.most j.end judged.result j.finished (search rules) c.if-self.true (search rules) c.requires.plain c.if-line-lt256.true (search rules) judged.ensures.last judged.ensures.found
    ∙ ap (λ (s : JudgeState). places s.tohost (place_of s) (c.args.line.now ++ newline ∷ [])) c.self.view_is

-- byte by byte
pub returns-else-is_none-clause-place : goal.returns-else-is_none-clause-place
returns-else-is_none-clause-place c =
    by_byte c.args.self.now.tohost c.take_bytes.new.self.tohost (place_of c.args.self.now) (place_of c.take_bytes.new.self) (place_of c.take_byte.new.self) c.args.line.now c.take_bytes.ensures.tohost c.take_bytes.ensures.place c.take_byte.ensures.place
