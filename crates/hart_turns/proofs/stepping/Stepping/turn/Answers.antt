-- A turn's steps and the look at the window, whose events are kept or not.
use Rattle.std.proofs.Common.{ap, ◌∙◌}
use Rattle.hart_turns.specs.Kept.{progress_of}
use Rattle.hart_turns.specs.Turn.{end_of}
use Rattle.hart_turns.proofs.Blind.{looked_kept, says_same}
use Rattle.hart_turns.proofs.stepping.Stepping.turn.Goals as goal

pub returns-clause-end : goal.returns-clause-end
returns-clause-end g c = c.look.ensures.end
    ∙ ap end_of (says_same g.K.Keeps.keeps c.args.harts c.args.steps c.args.tohost (progress_of c.args.self.now) (progress_of c.begin.new.self) (progress_of c.all_steps.new.self) (progress_of c.look.new.self)
    (record { begun_is = c.begin.ensures.progress; steps_are = c.all_steps.ensures.steps.progress_is; looked_is = c.look.ensures.progress }))

pub returns-clause-progress : goal.returns-clause-progress
returns-clause-progress g c =
    looked_kept g.K.Keeps.keeps c.args.harts c.args.steps c.args.tohost (progress_of c.args.self.now) (progress_of c.begin.new.self) (progress_of c.all_steps.new.self) (progress_of c.look.new.self)
    (record { begun_is = c.begin.ensures.progress; steps_are = c.all_steps.ensures.steps.progress_is; looked_is = c.look.ensures.progress })
