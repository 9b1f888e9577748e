use Rattle.std.proofs.Common.{◌≡◌, ℕ, List, length}
use Rattle.std.specs.Prelude.{IsSome}
use Rattle.outside_io.specs.Content.{IsHeld}
use Rattle.outside_acts.specs.World.{NonePassedOver, World}
use Rattle.stream_judge.proofs.Room.{room}
use Rattle.stream_judge.proofs.Taking.{HasTaken}
use Rattle.stream_judge.proofs.judging.judge_input.Given as goal

-- all that was taken has passed
abbrev pub invariant-pieces : goal.invariant-pieces
invariant-pieces g l =
    let before : World = g.W.Outside.world l.fn.outside in
    let now : World = g.W.Outside.world l.outside in
    record {
      taken : HasTaken l.fn.core l.fn.tohost l.judge before now;
      size : length l.buffer ≡ 4096;
      count : NonePassedOver before.counts now.counts;
      same : now.objects ≡ before.objects;
      told : IsSome before.held → IsSome now.held;
      holds : (name : List ℕ) → IsHeld before.held name → IsHeld now.held name;
      calm : g.W.Outside.quiet l.fn.outside → g.W.Outside.quiet l.outside;
    }

-- what may still pass
abbrev pub decreases-pieces : goal.decreases-pieces
decreases-pieces g l = room l.judge
