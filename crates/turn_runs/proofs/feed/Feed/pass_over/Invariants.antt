use Rattle.std.proofs.Common.{◌≡◌, ◌≤◌, ◌+◌, ◌-◌, ℕ, List, length, drop, Some, None, IsTrue, if◌then◌else◌}
use Rattle.std.specs.Prelude.{IsSome}
use Rattle.outside_io.specs.Content.{IsHeld}
use Rattle.outside_acts.specs.Calls.{OnlyRead}
use Rattle.outside_acts.specs.World.{NonePassedOver, World}
use Rattle.turn_runs.proofs.feed.Feed.pass_over.Given as goal

-- so many bytes were passed over, or the input has ended
abbrev pub invariant-loop-passed : goal.invariant-loop-passed
invariant-loop-passed g l =
    let before : World = g.W.Outside.world l.fn.outside in
    let now : World = g.W.Outside.world l.outside in
    record {
      stands : (bytes : List ℕ) → before.left ≡ Some bytes
          → (now.left ≡ Some (drop l.passed bytes)) × (IsTrue l.self.ended → length bytes ≤ l.passed) × (l.passed ≤ length bytes);
      within : l.passed ≤ l.count;
      byte : l.self.byte ≡ None;
      rest : OnlyRead before now;
      count : NonePassedOver before.counts now.counts;
      same : now.objects ≡ before.objects;
      told : IsSome before.held → IsSome now.held;
      holds : (name : List ℕ) → IsHeld before.held name → IsHeld now.held name;
      calm : g.W.Outside.quiet l.fn.outside → g.W.Outside.quiet l.outside;
    }

-- what is still to be passed over, and once more for an input that has not ended
abbrev pub decreases-loop-passed : goal.decreases-loop-passed
decreases-loop-passed g l = l.count - l.passed + (if l.self.ended then 0 else 1)
