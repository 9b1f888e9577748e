use Rattle.std.proofs.Common.{◌≡◌, ◌≤◌, ◌+◌, ℕ, List}
use Rattle.std.specs.Prelude.{IsSome, IsTrue}
use Rattle.hart_turns.specs.declared.machine.TurnEnd.TheVariants.{Goes}
use Rattle.hart_turns.specs.Machine.{is_running}
use Rattle.outside_io.specs.Content.{IsHeld}
use Rattle.outside_acts.specs.World.{NonePassedOver, World}
use Rattle.turn_runs.specs.Reaching.{HoldsLogs, IsRun, OverInput}
use Rattle.turn_runs.specs.Run.{run}
use Rattle.turn_runs.proofs.running.run.Given as goal

-- so many turns were made and shown, and none ended
abbrev pub invariant-loop-made : goal.invariant-loop-made
invariant-loop-made g l =
    let before : World = g.W.Outside.world l.fn.outside in
    let now : World = g.W.Outside.world l.outside in
    record {
      stands : OverInput l.fn.machine.machine l.fn.feed before (λ bytes from.
          IsRun bytes from (run l.logs bytes l.fn.machine.machine l.made) l.machine.machine l.made Goes l.feed before now);
      taken : l.machine.machine.taken ≤ l.fn.machine.machine.taken + l.made;
      running : IsTrue (is_running l.fn.machine.machine) → IsTrue (is_running l.machine.machine);
      count : NonePassedOver before.counts now.counts;
      same : now.objects ≡ before.objects;
      told : IsSome before.held → IsSome now.held;
      holds : (name : List ℕ) → IsHeld before.held name → IsHeld now.held name;
      calm : g.W.Outside.quiet l.fn.outside → HoldsLogs l.logs before → g.W.Outside.quiet l.outside × HoldsLogs l.logs now;
    }
