-- No turn ends the run of a machine without a host window, and a turn keeps a machine's shape.
use Rattle.std.proofs.Common.{◌≡◌, ℕ, zero, suc, List, Option, refl, ap, ◌∙◌, arith}
use Rattle.board_bus.specs.Window.{host_says}
use Rattle.board_bus.specs.declared.window.HostSays.TheVariants.{Nothing}
use Rattle.sim_config.specs.declared.values.Shape.{Shape}
use Rattle.hart_turns.specs.declared.machine.TurnEnd.{TurnEnd}
use Rattle.hart_turns.specs.declared.machine.TurnEnd.TheVariants.{Goes, Ended, BadHost}
use Rattle.hart_turns.specs.Machine.{MachineState}
use Rattle.hart_turns.specs.Turn.{Progress, begins, closed, end_of, looked_after, turned, window_after}
use Rattle.job_words.specs.Job.{Logs}
use Rattle.turn_runs.specs.Run.{Ran, goes_on, run}
use Rattle.turn_runs.specs.Windowless.{MadeAll, WindowlessRunsGoOn}

-- ---- a turn keeps the shape

closed_shape : (m : MachineState) (offered : Option ℕ) (p : Progress) (end : TurnEnd) → (closed m offered p end).shape ≡ m.shape
closed_shape m offered p Goes = refl
closed_shape m offered p (Ended code) = refl
closed_shape m offered p (BadHost word) = refl

pub turned_shape : (m : MachineState) (offered : Option ℕ) → (turned m offered).machine.shape ≡ m.shape
unfolding turned
turned_shape m offered =
    closed_shape m offered (looked_after m.shape.harts m.shape.slice m.shape.tohost (begins m)) (end_of (window_after m.shape.harts m.shape.slice m.shape.tohost (begins m)))

-- ---- nothing is said where there is no window

nothing_said : (tohost : ℕ) (ram : List ℕ) → tohost ≡ 0 → host_says tohost ram ≡ Nothing
unfolding host_says
nothing_said tohost ram off = rw off refl

turn_goes : (m : MachineState) (offered : Option ℕ) → m.shape.tohost ≡ 0 → (turned m offered).end ≡ Goes
unfolding turned
turn_goes m offered off = ap end_of (nothing_said m.shape.tohost _ off)

-- ---- so no turn ends the run

one_more : (logs : Logs) (input : List ℕ) (m : MachineState) (n : ℕ) (ran : Ran) → m.shape.tohost ≡ 0 → MadeAll m n ran → (end : TurnEnd) → end ≡ Goes → MadeAll m (suc n) (goes_on logs input ran end)
one_more logs input m n ran off all Goes is =
    let none : ran.machine.shape.tohost ≡ 0 = ap (λ (s : Shape). s.tohost) all.shape ∙ off in
    let made = all.made in
    record {
      made = omega arith;
      goes = turn_goes ran.machine _ none;
      shape = turned_shape ran.machine _ ∙ all.shape;
    }
one_more logs input m n ran off all (Ended code) is = cc
one_more logs input m n ran off all (BadHost word) is = cc

pub windowless_runs_go_on : WindowlessRunsGoOn
unfolding run
windowless_runs_go_on logs input m zero off = record { made = refl; goes = refl; shape = refl }
windowless_runs_go_on logs input m (suc n) off =
    let all = windowless_runs_go_on logs input m n off in
    one_more logs input m n (run logs input m n) off all (run logs input m n).last all.goes
