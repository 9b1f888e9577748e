-- A run of a machine that has no host window.
use Rattle.std.specs.Prelude.{◌≡◌, ℕ, List}
use Rattle.hart_turns.specs.declared.machine.TurnEnd.TheVariants.{Goes}
use Rattle.hart_turns.specs.Machine.{MachineState}
use Rattle.job_words.specs.Job.{Logs}
use Rattle.turn_runs.specs.Run.{Ran, run}

-- all of so many turns were made, the last of them ended nothing, and the machine has kept its shape
pub record MadeAll (m : MachineState) (turns : ℕ) (ran : Ran) : Type 0 where
  pub made : ran.made ≡ turns
  pub goes : ran.last ≡ Goes
  pub shape : ran.machine.shape ≡ m.shape

-- no turn ends a run of a machine without a host window
abbrev pub WindowlessRunsGoOn : Type 0
WindowlessRunsGoOn = (logs : Logs) (input : List ℕ) (m : MachineState) (turns : ℕ) → m.shape.tohost ≡ 0 → MadeAll m turns (run logs input m turns)
