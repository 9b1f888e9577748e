-- What a run leaves that was cut, in plain words: k whole turns, and of the next one a part.
use Rattle.std.specs.Prelude.{◌≡◌, ◌≢◌, ◌≤◌, ◌<◌, ◌⊎◌, ℕ, ◌+◌, List, [], ◌∷◌, ◌++◌, take, Some}
use Rattle.hart_turns.specs.declared.machine.TurnEnd.TheVariants.{Goes}
use Rattle.hart_turns.specs.Machine.{MachineState}
use Rattle.hart_turns.specs.Turn.{Turned}
use Rattle.outside_acts.specs.declared.Stop.{Stop}
use Rattle.outside_acts.specs.declared.Stop.TheVariants.{Input, Out, Files, NoMemory}
use Rattle.outside_acts.specs.Acts.{Act, ReadTo, Send, Append, IsCut, read}
use Rattle.job_words.specs.Job.{Logs}
use Rattle.turn_runs.specs.Run.{run, send_acts, trace_lines, turn_on}

-- ---- a part of a turn

-- the input failed before the byte that is offered: no more bytes were read in all than had been taken, and no fewer
-- than before the turn
abbrev pub LeavesUnread : ℕ → MachineState → List Act → Type 0
LeavesUnread from m left = (j : ℕ) × (from ≤ j) × (j < m.taken + 1) × (left ≡ ReadTo j ∷ [])

-- the input was read, and a front of the console bytes was sent, of which there are some
abbrev pub LeavesSent : MachineState → Turned → List Act → Type 0
LeavesSent m t left = (t.console ≢ []) × ((i : ℕ) × (left ≡ ReadTo (m.taken + 1) ∷ Send (take i t.console) ∷ []))

-- nothing of the lines was written, or a front of them to the file of this name
abbrev pub LeavesLines : List ℕ → List ℕ → List Act → Type 0
LeavesLines name lines left = (left ≡ []) ⊎ ((i : ℕ) × (left ≡ Append name (take i lines) ∷ []))

-- the input was read, all console bytes were sent, and a front of the lines may have been written
abbrev pub LeavesLogged : Logs → MachineState → Turned → List Act → Type 0
LeavesLogged logs m t left = (name : List ℕ) × (logs.trace ≡ Some name)
    × ((last : List Act) × (LeavesLines name (trace_lines t.events) last)
    × (left ≡ ReadTo (m.taken + 1) ∷ (send_acts t.console ++ last)))

-- what is left of a turn, by what failed, where so many bytes were read before it. Memory lacks for the console or
-- for the lines
abbrev pub TurnLeaves : Stop → Logs → ℕ → MachineState → Turned → List Act → Type 0
TurnLeaves Input logs from m t left = LeavesUnread from m left
TurnLeaves Out logs from m t left = LeavesSent m t left
TurnLeaves Files logs from m t left = LeavesLogged logs m t left
TurnLeaves NoMemory logs from m t left = LeavesSent m t left ⊎ LeavesLogged logs m t left

-- ---- a run

-- k whole turns were made, none of which ended the run, and of the next one a part
pub record RunLeaves (stop : Stop) (logs : Logs) (bytes : List ℕ) (from : ℕ) (m : MachineState) (turns : ℕ)
    (front : List Act) : Type 0 where
  pub k : ℕ
  pub within : k < turns
  pub goes : (run logs bytes m k).last ≡ Goes
  pub left : List Act
  pub front_is : front ≡ (run logs bytes m k).acts ++ left
  pub of_turn : TurnLeaves stop logs (read (run logs bytes m k).acts from)
      (run logs bytes m k).machine (turn_on bytes (run logs bytes m k).machine) left

-- ---- a run whose input failed

-- k whole turns were made, none of which ended the run, and the bytes that were read in all are exactly those that were
-- taken. After fewer turns fewer were taken: k is the least number of turns after which so many were, and so it is told
-- by how far the input was read
pub record InputLeaves (logs : Logs) (bytes : List ℕ) (m : MachineState) (turns : ℕ) (front : List Act) : Type 0 where
  pub k : ℕ
  pub within : k < turns
  pub goes : (run logs bytes m k).last ≡ Goes
  pub front_is : front ≡ (run logs bytes m k).acts ++ ReadTo (run logs bytes m k).machine.taken ∷ []
  pub least : (j : ℕ) → j < k → (run logs bytes m j).machine.taken < (run logs bytes m k).machine.taken

-- so does an input leave a run when it fails, where no fewer bytes were read before the run than its machine had taken
abbrev pub InputCutsAreLeast : Type 0
InputCutsAreLeast = (logs : Logs) (bytes : List ℕ) (from : ℕ) (m : MachineState) (turns : ℕ) (front : List Act) →
    m.taken ≤ from → IsCut Input from (run logs bytes m turns).acts front → InputLeaves logs bytes m turns front
