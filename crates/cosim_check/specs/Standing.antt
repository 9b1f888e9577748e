-- What a judge stands for: the core that it began with, and the bytes that it was fed.
use Rattle.std.specs.Prelude.{◌≡◌, ◌⊎◌, ◌≤◌, IfSome, ℕ, Bool, false, IsFalse, List, [], Option, Some, None}
use Rattle.guest_ram.specs.Bytes.{HasPart, IsAligned}
use Rattle.hart_step.specs.Harts.{CoreState}
use Rattle.cosim_check.specs.declared.verdict.Verdict.{Verdict}
use Rattle.cosim_check.specs.declared.verdict.Verdict.TheVariants.{Passing}
use Rattle.cosim_check.specs.Lines.{last_part, whole_lines}
use Rattle.cosim_check.specs.Verdicts.{IsFinal, Passed, after_all, verdict_of}

-- there is no host window (0), or its 8 aligned bytes lie in memory
abbrev pub HasWindow : ℕ → List ℕ → Type 0
HasWindow tohost ram = (tohost ≡ 0) ⊎ (IsAligned tohost 8 × HasPart ram tohost 8)

-- a judge as contracts see it: the core after the records that passed, the front of a line that has come, the host
-- window, the limit of records, the verdict so far, and whether it was told that the stream has ended
pub record JudgeState : Type 0 where
  pub core : CoreState
  pub front : List ℕ
  pub tohost : ℕ
  pub most : ℕ
  pub verdict : Verdict
  pub finished : Bool

-- while all records have passed: the core, the count and the front are those of the bytes
pub record KeepsPlace (j : JudgeState) (core : CoreState) (bytes : List ℕ) (n : ℕ) : Type 0 where
  pub place : after_all j.tohost (whole_lines [] bytes) (Passed core 0) ≡ Passed j.core n
  pub front : j.front ≡ last_part [] bytes

-- a judge that began with this core was fed these bytes, in whatever pieces
pub record StandsFor (j : JudgeState) (core : CoreState) (bytes : List ℕ) : Type 0 where
  pub unfinished : IsFalse j.finished
  pub verdict : j.verdict ≡ verdict_of core j.tohost j.most bytes false
  pub kept : (n : ℕ) → j.verdict ≡ Passing n → KeepsPlace j core bytes n

-- ---- what every judge keeps

-- the verdict by the count of records that passed and by the one that was found
abbrev pub settled : ℕ → Option Verdict → Verdict
settled n None = Passing n
settled n (Some verdict) = verdict

-- the window lies in memory, no more records have passed than may, and what was found stays
pub record IsKept (core : CoreState) (tohost most passed : ℕ) (end : Option Verdict) : Type 0 where
  pub window : HasWindow tohost core.ram
  pub count : passed ≤ most
  pub last : IfSome end IsFinal
