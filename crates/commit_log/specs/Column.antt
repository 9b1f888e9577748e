-- Where a line stops to be the beginning of a spelling.
use Rattle.std.specs.Prelude.{◌≡◌, ℕ, ◌<◌, ◌≤◌, List, ◌++◌, length, take}
use Rattle.hart_step.specs.declared.event.Event.{Event}
use Rattle.commit_log.specs.Spelling.{line, IsSpellable}

-- some spelling begins so
pub record IsStart (start : List ℕ) : Type 0 where
  pub event : Event
  pub spellable : IsSpellable event
  pub rest : List ℕ
  pub spelled : line event ≡ start ++ rest

-- the length of the longest front of a line that is the front of some spelling
pub record IsColumn (bytes : List ℕ) (column : ℕ) : Type 0 where
  pub within : column ≤ length bytes
  pub begins : IsStart (take column bytes)
  pub ends : (n : ℕ) → column < n → n ≤ length bytes → ¬ (IsStart (take n bytes))
