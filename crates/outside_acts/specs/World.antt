-- All that is outside of a job, as contracts see it: what is told of the files, the input and the console, and their
-- counts of faults.
use Rattle.std.specs.Prelude.{◌≡◌, ℕ, List, Option}
use Rattle.outside_io.specs.Causes.{Rose}
use Rattle.outside_io.specs.Content.{Held}

-- ---- counts of faults

-- what has a count: reading files, writing them, the input, and the console
pub data Counted : Type 0 where
  Reading : Counted
  Writing : Counted
  TheInput : Counted
  Console : Counted

pub record Counts : Type 0 where
  pub reading : ℕ
  pub writing : ℕ
  pub input : ℕ
  pub console : ℕ

abbrev pub counts : ℕ → ℕ → ℕ → ℕ → Counts
counts reading writing input console = record { reading = reading; writing = writing; input = input; console = console }

-- no fault was passed over
pub record NonePassedOver (before now : Counts) : Type 0 where
  pub reading : now.reading ≡ before.reading
  pub writing : now.writing ≡ before.writing
  pub input : now.input ≡ before.input
  pub console : now.console ≡ before.console

-- this count rose, and no other
abbrev pub OnlyRose : Counted → Counts → Counts → Type 0
OnlyRose Reading before now = Rose before.reading now.reading × NonePassedOver (record before { reading = now.reading }) now
OnlyRose Writing before now = Rose before.writing now.writing × NonePassedOver (record before { writing = now.writing }) now
OnlyRose TheInput before now = Rose before.input now.input × NonePassedOver (record before { input = now.input }) now
OnlyRose Console before now = Rose before.console now.console × NonePassedOver (record before { console = now.console }) now

-- ---- what is told

pub record World : Type 0 where
  -- which three objects these are: the names of the references to the files, the input and the console
  pub objects : ℕ × ℕ × ℕ
  -- what the files hold, the bytes that the input has left, and those that the console got: each where it is told
  pub held : Option Held
  pub left : Option (List ℕ)
  pub written : Option (List ℕ)
  pub counts : Counts

-- three objects that stand apart
abbrev pub apart : Option Held → Option (List ℕ) → Option (List ℕ) → Counts → World
apart held left written counts = record { objects = (0, 0, 0); held = held; left = left; written = written; counts = counts }
