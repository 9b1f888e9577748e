-- What follows from the definitions.
use Rattle.std.specs.Prelude.{◌≤◌, ℕ, List, length}
use Rattle.console.specs.State.{ConsoleRegisters}
use Rattle.console.specs.Access.{most_sent, sent}

-- a store sends no more bytes than the longest send has
abbrev pub SendsAtMost : Type 0
SendsAtMost = (ram : List ℕ) (r : ConsoleRegisters) (off size value : ℕ) → length (sent ram r off size value) ≤ most_sent
