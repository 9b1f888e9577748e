-- The signals that are kept of the first n harts.
use Rattle.std.specs.Prelude.{◌≡◌, ◌<◌, ℕ, List, slice_index}
use Rattle.board_bus.specs.Board.{BoardState, live}

abbrev pub AreSignals : BoardState → List ℕ → ℕ → Type 0
AreSignals board signals n = (h : ℕ) → h < n → slice_index signals h ≡ live board h
