-- What follows from the definitions.
use Rattle.std.specs.Prelude.{◌≡◌, ◌≤◌, ◌<◌, ◌^◌, ℕ, List, length, bit_and, unwrap_or}
use Rattle.console.specs.Access.{most_sent}
use Rattle.board_bus.specs.Board.{BoardState, IsFit, after_load, driven_bits, hart_count, live, loaded, sent, stored}

-- the devices drive no bits but 3, 7, 9 and 11
abbrev pub DrivesFourBits : Type 0
DrivesFourBits = (b : BoardState) (h : ℕ) → bit_and (live b h) driven_bits ≡ live b h

-- loads and stores leave the number of harts as it is
abbrev pub LoadKeepsHarts : Type 0
LoadKeepsHarts = (b : BoardState) (at size : ℕ) → hart_count (after_load b at size) ≡ hart_count b

abbrev pub StoreKeepsHarts : Type 0
StoreKeepsHarts = (b : BoardState) (at size value : ℕ) → hart_count (stored b at size value) ≡ hart_count b

-- a store sends no more bytes than the console's longest send has
abbrev pub SendsAtMost : Type 0
SendsAtMost = (ram : List ℕ) (b : BoardState) (at size value : ℕ) → length (sent ram b at size value) ≤ most_sent

-- what a register of a well-formed board answers to a load has as many bytes as were asked for
abbrev pub LoadsFit : Type 0
LoadsFit = (b : BoardState) → IsFit b → (at size : ℕ) → unwrap_or (loaded b at size) 0 < 256 ^ size
