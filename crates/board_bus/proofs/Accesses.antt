-- What a device access keeps of the board, and how much a store sends, by what each device does.
use Rattle.std.proofs.Common.{◌≡◌, ℕ, ◌≤◌, List, length, refl, arith}
use Rattle.clint.specs.Laws as clint
use Rattle.console.specs.Access.{most_sent}
use Rattle.console.specs.Laws as console
use Rattle.board_bus.specs.Board.{BoardState, after_load, after_load_in, hart_count, sent, sent_in, stored, stored_in}
use Rattle.board_bus.specs.Listed.{place_of}
use Rattle.board_bus.specs.Laws.{LoadKeepsHarts, SendsAtMost, StoreKeepsHarts}
use Rattle.board_bus.specs.declared.place.Place.{Place}
use Rattle.board_bus.specs.declared.place.Place.TheVariants.{Clint, Plic, Console, Nowhere}

stored_at : clint.KeepsHarts → (b : BoardState) (size value : ℕ) (place : Place) → hart_count (stored_in b size value place) ≡ hart_count b
stored_at keeps b size value (Clint off) = keeps b.clint off size value
stored_at keeps b size value (Plic off) = refl
stored_at keeps b size value (Console off) = refl
stored_at keeps b size value Nowhere = refl

pub store_keeps : clint.KeepsHarts → StoreKeepsHarts
unfolding stored
store_keeps keeps = λ b at size value. stored_at keeps b size value (place_of at)

loaded_at : (b : BoardState) (size : ℕ) (place : Place) → hart_count (after_load_in b size place) ≡ hart_count b
loaded_at b size (Clint off) = refl
loaded_at b size (Plic off) = refl
loaded_at b size (Console off) = refl
loaded_at b size Nowhere = refl

pub load_keeps : LoadKeepsHarts
unfolding after_load
load_keeps = λ b at size. loaded_at b size (place_of at)

sent_at : console.SendsAtMost → (ram : List ℕ) (b : BoardState) (size value : ℕ) (place : Place) → length (sent_in ram b size value place) ≤ most_sent
sent_at sends ram b size value (Clint off) = omega arith
sent_at sends ram b size value (Plic off) = omega arith
sent_at sends ram b size value (Console off) = sends ram b.console off size value
sent_at sends ram b size value Nowhere = omega arith

pub store_sends : console.SendsAtMost → SendsAtMost
unfolding sent
store_sends sends = λ ram b at size value. sent_at sends ram b size value (place_of at)
