-- What a register answers to a load has as many bytes as were asked for.
use Rattle.std.proofs.Common.{ℕ, ◌^◌, ◌<◌, unwrap_or}
use Rattle.rv_alu.proofs.Bytes.{some_power}
use Rattle.clint.proofs.Loaded as clint
use Rattle.plic.proofs.Loaded as plic
use Rattle.console.proofs.Loaded as console
use Rattle.console.specs.State.{levels_of}
use Rattle.board_bus.specs.Board.{BoardState, IsFit, loaded, loaded_in}
use Rattle.board_bus.specs.Laws.{LoadsFit}
use Rattle.board_bus.specs.Listed.{place_of}
use Rattle.board_bus.specs.declared.place.Place.{Place}
use Rattle.board_bus.specs.declared.place.Place.TheVariants.{Clint, Plic, Console, Nowhere}

in_place : (b : BoardState) → IsFit b → (size : ℕ) (place : Place) → unwrap_or (loaded_in b size place) 0 < 256 ^ size
in_place b fit size (Clint off) = clint.loads_fit b.clint fit.clint off size
in_place b fit size (Plic off) = plic.loads_fit b.plic fit.plic off size (levels_of b.console)
in_place b fit size (Console off) = console.loads_fit b.console fit.console off size
in_place b fit size Nowhere = some_power size

pub loads_fit_lem : LoadsFit
unfolding loaded
loads_fit_lem b fit at size = in_place b fit size (place_of at)
