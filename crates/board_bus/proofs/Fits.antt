-- What every change of the board keeps: it stays well formed, and serves as many harts.
use Rattle.std.proofs.Common.{◌≡◌, ℕ, ◌*◌, ◌<◌, ◌≤◌, refl, sym, ap, ◌∙◌}
use Rattle.clint.proofs.Fits as clint
use Rattle.clint.proofs.Harts.{stored_harts}
use Rattle.plic.proofs.Fits as plic
use Rattle.plic.specs.State.{PlicRegisters}
use Rattle.console.proofs.Fits as console
use Rattle.console.specs.State.{levels_of}
use Rattle.board_bus.specs.Board.{BoardState, IsFit, after_load, after_load_in, entered, hart_count, reset_board, stored, stored_in, ticked}
use Rattle.board_bus.specs.Listed.{place_of}
use Rattle.board_bus.specs.declared.place.Place.{Place}
use Rattle.board_bus.specs.declared.place.Place.TheVariants.{Clint, Plic, Console, Nowhere}

pub record Stays (before after : BoardState) : Type 0 where
  pub fit : IsFit after
  pub harts : hart_count after ≡ hart_count before

pub same : (b : BoardState) → IsFit b → Stays b b
same b fit = record { fit = fit; harts = refl }

-- other registers of the interrupt controller, for as many contexts
with_plic : (b : BoardState) → IsFit b → (r : PlicRegisters) → plic.Stays b.plic r → Stays b (record b { plic = r })
with_plic b fit r stays = record {
  fit = record { clint = fit.clint; plic = stays.fit; console = fit.console; contexts = stays.contexts ∙ fit.contexts };
  harts = refl;
}

-- ---- loads and stores

load_in : (b : BoardState) → IsFit b → (size : ℕ) (place : Place) → Stays b (after_load_in b size place)
load_in b fit size (Clint off) = same b fit
load_in b fit size (Plic off) = with_plic b fit _ (plic.loads_stay b.plic fit.plic off size (levels_of b.console))
load_in b fit size (Console off) = record {
  fit = record { clint = fit.clint; plic = fit.plic; console = console.loads_stay b.console fit.console off size; contexts = fit.contexts };
  harts = refl;
}
load_in b fit size Nowhere = same b fit

pub loads_stay : (b : BoardState) → IsFit b → (at size : ℕ) → Stays b (after_load b at size)
unfolding after_load
loads_stay b fit at size = load_in b fit size (place_of at)

store_in : (b : BoardState) → IsFit b → (size value : ℕ) (place : Place) → Stays b (stored_in b size value place)
store_in b fit size value (Clint off) =
    let harts = stored_harts b.clint off size value in
    record {
      fit = record { clint = clint.stores_stay b.clint fit.clint off size value; plic = fit.plic; console = fit.console; contexts = fit.contexts ∙ ap (λ (n : ℕ). 2 * n) (sym harts) };
      harts = harts;
    }
store_in b fit size value (Plic off) = with_plic b fit _ (plic.stores_stay b.plic fit.plic off size value)
store_in b fit size value (Console off) = record {
  fit = record { clint = fit.clint; plic = fit.plic; console = console.stores_stay b.console fit.console off size value; contexts = fit.contexts };
  harts = refl;
}
store_in b fit size value Nowhere = same b fit

pub stores_stay : (b : BoardState) → IsFit b → (at size value : ℕ) → Stays b (stored b at size value)
unfolding stored
stores_stay b fit at size value = store_in b fit size value (place_of at)

-- ---- time, input and reset

pub ticks_stay : (b : BoardState) → IsFit b → Stays b (ticked b)
ticks_stay b fit = record {
  fit = record { clint = clint.ticks_stay b.clint fit.clint; plic = fit.plic; console = fit.console; contexts = fit.contexts };
  harts = refl;
}

pub enters_stay : (b : BoardState) → IsFit b → (byte : ℕ) → byte < 256 → Stays b (entered b byte)
enters_stay b fit byte below = record {
  fit = record { clint = fit.clint; plic = fit.plic; console = console.enters_fit b.console fit.console byte below; contexts = fit.contexts };
  harts = refl;
}

pub reset_fits : (harts : ℕ) → 0 < harts → harts ≤ 8 → IsFit (reset_board harts)
unfolding reset_board
reset_fits harts some most = record {
  clint = clint.reset_fits harts some most;
  plic = plic.reset_fits harts some most;
  console = console.reset_fits;
  contexts = plic.reset_contexts harts ∙ ap (λ (n : ℕ). 2 * n) (sym (clint.reset_harts harts));
}

pub reset_harts : (harts : ℕ) → hart_count (reset_board harts) ≡ harts
unfolding reset_board
reset_harts harts = clint.reset_harts harts
