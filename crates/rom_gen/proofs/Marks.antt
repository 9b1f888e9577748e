-- The first part of the device block: the served marks are set by claims.
use Rattle.std.specs.Prelude.{nat_lt, slice_set}
use Rattle.std.proofs.Common.{◌==◌, Bool, true, false, cond, ◌≡◌, ℕ, ◌+◌, ◌*◌, ◌%◌, ◌<◌, ◌≤◌, List, [], ◌∷◌, length, refl, ap, ◌∙◌, arith}
use Rattle.std.proofs.lemmas.Bool.{lt-ltb}
use Rattle.std.proofs.lemmas.List.{get_or-set_same, length-set}
use Rattle.rv_alu.specs.Bits.{low_bytes}
use Rattle.device_rows.specs.Rows.{row_at}
use Rattle.clint.specs.State.{ClintRegisters}
use Rattle.plic.specs.State.{IsWithinSources, PlicRegisters, context_count}
use Rattle.plic.specs.Layout.{word_at}
use Rattle.plic.specs.Access.{stored as plic_stored, after_load as plic_after}
use Rattle.plic.specs.Claims.{claimed, with_served}
use Rattle.console.specs.State.{levels_of}
use Rattle.console.specs.Layout.{register_at}
use Rattle.console.specs.Access.{stored as console_stored, after_load as console_after}
use Rattle.board_bus.specs.Board.{BoardState, after_load, stored}
use Rattle.board_bus.specs.Listed.{place_of}
use Rattle.rom_gen.proofs.Claims.{claims_mark}

pub priority_first : (b : BoardState) (v : ℕ) → stored b 0xc000004 4 v ≡ record b { plic = record b.plic { priority = slice_set b.plic.priority 0 (low_bytes 4 v % 8) } }
unfolding stored place_of plic_stored word_at row_at
priority_first b v = refl

pub priority_second : (b : BoardState) (v : ℕ) → stored b 0xc000008 4 v ≡ record b { plic = record b.plic { priority = slice_set b.plic.priority 1 (low_bytes 4 v % 8) } }
unfolding stored place_of plic_stored word_at row_at
priority_second b v = refl

pub ctrl_stored : (b : BoardState) (v : ℕ) → stored b 0x10000008 4 v ≡ record b { console = record b.console { ctrl = low_bytes 4 v % 8 } }
unfolding stored place_of console_stored register_at
ctrl_stored b v = refl

pub claim_loaded : (b : BoardState) → 0 < context_count b.plic → after_load b 0xc200004 4 ≡ record b { plic = with_served (claimed b.plic 0 (levels_of b.console)) b.plic }
unfolding after_load place_of plic_after word_at row_at
claim_loaded b some = let low : nat_lt 0x200004 (0x200004 + 0x1000 * context_count b.plic) ≡ true = lt-ltb _ _ (omega arith) in rw low refl

pub data_loaded : (b : BoardState) → after_load b 0x10000000 1 ≡ record b { console = console_after b.console 0 1 }
unfolding after_load place_of
data_loaded b = refl

either_count : (c : Bool) (r q : PlicRegisters) → context_count q ≡ context_count r → context_count (cond c r q) ≡ context_count r
either_count true r q same = refl
either_count false r q same = same

served_count : (s : ℕ) (r : PlicRegisters) → context_count (with_served s r) ≡ context_count r
unfolding with_served
served_count s r = either_count (s == 0) r _ refl

-- two claims, of a controller that has both sources pending, serve the sources that it enables
pub marks_set : (clint : ClintRegisters) (enables thresholds : List ℕ) (m : ℕ) → 0 < length enables → length enables ≤ 16 → IsWithinSources m →
    let b3 : BoardState = record { clint = clint; plic = record { priority = 1 ∷ 1 ∷ []; enable = slice_set enables 0 m; threshold = thresholds; served = 0 }; console = record { queue = 0 ∷ []; ctrl = 7; txaddr = 0 } } in
    after_load (after_load b3 0xc200004 4) 0xc200004 4 ≡ record b3 { plic = record b3.plic { served = m } }
marks_set clint enables thresholds m some most fits =
    let b3 : BoardState = record { clint = clint; plic = record { priority = 1 ∷ 1 ∷ []; enable = slice_set enables 0 m; threshold = thresholds; served = 0 }; console = record { queue = 0 ∷ []; ctrl = 7; txaddr = 0 } } in
    let r : PlicRegisters = b3.plic in
    let count : 0 < length (slice_set enables 0 m) = omega (arith, length-set enables 0 m) in
    let r1 : PlicRegisters = with_served (claimed r 0 6) r in
    let b4 : BoardState = record b3 { plic = r1 } in
    let more : 0 < context_count r1 = omega (arith, count, served_count (claimed r 0 6) r) in
    ap (λ x. after_load x 0xc200004 4) (claim_loaded b3 count) ∙ claim_loaded b4 more ∙ ap (λ p. record b3 { plic = p }) (claims_mark r m fits refl (get_or-set_same enables 0 m 0 some) refl)
