-- Every byte of a ROM is below 256.
use Rattle.std.specs.Int.{byte_at, bytes_low_first}
use Rattle.std.proofs.Common.{ℕ, zero, suc, ◌+◌, ◌/◌, ◌^◌, ◌<◌, List, [], ◌∷◌, ◌++◌, arith}
use Rattle.std.proofs.lemmas.List.Elements.{All-append}
use Rattle.byteorder.specs.Endian.{little_bytes}
use Rattle.rv_decode.specs.declared.Insn.{Insn}
use Rattle.rv_decode.specs.Encode.{encoded}
use Rattle.board_bus.specs.Board.{BoardState}
use Rattle.hart_step.specs.declared.hart.Hart.{Hart}
use Rattle.hart_step.specs.Fit.{AreBytes}
use Rattle.hart_step.specs.Memory.{rom_base}
use Rattle.rom_gen.specs.Items.{Spelling, all_insns, code}
use Rattle.rom_gen.specs.Wants.{pool}
use Rattle.rom_gen.specs.Rom.{addresses, all_blocks, block_bytes, block_words, device_bytes, device_items, device_values, dispatch_bytes, dispatch_insns, first_place, hart_bytes, hart_items, hart_values, padding, pool_place, rom_bytes, start_places, table}

both : (front back : List ℕ) → AreBytes front → AreBytes back → AreBytes (front ++ back)
both front back first second = All-append (λ b. b < 256) front back first second

none : AreBytes []
none i d within = absurd (omega arith)

next_byte : (x : ℕ) (rest : List ℕ) → x < 256 → AreBytes rest → AreBytes (x ∷ rest)
next_byte x rest below others zero d within = below
next_byte x rest below others (suc i) d within = others i d (omega arith)

below_256 : (i v : ℕ) → byte_at i v < 256
below_256 zero v = omega arith
below_256 (suc i) v = let q : ℕ = v / 256 ^ suc i in omega arith

number_bytes : (i k v : ℕ) → AreBytes (bytes_low_first i k v)
number_bytes i zero v = none
number_bytes i (suc k) v = next_byte (byte_at i v) (bytes_low_first (suc i) k v) (below_256 i v) (number_bytes (suc i) k v)

code_bytes : (insns : List Insn) → AreBytes (code insns)
code_bytes [] = none
code_bytes (insn ∷ rest) = both (little_bytes 4 (encoded insn)) (code rest) (number_bytes 0 4 (encoded insn)) (code_bytes rest)

pool_bytes : (values : List ℕ) → AreBytes (pool values)
pool_bytes [] = none
pool_bytes (v ∷ rest) = both (little_bytes 8 v) (pool rest) (number_bytes 0 8 v) (pool_bytes rest)

table_bytes : (starts : List ℕ) → AreBytes (table starts)
unfolding table
table_bytes [] = none
table_bytes (start ∷ rest) = both (little_bytes 8 start) (table rest) (number_bytes 0 8 start) (table_bytes rest)

block_fits : (items : ℕ → List Spelling) (last : Insn) (values : List ℕ) → AreBytes (block_bytes items last values)
block_fits items last values =
    let front : List Insn = all_insns (items (pool_place items)) in
    both (code front ++ code (last ∷ [])) (code (padding (block_words items)) ++ pool values)
    (both (code front) (code (last ∷ [])) (code_bytes front) (code_bytes (last ∷ [])))
    (both (code (padding (block_words items))) (pool values) (code_bytes (padding (block_words items))) (pool_bytes values))

device_fits : (board : BoardState) (next : ℕ) → AreBytes (device_bytes board next)
unfolding device_bytes
device_fits board next = block_fits (λ off. device_items off board next) _ (device_values board)

hart_fits : (target : Hart) → AreBytes (hart_bytes target)
unfolding hart_bytes
hart_fits target = block_fits (hart_items target) _ (hart_values target)

blocks_fit : (harts : List Hart) → AreBytes (all_blocks harts)
unfolding all_blocks
blocks_fit [] = none
blocks_fit (target ∷ rest) = both (hart_bytes target) (all_blocks rest) (hart_fits target) (blocks_fit rest)

dispatch_fits : (starts : List ℕ) → AreBytes (dispatch_bytes starts)
unfolding dispatch_bytes
dispatch_fits starts = both (code dispatch_insns) (table starts) (code_bytes dispatch_insns) (table_bytes starts)

pub rom_bytes_fit : (board : BoardState) (harts : List Hart) → AreBytes (rom_bytes board harts)
rom_bytes_fit board harts =
    let device : List ℕ = device_bytes board (rom_base + first_place board harts) in
    both (dispatch_bytes (addresses (start_places board harts))) (device ++ all_blocks harts)
    (dispatch_fits (addresses (start_places board harts)))
    (both device (all_blocks harts) (device_fits board (rom_base + first_place board harts)) (blocks_fit harts))
