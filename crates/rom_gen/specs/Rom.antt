-- The bytes of the boot ROM that puts a machine back: the dispatch with its table of addresses, the block of the
-- devices, and the blocks of the harts in order of number.
use Rattle.std.specs.Prelude.{ℕ, pos, ◌+◌, ◌*◌, ◌%◌, ◌==◌, if◌then◌else◌, List, [], ◌∷◌, ◌++◌, length, map, slice_index, slice_set}
use Rattle.byteorder.specs.Endian.{little_bytes}
use Rattle.rv_decode.specs.declared.Insn.{Insn}
use Rattle.board_bus.specs.Board.{BoardState}
use Rattle.hart_step.specs.declared.hart.Hart.{Hart}
use Rattle.hart_step.specs.Memory.{rom_base}
use Rattle.rom_gen.specs.Items.{Put, Spelling, all_insns, code, word_count}
use Rattle.rom_gen.specs.HartWants.{first_wants}
use Rattle.rom_gen.specs.Wants.{Reg, all_values, high_part, low_part, placed, pool, want_items, want_values}
use Rattle.rom_gen.specs.Deeds.{all_deed_values, placed_deeds}
use Rattle.rom_gen.specs.DeviceBlock.{device_deeds}

-- ---- a block: the code of its items and one more instruction, a word that does nothing where their number is odd, and
-- the pool of its values. The place of the pool stands in the code, whose length does not hang on it

abbrev pub rounded : ℕ → ℕ
rounded n = n + n % 2

abbrev pub padding : ℕ → List Insn
padding n = if n % 2 == 0 then [] else Insn.Addi 0 0 (pos 0) ∷ []

abbrev pub block_words : (ℕ → List Spelling) → ℕ
block_words items = word_count (items 0) + 1

abbrev pub pool_place : (ℕ → List Spelling) → ℕ
pool_place items = 4 * rounded (block_words items)

abbrev pub block_bytes : (ℕ → List Spelling) → Insn → List ℕ → List ℕ
block_bytes items last values = (code (all_insns (items (pool_place items))) ++ code (last ∷ [])) ++ (code (padding (block_words items)) ++ pool values)

abbrev pub block_size : (ℕ → List Spelling) → List ℕ → ℕ
block_size items values = pool_place items + 8 * length values

-- ---- the block of a hart, whose pool begins at the offset off: x1 comes last, and then dret

abbrev pub hart_items : Hart → ℕ → List Spelling
hart_items target off = placed want_items want_values off (first_wants target) ++ want_items (off + 8 * length (all_values want_values (first_wants target))) (Reg 1 (slice_index target.x 1))

abbrev pub hart_values : Hart → List ℕ
hart_values target = all_values want_values (first_wants target) ++ want_values (Reg 1 (slice_index target.x 1))

unfoldable pub hart_bytes : Hart → List ℕ
hart_bytes target = block_bytes (hart_items target) Insn.Dret (hart_values target)

unfoldable pub hart_size : Hart → ℕ
hart_size target = block_size (hart_items target) (hart_values target)

-- ---- the block of the devices, which goes on at an address

-- lui and addiw, also where one of the two would do, so that the length does not hang on the address
abbrev pub far_insns : ℕ → List Insn
far_insns v = Insn.Lui 1 (high_part v) ∷ Insn.Addiw 1 1 (low_part v) ∷ []

abbrev pub device_items : ℕ → BoardState → ℕ → List Spelling
device_items off board next = placed_deeds off (device_deeds board) ++ record { item = Put 1 next; insns = far_insns next } ∷ []

abbrev pub device_values : BoardState → List ℕ
device_values board = all_deed_values (device_deeds board)

unfoldable pub device_bytes : BoardState → ℕ → List ℕ
device_bytes board next = block_bytes (λ off. device_items off board next) (Insn.Jalr 0 1 (pos 0)) (device_values board)

unfoldable pub device_size : BoardState → ℕ
device_size board = block_size (λ off. device_items off board 0) (device_values board)

-- ---- the dispatch: a hart goes on at the address that stands in the table at its number

abbrev pub dispatch_insns : List Insn
dispatch_insns = Insn.Auipc 1 (pos 0) ∷ Insn.Csrrs 2 0 0xf14 ∷ Insn.Slli 2 2 3 ∷ Insn.Add 1 1 2 ∷ Insn.Ld 1 1 (pos 24) ∷ Insn.Jalr 0 1 (pos 0) ∷ []

unfoldable pub table : List ℕ → List ℕ
table [] = []
table (start ∷ rest) = little_bytes 8 start ++ table rest

unfoldable pub dispatch_bytes : List ℕ → List ℕ
dispatch_bytes starts = code dispatch_insns ++ table starts

-- ---- the whole

-- where the block of each hart begins, from the first one's place on
unfoldable pub block_places : ℕ → List Hart → List ℕ
block_places place [] = []
block_places place (target ∷ rest) = place ∷ block_places (place + hart_size target) rest

unfoldable pub all_blocks : List Hart → List ℕ
all_blocks [] = []
all_blocks (target ∷ rest) = hart_bytes target ++ all_blocks rest

abbrev pub device_place : List Hart → ℕ
device_place harts = 24 + 8 * length harts

abbrev pub first_place : BoardState → List Hart → ℕ
first_place board harts = device_place harts + device_size board

-- where each hart goes on: hart 0 at the block of the devices, which leads to its own
abbrev pub start_places : BoardState → List Hart → List ℕ
start_places board harts = slice_set (block_places (first_place board harts) harts) 0 (device_place harts)

abbrev pub addresses : List ℕ → List ℕ
addresses places = map (λ place. rom_base + place) places

abbrev pub rom_bytes : BoardState → List Hart → List ℕ
rom_bytes board harts = dispatch_bytes (addresses (start_places board harts)) ++ (device_bytes board (rom_base + first_place board harts) ++ all_blocks harts)
