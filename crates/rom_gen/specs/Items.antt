-- The items of a boot ROM: small pieces of work of a hart in debug mode, and the instructions that spell each.
use Rattle.std.specs.Prelude.{◌≡◌, ℕ, ℤ, pos, ◌+◌, ◌<◌, ◌≤◌, ◌%◌, ◌^◌, List, [], ◌∷◌, ◌++◌, length, drop, not, ◌&&◌, Bool, true}
use Rattle.byteorder.specs.Endian.{little_bytes}
use Rattle.rv_alu.specs.Arithmetic.{alu_of, modulo}
use Rattle.rv_alu.specs.declared.BinOp.{BinOp}
use Rattle.rv_decode.specs.declared.Insn.{Insn}
use Rattle.rv_decode.specs.Encode.{encoded}
use Rattle.rv_decode.specs.Ranges.{IsSigned, IsMultiple}
use Rattle.csr_file.specs.Numbers.{is_listed, is_read_only}
use Rattle.board_bus.specs.Listed.{is_listed as is_device}
use Rattle.hart_step.specs.declared.hart.Hart.{Hart}
use Rattle.hart_step.specs.Harts.{is_in_debug, register}
use Rattle.hart_step.specs.Memory.{MemoryState, most_rom, rom_base}
use Rattle.hart_step.specs.Effects.{offset_by}
pub use Rattle.rom_gen.specs.declared.words.Width.{Width}
pub use Rattle.rom_gen.specs.declared.words.Width.TheVariants.{Byte, Word, Double}

-- Put: a register x gets a value. Csr, CsrImm: a control and status register is written with a register x, and with a
-- number below 32. Store, Load: a device register is written with a register x, and read into one; its address is at
-- an offset from a register x. Go: on at the address that a register x has. Leave: out of debug mode
pub data Item : Type 0 where
  Put : ℕ → ℕ → Item
  Csr : ℕ → ℕ → Item
  CsrImm : ℕ → ℕ → Item
  Store : ℕ → ℕ → ℕ → ℤ → Item
  Load : ℕ → ℕ → ℕ → ℤ → Item
  Go : ℕ → Item
  Leave : Item

-- ---- words

-- how many bytes an access has, and the instructions that store so many: the value's register comes after that of the
-- address
abbrev pub size_of : Width → ℕ
size_of Byte = 1
size_of Word = 4
size_of Double = 8

abbrev pub store_insn : Width → ℕ → ℕ → ℤ → Insn
store_insn Byte at r off = Insn.Sb at r off
store_insn Word at r off = Insn.Sw at r off
store_insn Double at r off = Insn.Sd at r off

-- the loads: a byte with zeros above it, and longer values with their sign
abbrev pub load_insn : Width → ℕ → ℕ → ℤ → Insn
load_insn Byte r at off = Insn.Lbu r at off
load_insn Word r at off = Insn.Lw r at off
load_insn Double r at off = Insn.Ld r at off

-- the bytes of instructions one after another
abbrev pub code : List Insn → List ℕ
code [] = []
code (insn ∷ rest) = little_bytes 4 (encoded insn) ++ code rest

-- these bytes stand at place p of a ROM
abbrev pub StandAt : List ℕ → ℕ → List ℕ → Type 0
StandAt bytes p rom = (rest : List ℕ) × (drop p rom ≡ bytes ++ rest)

-- a hart in debug mode that is to execute what stands at place p of a ROM that is no longer than its range; it has 32
-- registers x, and 0 in x0
pub record Stands (memory : MemoryState) (hart : Hart) (p : ℕ) : Type 0 where
  pub debugs : is_in_debug hart ≡ true
  pub at : hart.pc ≡ rom_base + p
  pub nought : register hart 0 ≡ 0
  pub count : length hart.x ≡ 32
  pub small : length memory.rom ≤ most_rom

-- ---- spellings

-- a register that debug mode may write (External Debug Support, "Debug Mode": it may access every register that there
-- is)
unfoldable pub is_writable : ℕ → Bool
is_writable num = is_listed num && not (is_read_only num)

-- the spellings of an item for a hart of a board of n harts, in a block that stands at place block of the ROM
-- (Unprivileged ISA, "Integer Computational Instructions", "Load and Store Instructions", "Zicsr")
pub data Spelled (n : ℕ) (memory : MemoryState) (hart : Hart) (block : ℕ) : Item → List Insn → Type 0 where
  -- addi from x0, where the value is a signed number of twelve bits
  small : (r v : ℕ) (imm : ℤ) → 0 < r → r < 32 → IsSigned 12 imm → modulo 64 imm ≡ v → Spelled n memory hart block (Put r v) (Insn.Addi r 0 imm ∷ [])
  -- lui, where its low twelve bits are 0
  upper : (r v : ℕ) (imm : ℤ) → 0 < r → r < 32 → IsSigned 32 imm → IsMultiple 12 imm → modulo 64 imm ≡ v → Spelled n memory hart block (Put r v) (Insn.Lui r imm ∷ [])
  -- lui and addiw, where it is a signed number of 32 bits
  pair : (r v : ℕ) (high low : ℤ) → 0 < r → r < 32 → IsSigned 32 high → IsMultiple 12 high → IsSigned 12 low → alu_of BinOp.Addw (modulo 64 high) (modulo 64 low) ≡ v → Spelled n memory hart block (Put r v) (Insn.Lui r high ∷ Insn.Addiw r r low ∷ [])
  -- ld from the pool of the block, whose address x1 has
  pooled : (r v off : ℕ) → 0 < r → r < 32 → v < 2 ^ 64 → off < 2048 → (block + off) % 8 ≡ 0 → register hart 1 ≡ rom_base + block → StandAt (little_bytes 8 v) (block + off) memory.rom → Spelled n memory hart block (Put r v) (Insn.Ld r 1 (pos off) ∷ [])
  -- csrrw, csrrwi to x0
  csr : (num r : ℕ) → r < 32 → num < 4096 → is_writable num ≡ true → Spelled n memory hart block (Csr num r) (Insn.Csrrw 0 r num ∷ [])
  csr_imm : (num u : ℕ) → u < 32 → num < 4096 → is_writable num ≡ true → Spelled n memory hart block (CsrImm num u) (Insn.Csrrwi 0 u num ∷ [])
  -- a store or a load of the width, at the address of a device register (each stands at a multiple of its size, below RAM)
  store : (w : Width) (r at : ℕ) (off : ℤ) → r < 32 → at < 32 → IsSigned 12 off → is_device n (offset_by (register hart at) off) (size_of w) ≡ true → Spelled n memory hart block (Store (size_of w) r at off) (store_insn w at r off ∷ [])
  load : (w : Width) (r at : ℕ) (off : ℤ) → 0 < r → r < 32 → at < 32 → IsSigned 12 off → is_device n (offset_by (register hart at) off) (size_of w) ≡ true → Spelled n memory hart block (Load (size_of w) r at off) (load_insn w r at off ∷ [])
  -- jalr to x0
  go : (r : ℕ) → r < 32 → register hart r < 2 ^ 64 → Spelled n memory hart block (Go r) (Insn.Jalr 0 r (pos 0) ∷ [])
  -- dret
  leave : Spelled n memory hart block Leave (Insn.Dret ∷ [])

-- an item with its spelling
pub record Spelling : Type 0 where
  pub item : Item
  pub insns : List Insn

abbrev pub all_insns : List Spelling → List Insn
all_insns [] = []
all_insns (s ∷ rest) = s.insns ++ all_insns rest

-- how many words a list of items has
abbrev pub word_count : List Spelling → ℕ
word_count [] = 0
word_count (s ∷ rest) = length s.insns + word_count rest
