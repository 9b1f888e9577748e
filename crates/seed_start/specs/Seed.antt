-- The machine and the program that a seed stands for. Both are this project's own.
use Rattle.std.specs.Prelude.{ℕ, zero, suc, ◌+◌, ◌*◌, ◌/◌, ◌%◌, ◌^◌, ◌==◌, List, [], ◌∷◌, ◌++◌, pos, neg_ℤ, if◌then◌else◌}
use Rattle.byteorder.specs.Endian.{little_bytes}
use Rattle.guest_ram.specs.Bytes.{base}
use Rattle.csr_file.specs.Numbers.{csr_mhartid}
use Rattle.rv_decode.specs.declared.Insn.{Insn}
use Rattle.rv_decode.specs.Encode.{encoded}
use Rattle.sim_config.specs.declared.values.Shape.{Shape}
use Rattle.machine_start.specs.declared.start.Start.{Start}
use Rattle.machine_start.specs.Start.{flat_ram, image_ram}

-- ---- the generator

-- the number after a number: a linear congruential generator modulo 2^64
abbrev pub next_state : ℕ → ℕ
next_state s = (s * 6364136223846793005 + 1442695040888963407) % 2 ^ 64

-- the numbers from the seed on
unfoldable pub state_of : ℕ → ℕ → ℕ
state_of seed zero = seed
state_of seed (suc i) = next_state (state_of seed i)

-- one of so many, drawn from a number by its bits from a place up
abbrev pub drawn : ℕ → ℕ → ℕ → ℕ
drawn s place many = s / 2 ^ place % many

-- one of the registers x1 to x15
abbrev pub register : ℕ → ℕ → ℕ
register s place = 1 + drawn s place 15

-- ---- the program

-- x28 is the address of the program, x29 that of the data behind it, x30 that of the console, and x1 the hart's number
abbrev pub opening : List Insn
opening = Insn.Auipc 28 (pos 0) ∷ Insn.Addi 29 28 (pos 1024) ∷ Insn.Lui 30 (pos 0x10000000) ∷ Insn.Csrrs 1 0 csr_mhartid ∷ []

-- an instruction of one of eight kinds, over the registers a, b and c and the number j
abbrev pub insn_by : ℕ → ℕ → ℕ → ℕ → ℕ → Insn
insn_by kind a b c j =
    if kind == 0 then Insn.Add c a b
    else if kind == 1 then Insn.Xor c a b
    else if kind == 2 then Insn.Mul c a b
    else if kind == 3 then Insn.Addi c a (pos j)
    else if kind == 4 then Insn.Sd 29 a (pos (8 * j))
    else if kind == 5 then Insn.Ld c 29 (pos (8 * j))
    else if kind == 6 then Insn.AmoaddD c 29 b
    else Insn.Sb 30 a (pos 0)

-- the instruction that is drawn at a number of the generator
abbrev pub drawn_insn : ℕ → Insn
drawn_insn s = insn_by (drawn s 32 8) (register s 8) (register s 16) (register s 24) (drawn s 40 128)

-- the first n of the drawn instructions
unfoldable pub drawn_insns : ℕ → ℕ → List Insn
drawn_insns seed zero = []
drawn_insns seed (suc n) = drawn_insns seed n ++ (drawn_insn (state_of seed n) ∷ [])

-- it goes back to the first of the drawn instructions
abbrev pub closing : List Insn
closing = Insn.Jal 0 (neg_ℤ (pos 800)) ∷ []

abbrev pub program_of : ℕ → List Insn
program_of seed = opening ++ (drawn_insns seed 200 ++ closing)

-- the bytes of instructions one after another
unfoldable pub image_of : List Insn → List ℕ
image_of [] = []
image_of (insn ∷ rest) = little_bytes 4 (encoded insn) ++ image_of rest

-- ---- the machine

-- 1 to 8 harts, 1 to 16 steps in a turn, and no host window
abbrev pub shape_of : ℕ → Shape
shape_of seed = record { harts = 1 + seed % 8; ram = flat_ram; slice = 1 + seed / 8 % 16; tohost = 0 }

-- the program at the start of the memory, with zeros after it, and its first instruction as the entry
abbrev pub start_of_seed : ℕ → Start
start_of_seed seed = record { shape = shape_of seed; ram = image_ram (image_of (program_of seed)); entry = base }
