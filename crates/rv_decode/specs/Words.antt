-- The table of instruction words (Unprivileged ISA, "RV32/64G Instruction Set Listings"; Privileged ISA,
-- "RISC-V Privileged Instruction Set Listings"): RV64I, M, A, Zicsr, Zifencei, the privileged and the debug instructions.
use Rattle.std.specs.Prelude.{ℕ, ◌≤◌, Bool, not, ◌&&◌, ◌==◌, List, [], ◌∷◌, ◌++◌, ℤ, Option, Some, None, bit_and, if◌then◌else◌, count_by}
use Rattle.std.specs.List.{list_all}
use Rattle.rv_decode.specs.Immediates.{rd_of, rs1_of, rs2_of, shamt_of, word_shamt_of, csr_of, uimm_of, immediate_i, immediate_s, immediate_b, immediate_u, immediate_j}
use Rattle.rv_decode.specs.declared.Insn.{Insn}

-- A row of a table of words. A word w matches it where w & mask is its value and, for each mask and
-- value of `except`, w & that mask is not that value. A word that matches stands for what `make` gives.
pub record Row : Type 0 where
  pub mask : ℕ
  pub value : ℕ
  pub except : List (ℕ × ℕ)
  pub make : ℕ → Insn

abbrev pub has_bits : ℕ → ℕ → ℕ → Bool
has_bits mask value w = bit_and w mask == value

abbrev pub is_match : Row → ℕ → Bool
is_match row w = list_all (λ e. not (has_bits e.0 e.1 w)) row.except && has_bits row.mask row.value w

-- the instruction of the first row that w matches
abbrev pub decoded_by : List Row → ℕ → Option Insn
decoded_by [] w = None
decoded_by (row ∷ rest) w = if is_match row w then Some (row.make w) else decoded_by rest w

-- ---- rows of each format, from the mask, the value and the instruction's name

-- an upper immediate
abbrev pub row_u : ℕ → ℕ → (ℕ → ℤ → Insn) → Row
row_u m v make = record { mask = m; value = v; except = []; make = λ w. make (rd_of w) (immediate_u w) }

-- a jump
abbrev pub row_j : ℕ → ℕ → (ℕ → ℤ → Insn) → Row
row_j m v make = record { mask = m; value = v; except = []; make = λ w. make (rd_of w) (immediate_j w) }

-- a register and an immediate
abbrev pub row_i : ℕ → ℕ → (ℕ → ℕ → ℤ → Insn) → Row
row_i m v make = record { mask = m; value = v; except = []; make = λ w. make (rd_of w) (rs1_of w) (immediate_i w) }

-- a branch
abbrev pub row_b : ℕ → ℕ → (ℕ → ℕ → ℤ → Insn) → Row
row_b m v make = record { mask = m; value = v; except = []; make = λ w. make (rs1_of w) (rs2_of w) (immediate_b w) }

-- a store
abbrev pub row_s : ℕ → ℕ → (ℕ → ℕ → ℤ → Insn) → Row
row_s m v make = record { mask = m; value = v; except = []; make = λ w. make (rs1_of w) (rs2_of w) (immediate_s w) }

-- a shift by 0 to 63
abbrev pub row_shift : ℕ → ℕ → (ℕ → ℕ → ℕ → Insn) → Row
row_shift m v make = record { mask = m; value = v; except = []; make = λ w. make (rd_of w) (rs1_of w) (shamt_of w) }

-- a shift by 0 to 31
abbrev pub row_word_shift : ℕ → ℕ → (ℕ → ℕ → ℕ → Insn) → Row
row_word_shift m v make = record { mask = m; value = v; except = []; make = λ w. make (rd_of w) (rs1_of w) (word_shamt_of w) }

-- three registers
abbrev pub row_r : ℕ → ℕ → (ℕ → ℕ → ℕ → Insn) → Row
row_r m v make = record { mask = m; value = v; except = []; make = λ w. make (rd_of w) (rs1_of w) (rs2_of w) }

-- a destination and an address
abbrev pub row_reserve : ℕ → ℕ → (ℕ → ℕ → Insn) → Row
row_reserve m v make = record { mask = m; value = v; except = []; make = λ w. make (rd_of w) (rs1_of w) }

-- a control and status register, from a register
abbrev pub row_csr : ℕ → ℕ → (ℕ → ℕ → ℕ → Insn) → Row
row_csr m v make = record { mask = m; value = v; except = []; make = λ w. make (rd_of w) (rs1_of w) (csr_of w) }

-- a control and status register, from an unsigned immediate
abbrev pub row_csr_immediate : ℕ → ℕ → (ℕ → ℕ → ℕ → Insn) → Row
row_csr_immediate m v make = record { mask = m; value = v; except = []; make = λ w. make (rd_of w) (uimm_of w) (csr_of w) }

-- an address and an address space
abbrev pub row_fence : ℕ → ℕ → (ℕ → ℕ → Insn) → Row
row_fence m v make = record { mask = m; value = v; except = []; make = λ w. make (rs1_of w) (rs2_of w) }

-- no field
abbrev pub row_plain : ℕ → ℕ → Insn → Row
row_plain m v make = record { mask = m; value = v; except = []; make = λ _. make }

-- ---- the rows

abbrev pub upper_rows : List Row
upper_rows =
    row_u 0x0000007f 0x00000037 Insn.Lui
    ∷ row_u 0x0000007f 0x00000017 Insn.Auipc
    ∷ []

abbrev pub jump_rows : List Row
jump_rows =
    row_j 0x0000007f 0x0000006f Insn.Jal
    ∷ []

abbrev pub jump_register_rows : List Row
jump_register_rows =
    row_i 0x0000707f 0x00000067 Insn.Jalr
    ∷ []

abbrev pub branch_rows : List Row
branch_rows =
    row_b 0x0000707f 0x00000063 Insn.Beq
    ∷ row_b 0x0000707f 0x00001063 Insn.Bne
    ∷ row_b 0x0000707f 0x00004063 Insn.Blt
    ∷ row_b 0x0000707f 0x00005063 Insn.Bge
    ∷ row_b 0x0000707f 0x00006063 Insn.Bltu
    ∷ row_b 0x0000707f 0x00007063 Insn.Bgeu
    ∷ []

abbrev pub load_rows : List Row
load_rows =
    row_i 0x0000707f 0x00000003 Insn.Lb
    ∷ row_i 0x0000707f 0x00001003 Insn.Lh
    ∷ row_i 0x0000707f 0x00002003 Insn.Lw
    ∷ row_i 0x0000707f 0x00003003 Insn.Ld
    ∷ row_i 0x0000707f 0x00004003 Insn.Lbu
    ∷ row_i 0x0000707f 0x00005003 Insn.Lhu
    ∷ row_i 0x0000707f 0x00006003 Insn.Lwu
    ∷ []

abbrev pub store_rows : List Row
store_rows =
    row_s 0x0000707f 0x00000023 Insn.Sb
    ∷ row_s 0x0000707f 0x00001023 Insn.Sh
    ∷ row_s 0x0000707f 0x00002023 Insn.Sw
    ∷ row_s 0x0000707f 0x00003023 Insn.Sd
    ∷ []

abbrev pub immediate_rows : List Row
immediate_rows =
    row_i 0x0000707f 0x00000013 Insn.Addi
    ∷ row_i 0x0000707f 0x00002013 Insn.Slti
    ∷ row_i 0x0000707f 0x00003013 Insn.Sltiu
    ∷ row_i 0x0000707f 0x00004013 Insn.Xori
    ∷ row_i 0x0000707f 0x00006013 Insn.Ori
    ∷ row_i 0x0000707f 0x00007013 Insn.Andi
    ∷ []

abbrev pub word_immediate_rows : List Row
word_immediate_rows =
    row_i 0x0000707f 0x0000001b Insn.Addiw
    ∷ []

abbrev pub shift_rows : List Row
shift_rows =
    row_shift 0xfc00707f 0x00001013 Insn.Slli
    ∷ row_shift 0xfc00707f 0x00005013 Insn.Srli
    ∷ row_shift 0xfc00707f 0x40005013 Insn.Srai
    ∷ []

abbrev pub word_shift_rows : List Row
word_shift_rows =
    row_word_shift 0xfe00707f 0x0000101b Insn.Slliw
    ∷ row_word_shift 0xfe00707f 0x0000501b Insn.Srliw
    ∷ row_word_shift 0xfe00707f 0x4000501b Insn.Sraiw
    ∷ []

abbrev pub register_rows : List Row
register_rows =
    row_r 0xfe00707f 0x00000033 Insn.Add
    ∷ row_r 0xfe00707f 0x40000033 Insn.Sub
    ∷ row_r 0xfe00707f 0x00001033 Insn.Sll
    ∷ row_r 0xfe00707f 0x00002033 Insn.Slt
    ∷ row_r 0xfe00707f 0x00003033 Insn.Sltu
    ∷ row_r 0xfe00707f 0x00004033 Insn.Xor
    ∷ row_r 0xfe00707f 0x00005033 Insn.Srl
    ∷ row_r 0xfe00707f 0x40005033 Insn.Sra
    ∷ row_r 0xfe00707f 0x00006033 Insn.Or
    ∷ row_r 0xfe00707f 0x00007033 Insn.And
    ∷ []

abbrev pub word_register_rows : List Row
word_register_rows =
    row_r 0xfe00707f 0x0000003b Insn.Addw
    ∷ row_r 0xfe00707f 0x4000003b Insn.Subw
    ∷ row_r 0xfe00707f 0x0000103b Insn.Sllw
    ∷ row_r 0xfe00707f 0x0000503b Insn.Srlw
    ∷ row_r 0xfe00707f 0x4000503b Insn.Sraw
    ∷ []

abbrev pub product_rows : List Row
product_rows =
    row_r 0xfe00707f 0x02000033 Insn.Mul
    ∷ row_r 0xfe00707f 0x02001033 Insn.Mulh
    ∷ row_r 0xfe00707f 0x02002033 Insn.Mulhsu
    ∷ row_r 0xfe00707f 0x02003033 Insn.Mulhu
    ∷ row_r 0xfe00707f 0x02004033 Insn.Div
    ∷ row_r 0xfe00707f 0x02005033 Insn.Divu
    ∷ row_r 0xfe00707f 0x02006033 Insn.Rem
    ∷ row_r 0xfe00707f 0x02007033 Insn.Remu
    ∷ []

abbrev pub word_product_rows : List Row
word_product_rows =
    row_r 0xfe00707f 0x0200003b Insn.Mulw
    ∷ row_r 0xfe00707f 0x0200403b Insn.Divw
    ∷ row_r 0xfe00707f 0x0200503b Insn.Divuw
    ∷ row_r 0xfe00707f 0x0200603b Insn.Remw
    ∷ row_r 0xfe00707f 0x0200703b Insn.Remuw
    ∷ []

abbrev pub fence_rows : List Row
fence_rows =
    row_plain 0x0000707f 0x0000000f Insn.Fence
    ∷ row_plain 0x0000707f 0x0000100f Insn.FenceI
    ∷ []

abbrev pub csr_rows : List Row
csr_rows =
    row_csr 0x0000707f 0x00001073 Insn.Csrrw
    ∷ row_csr 0x0000707f 0x00002073 Insn.Csrrs
    ∷ row_csr 0x0000707f 0x00003073 Insn.Csrrc
    ∷ []

abbrev pub csr_immediate_rows : List Row
csr_immediate_rows =
    row_csr_immediate 0x0000707f 0x00005073 Insn.Csrrwi
    ∷ row_csr_immediate 0x0000707f 0x00006073 Insn.Csrrsi
    ∷ row_csr_immediate 0x0000707f 0x00007073 Insn.Csrrci
    ∷ []

abbrev pub system_rows : List Row
system_rows =
    row_plain 0xffffffff 0x00000073 Insn.Ecall
    ∷ row_plain 0xffffffff 0x00100073 Insn.Ebreak
    ∷ row_plain 0xffffffff 0x10200073 Insn.Sret
    ∷ row_plain 0xffffffff 0x30200073 Insn.Mret
    ∷ row_plain 0xffffffff 0x10500073 Insn.Wfi
    ∷ row_plain 0xffffffff 0x7b200073 Insn.Dret
    ∷ []

abbrev pub sfence_rows : List Row
sfence_rows =
    row_fence 0xfe007fff 0x12000073 Insn.SfenceVma
    ∷ []

abbrev pub reserve_rows : List Row
reserve_rows =
    row_reserve 0xf9f0707f 0x1000202f Insn.LrW
    ∷ row_reserve 0xf9f0707f 0x1000302f Insn.LrD
    ∷ []

abbrev pub atomic_word_rows : List Row
atomic_word_rows =
    row_r 0xf800707f 0x1800202f Insn.ScW
    ∷ row_r 0xf800707f 0x0800202f Insn.AmoswapW
    ∷ row_r 0xf800707f 0x0000202f Insn.AmoaddW
    ∷ row_r 0xf800707f 0x2000202f Insn.AmoxorW
    ∷ row_r 0xf800707f 0x6000202f Insn.AmoandW
    ∷ row_r 0xf800707f 0x4000202f Insn.AmoorW
    ∷ row_r 0xf800707f 0x8000202f Insn.AmominW
    ∷ row_r 0xf800707f 0xa000202f Insn.AmomaxW
    ∷ row_r 0xf800707f 0xc000202f Insn.AmominuW
    ∷ row_r 0xf800707f 0xe000202f Insn.AmomaxuW
    ∷ []

abbrev pub atomic_double_rows : List Row
atomic_double_rows =
    row_r 0xf800707f 0x1800302f Insn.ScD
    ∷ row_r 0xf800707f 0x0800302f Insn.AmoswapD
    ∷ row_r 0xf800707f 0x0000302f Insn.AmoaddD
    ∷ row_r 0xf800707f 0x2000302f Insn.AmoxorD
    ∷ row_r 0xf800707f 0x6000302f Insn.AmoandD
    ∷ row_r 0xf800707f 0x4000302f Insn.AmoorD
    ∷ row_r 0xf800707f 0x8000302f Insn.AmominD
    ∷ row_r 0xf800707f 0xa000302f Insn.AmomaxD
    ∷ row_r 0xf800707f 0xc000302f Insn.AmominuD
    ∷ row_r 0xf800707f 0xe000302f Insn.AmomaxuD
    ∷ []

unfoldable pub rows : List Row
rows = upper_rows
    ++ jump_rows
    ++ jump_register_rows
    ++ branch_rows
    ++ load_rows
    ++ store_rows
    ++ immediate_rows
    ++ word_immediate_rows
    ++ shift_rows
    ++ word_shift_rows
    ++ register_rows
    ++ word_register_rows
    ++ product_rows
    ++ word_product_rows
    ++ fence_rows
    ++ csr_rows
    ++ csr_immediate_rows
    ++ system_rows
    ++ sfence_rows
    ++ reserve_rows
    ++ atomic_word_rows
    ++ atomic_double_rows

-- the instruction that a 32-bit word stands for
unfoldable pub decoded : ℕ → Option Insn
decoded w = decoded_by rows w

-- how many rows a word matches
unfoldable pub match_count : ℕ → ℕ
match_count w = count_by (λ row. is_match row w) rows

-- at most one row matches any word
abbrev pub OneRow : Type 0
OneRow = (w : ℕ) → match_count w ≤ 1
