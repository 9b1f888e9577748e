-- The compressed forms: the instruction that each 16-bit word c stands for, and its 32-bit word
-- (Unprivileged ISA, "C" extension, "RVC Instruction Set Listings" for RV64, without the floating-point forms).
use Rattle.std.specs.Prelude.{ℕ, ◌+◌, ◌*◌, ◌^◌, ◌≤◌, ◌==◌, List, [], ◌∷◌, ◌++◌, ℤ, pos, Option, bit_and, count_by}
use Rattle.std.specs.List.{filter}
use Rattle.std.specs.Option.{option_and_then, option_map}
use Rattle.rv_alu.specs.Arithmetic.{bits_of, signed}
use Rattle.rv_decode.specs.Encode.{encoded}
use Rattle.rv_decode.specs.Words.{Row, decoded, decoded_by, is_match}
use Rattle.rv_decode.specs.declared.Insn.{Insn}

-- ---- registers: far ones are any of x0 to x31, near ones x8 to x15

-- bits 11:7, which are rd, rs1 or both
abbrev pub far_rd : ℕ → ℕ
far_rd c = bits_of c 7 5

-- bits 6:2
abbrev pub far_rs2 : ℕ → ℕ
far_rs2 c = bits_of c 2 5

-- bits 9:7, which are rs1, or rd and rs1
abbrev pub near_rs1 : ℕ → ℕ
near_rs1 c = 8 + bits_of c 7 3

-- bits 4:2, where a form reads a second register
abbrev pub near_rs2 : ℕ → ℕ
near_rs2 c = 8 + bits_of c 2 3

-- bits 4:2, where a form writes a register
abbrev pub near_rd : ℕ → ℕ
near_rd c = 8 + bits_of c 2 3

-- ---- immediates, by the bits of the word and the places of the immediate that they hold

-- 12 = 5, 6:2 = 4:0
abbrev pub shift_amount : ℕ → ℕ
shift_amount c = bits_of c 12 1 * 2 ^ 5 + bits_of c 2 5

-- 12:5 = 5:4, 9:6, 2, 3
abbrev pub addi4spn_immediate : ℕ → ℤ
addi4spn_immediate c = pos (bits_of c 11 2 * 2 ^ 4 + bits_of c 7 4 * 2 ^ 6 + bits_of c 6 1 * 2 ^ 2 + bits_of c 5 1 * 2 ^ 3)

-- 12:10 = 5:3, 6 = 2, 5 = 6
abbrev pub load_word_immediate : ℕ → ℤ
load_word_immediate c = pos (bits_of c 10 3 * 2 ^ 3 + bits_of c 6 1 * 2 ^ 2 + bits_of c 5 1 * 2 ^ 6)

-- 12:10 = 5:3, 6:5 = 7:6
abbrev pub load_double_immediate : ℕ → ℤ
load_double_immediate c = pos (bits_of c 10 3 * 2 ^ 3 + bits_of c 5 2 * 2 ^ 6)

-- 12 = 5, 6:2 = 4:0, with a sign
abbrev pub short_immediate : ℕ → ℤ
short_immediate c = signed 6 (bits_of c 12 1 * 2 ^ 5 + bits_of c 2 5)

-- 12 = 9, 6 = 4, 5 = 6, 4:3 = 8:7, 2 = 5, with a sign
abbrev pub addi16sp_immediate : ℕ → ℤ
addi16sp_immediate c = signed 10 (bits_of c 12 1 * 2 ^ 9 + bits_of c 6 1 * 2 ^ 4 + bits_of c 5 1 * 2 ^ 6 + bits_of c 3 2 * 2 ^ 7 + bits_of c 2 1 * 2 ^ 5)

-- 12 = 17, 6:2 = 16:12, with a sign
abbrev pub upper_immediate : ℕ → ℤ
upper_immediate c = signed 18 (bits_of c 12 1 * 2 ^ 17 + bits_of c 2 5 * 2 ^ 12)

-- 12:2 = 11, 4, 9:8, 10, 6, 7, 3:1, 5, with a sign
abbrev pub jump_immediate : ℕ → ℤ
jump_immediate c = signed 12 (bits_of c 12 1 * 2 ^ 11 + bits_of c 11 1 * 2 ^ 4 + bits_of c 9 2 * 2 ^ 8 + bits_of c 8 1 * 2 ^ 10 + bits_of c 7 1 * 2 ^ 6 + bits_of c 6 1 * 2 ^ 7 + bits_of c 3 3 * 2 ^ 1 + bits_of c 2 1 * 2 ^ 5)

-- 12:10 = 8, 4:3, 6:2 = 7:6, 2:1, 5, with a sign
abbrev pub branch_immediate : ℕ → ℤ
branch_immediate c = signed 9 (bits_of c 12 1 * 2 ^ 8 + bits_of c 10 2 * 2 ^ 3 + bits_of c 5 2 * 2 ^ 6 + bits_of c 3 2 * 2 ^ 1 + bits_of c 2 1 * 2 ^ 5)

-- 12 = 5, 6:4 = 4:2, 3:2 = 7:6
abbrev pub lwsp_immediate : ℕ → ℤ
lwsp_immediate c = pos (bits_of c 12 1 * 2 ^ 5 + bits_of c 4 3 * 2 ^ 2 + bits_of c 2 2 * 2 ^ 6)

-- 12 = 5, 6:5 = 4:3, 4:2 = 8:6
abbrev pub ldsp_immediate : ℕ → ℤ
ldsp_immediate c = pos (bits_of c 12 1 * 2 ^ 5 + bits_of c 5 2 * 2 ^ 3 + bits_of c 2 3 * 2 ^ 6)

-- 12:9 = 5:2, 8:7 = 7:6
abbrev pub swsp_immediate : ℕ → ℤ
swsp_immediate c = pos (bits_of c 9 4 * 2 ^ 2 + bits_of c 7 2 * 2 ^ 6)

-- 12:10 = 5:3, 9:7 = 8:6
abbrev pub sdsp_immediate : ℕ → ℤ
sdsp_immediate c = pos (bits_of c 10 3 * 2 ^ 3 + bits_of c 7 3 * 2 ^ 6)

-- ---- the forms. An exception is a word that the manual reserves or gives to another form: a register
-- that is not to be x0 or x2, or an immediate that is not to be zero.

-- a form, from its mask, its value, its exceptions and its instruction
abbrev pub form : ℕ → ℕ → List (ℕ × ℕ) → (ℕ → Insn) → Row
form m v reserved made = record { mask = m; value = v; except = reserved; make = made }

abbrev pub quadrant_0 : List Row
quadrant_0 =
    -- c.addi4spn
    form 0xe003 0x0000 ((0x1fe0, 0) ∷ []) (λ c. Insn.Addi (near_rd c) 2 (addi4spn_immediate c))
    -- c.lw
    ∷ form 0xe003 0x4000 [] (λ c. Insn.Lw (near_rd c) (near_rs1 c) (load_word_immediate c))
    -- c.ld
    ∷ form 0xe003 0x6000 [] (λ c. Insn.Ld (near_rd c) (near_rs1 c) (load_double_immediate c))
    -- c.sw
    ∷ form 0xe003 0xc000 [] (λ c. Insn.Sw (near_rs1 c) (near_rs2 c) (load_word_immediate c))
    -- c.sd
    ∷ form 0xe003 0xe000 [] (λ c. Insn.Sd (near_rs1 c) (near_rs2 c) (load_double_immediate c))
    ∷ []

abbrev pub quadrant_1 : List Row
quadrant_1 =
    -- c.addi
    form 0xe003 0x0001 [] (λ c. Insn.Addi (far_rd c) (far_rd c) (short_immediate c))
    -- c.addiw
    ∷ form 0xe003 0x2001 ((0xf80, 0) ∷ []) (λ c. Insn.Addiw (far_rd c) (far_rd c) (short_immediate c))
    -- c.li
    ∷ form 0xe003 0x4001 [] (λ c. Insn.Addi (far_rd c) 0 (short_immediate c))
    -- c.addi16sp
    ∷ form 0xef83 0x6101 ((0x107c, 0) ∷ []) (λ c. Insn.Addi 2 2 (addi16sp_immediate c))
    -- c.lui
    ∷ form 0xe003 0x6001 ((0xf80, 0x100) ∷ (0x107c, 0) ∷ []) (λ c. Insn.Lui (far_rd c) (upper_immediate c))
    -- c.srli
    ∷ form 0xec03 0x8001 [] (λ c. Insn.Srli (near_rs1 c) (near_rs1 c) (shift_amount c))
    -- c.srai
    ∷ form 0xec03 0x8401 [] (λ c. Insn.Srai (near_rs1 c) (near_rs1 c) (shift_amount c))
    -- c.andi
    ∷ form 0xec03 0x8801 [] (λ c. Insn.Andi (near_rs1 c) (near_rs1 c) (short_immediate c))
    -- c.sub
    ∷ form 0xfc63 0x8c01 [] (λ c. Insn.Sub (near_rs1 c) (near_rs1 c) (near_rs2 c))
    -- c.xor
    ∷ form 0xfc63 0x8c21 [] (λ c. Insn.Xor (near_rs1 c) (near_rs1 c) (near_rs2 c))
    -- c.or
    ∷ form 0xfc63 0x8c41 [] (λ c. Insn.Or (near_rs1 c) (near_rs1 c) (near_rs2 c))
    -- c.and
    ∷ form 0xfc63 0x8c61 [] (λ c. Insn.And (near_rs1 c) (near_rs1 c) (near_rs2 c))
    -- c.subw
    ∷ form 0xfc63 0x9c01 [] (λ c. Insn.Subw (near_rs1 c) (near_rs1 c) (near_rs2 c))
    -- c.addw
    ∷ form 0xfc63 0x9c21 [] (λ c. Insn.Addw (near_rs1 c) (near_rs1 c) (near_rs2 c))
    -- c.j
    ∷ form 0xe003 0xa001 [] (λ c. Insn.Jal 0 (jump_immediate c))
    -- c.beqz
    ∷ form 0xe003 0xc001 [] (λ c. Insn.Beq (near_rs1 c) 0 (branch_immediate c))
    -- c.bnez
    ∷ form 0xe003 0xe001 [] (λ c. Insn.Bne (near_rs1 c) 0 (branch_immediate c))
    ∷ []

abbrev pub quadrant_2 : List Row
quadrant_2 =
    -- c.slli
    form 0xe003 0x0002 [] (λ c. Insn.Slli (far_rd c) (far_rd c) (shift_amount c))
    -- c.lwsp
    ∷ form 0xe003 0x4002 ((0xf80, 0) ∷ []) (λ c. Insn.Lw (far_rd c) 2 (lwsp_immediate c))
    -- c.ldsp
    ∷ form 0xe003 0x6002 ((0xf80, 0) ∷ []) (λ c. Insn.Ld (far_rd c) 2 (ldsp_immediate c))
    -- c.jr
    ∷ form 0xf07f 0x8002 ((0xf80, 0) ∷ []) (λ c. Insn.Jalr 0 (far_rd c) (pos 0))
    -- c.mv
    ∷ form 0xf003 0x8002 ((0x7c, 0) ∷ []) (λ c. Insn.Add (far_rd c) 0 (far_rs2 c))
    -- c.ebreak
    ∷ form 0xffff 0x9002 [] (λ _. Insn.Ebreak)
    -- c.jalr
    ∷ form 0xf07f 0x9002 ((0xf80, 0) ∷ []) (λ c. Insn.Jalr 1 (far_rd c) (pos 0))
    -- c.add
    ∷ form 0xf003 0x9002 ((0x7c, 0) ∷ []) (λ c. Insn.Add (far_rd c) (far_rd c) (far_rs2 c))
    -- c.swsp
    ∷ form 0xe003 0xc002 [] (λ c. Insn.Sw 2 (far_rs2 c) (swsp_immediate c))
    -- c.sdsp
    ∷ form 0xe003 0xe002 [] (λ c. Insn.Sd 2 (far_rs2 c) (sdsp_immediate c))
    ∷ []

unfoldable pub forms : List Row
forms = quadrant_0 ++ quadrant_1 ++ quadrant_2

-- the forms of one quadrant (bits 1:0) and funct3 (bits 15:13)
abbrev pub forms_at : ℕ → List Row
forms_at key = filter (λ r. bit_and r.value 0xe003 == key) forms

-- the instruction that a 16-bit word stands for
unfoldable pub expanded : ℕ → Option Insn
expanded c = decoded_by forms c

-- the 32-bit word that stands for the same instruction
abbrev pub expanded_word : ℕ → Option ℕ
expanded_word c = option_map encoded (expanded c)

-- the instruction of that word
abbrev pub word_decoded : ℕ → Option Insn
word_decoded c = option_and_then decoded (expanded_word c)

-- how many forms a word matches
unfoldable pub form_count : ℕ → ℕ
form_count c = count_by (λ row. is_match row c) forms

-- at most one form matches any word
abbrev pub OneForm : Type 0
OneForm = (c : ℕ) → form_count c ≤ 1
