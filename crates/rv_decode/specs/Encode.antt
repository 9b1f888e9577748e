-- The word of an instruction: the value of its row with the fields in their places, and zeros in the
-- fields that decoding ignores (Unprivileged ISA, "Base Instruction Formats").
use Rattle.std.specs.Prelude.{◌≡◌, ℕ, ◌+◌, ◌*◌, ◌^◌, ℤ, Some}
use Rattle.rv_alu.specs.Arithmetic.{bits_of, modulo}
use Rattle.rv_decode.specs.Ranges.{IsInRange}
use Rattle.rv_decode.specs.Words.{decoded}
use Rattle.rv_decode.specs.declared.Insn.{Insn}

-- ---- the two shapes, from the row's value v

-- five bits from place 7 up, five bits from place 15 up, and twelve bits from place 20 up
unfoldable pub word_r : ℕ → ℕ → ℕ → ℕ → ℕ
word_r v rd rs1 top = v + rd * 2 ^ 7 + rs1 * 2 ^ 15 + top * 2 ^ 20

-- five bits from place 7 up, and twenty bits from place 12 up
unfoldable pub word_long : ℕ → ℕ → ℕ → ℕ
word_long v rd top = v + rd * 2 ^ 7 + top * 2 ^ 12

-- ---- the formats with an immediate, whose bits b stand where decoding reads them

abbrev pub word_i : ℕ → ℕ → ℕ → ℤ → ℕ
word_i v rd rs1 imm = word_r v rd rs1 (modulo 12 imm)

abbrev pub word_s : ℕ → ℕ → ℕ → ℤ → ℕ
word_s v rs1 rs2 imm = let b = modulo 12 imm in word_r v (bits_of b 0 5) rs1 (rs2 + bits_of b 5 7 * 2 ^ 5)

abbrev pub word_b : ℕ → ℕ → ℕ → ℤ → ℕ
word_b v rs1 rs2 imm = let b = modulo 13 imm in word_r v (bits_of b 11 1 + bits_of b 1 4 * 2 ^ 1) rs1 (rs2 + bits_of b 5 6 * 2 ^ 5 + bits_of b 12 1 * 2 ^ 11)

abbrev pub word_u : ℕ → ℕ → ℤ → ℕ
word_u v rd imm = word_long v rd (bits_of (modulo 32 imm) 12 20)

abbrev pub word_j : ℕ → ℕ → ℤ → ℕ
word_j v rd imm = let b = modulo 21 imm in word_long v rd (bits_of b 12 8 + bits_of b 11 1 * 2 ^ 8 + bits_of b 1 10 * 2 ^ 9 + bits_of b 20 1 * 2 ^ 19)

-- ---- the words

unfoldable pub encoded : Insn → ℕ
encoded (Insn.Lui rd imm) = word_u 0x00000037 rd imm
encoded (Insn.Auipc rd imm) = word_u 0x00000017 rd imm
encoded (Insn.Jal rd imm) = word_j 0x0000006f rd imm
encoded (Insn.Jalr rd rs1 imm) = word_i 0x00000067 rd rs1 imm
encoded (Insn.Beq rs1 rs2 imm) = word_b 0x00000063 rs1 rs2 imm
encoded (Insn.Bne rs1 rs2 imm) = word_b 0x00001063 rs1 rs2 imm
encoded (Insn.Blt rs1 rs2 imm) = word_b 0x00004063 rs1 rs2 imm
encoded (Insn.Bge rs1 rs2 imm) = word_b 0x00005063 rs1 rs2 imm
encoded (Insn.Bltu rs1 rs2 imm) = word_b 0x00006063 rs1 rs2 imm
encoded (Insn.Bgeu rs1 rs2 imm) = word_b 0x00007063 rs1 rs2 imm
encoded (Insn.Lb rd rs1 imm) = word_i 0x00000003 rd rs1 imm
encoded (Insn.Lh rd rs1 imm) = word_i 0x00001003 rd rs1 imm
encoded (Insn.Lw rd rs1 imm) = word_i 0x00002003 rd rs1 imm
encoded (Insn.Ld rd rs1 imm) = word_i 0x00003003 rd rs1 imm
encoded (Insn.Lbu rd rs1 imm) = word_i 0x00004003 rd rs1 imm
encoded (Insn.Lhu rd rs1 imm) = word_i 0x00005003 rd rs1 imm
encoded (Insn.Lwu rd rs1 imm) = word_i 0x00006003 rd rs1 imm
encoded (Insn.Sb rs1 rs2 imm) = word_s 0x00000023 rs1 rs2 imm
encoded (Insn.Sh rs1 rs2 imm) = word_s 0x00001023 rs1 rs2 imm
encoded (Insn.Sw rs1 rs2 imm) = word_s 0x00002023 rs1 rs2 imm
encoded (Insn.Sd rs1 rs2 imm) = word_s 0x00003023 rs1 rs2 imm
encoded (Insn.Addi rd rs1 imm) = word_i 0x00000013 rd rs1 imm
encoded (Insn.Slti rd rs1 imm) = word_i 0x00002013 rd rs1 imm
encoded (Insn.Sltiu rd rs1 imm) = word_i 0x00003013 rd rs1 imm
encoded (Insn.Xori rd rs1 imm) = word_i 0x00004013 rd rs1 imm
encoded (Insn.Ori rd rs1 imm) = word_i 0x00006013 rd rs1 imm
encoded (Insn.Andi rd rs1 imm) = word_i 0x00007013 rd rs1 imm
encoded (Insn.Addiw rd rs1 imm) = word_i 0x0000001b rd rs1 imm
encoded (Insn.Slli rd rs1 shamt) = word_r 0x00001013 rd rs1 shamt
encoded (Insn.Srli rd rs1 shamt) = word_r 0x00005013 rd rs1 shamt
encoded (Insn.Srai rd rs1 shamt) = word_r 0x40005013 rd rs1 shamt
encoded (Insn.Slliw rd rs1 shamt) = word_r 0x0000101b rd rs1 shamt
encoded (Insn.Srliw rd rs1 shamt) = word_r 0x0000501b rd rs1 shamt
encoded (Insn.Sraiw rd rs1 shamt) = word_r 0x4000501b rd rs1 shamt
encoded (Insn.Add rd rs1 rs2) = word_r 0x00000033 rd rs1 rs2
encoded (Insn.Sub rd rs1 rs2) = word_r 0x40000033 rd rs1 rs2
encoded (Insn.Sll rd rs1 rs2) = word_r 0x00001033 rd rs1 rs2
encoded (Insn.Slt rd rs1 rs2) = word_r 0x00002033 rd rs1 rs2
encoded (Insn.Sltu rd rs1 rs2) = word_r 0x00003033 rd rs1 rs2
encoded (Insn.Xor rd rs1 rs2) = word_r 0x00004033 rd rs1 rs2
encoded (Insn.Srl rd rs1 rs2) = word_r 0x00005033 rd rs1 rs2
encoded (Insn.Sra rd rs1 rs2) = word_r 0x40005033 rd rs1 rs2
encoded (Insn.Or rd rs1 rs2) = word_r 0x00006033 rd rs1 rs2
encoded (Insn.And rd rs1 rs2) = word_r 0x00007033 rd rs1 rs2
encoded (Insn.Addw rd rs1 rs2) = word_r 0x0000003b rd rs1 rs2
encoded (Insn.Subw rd rs1 rs2) = word_r 0x4000003b rd rs1 rs2
encoded (Insn.Sllw rd rs1 rs2) = word_r 0x0000103b rd rs1 rs2
encoded (Insn.Srlw rd rs1 rs2) = word_r 0x0000503b rd rs1 rs2
encoded (Insn.Sraw rd rs1 rs2) = word_r 0x4000503b rd rs1 rs2
encoded (Insn.Mul rd rs1 rs2) = word_r 0x02000033 rd rs1 rs2
encoded (Insn.Mulh rd rs1 rs2) = word_r 0x02001033 rd rs1 rs2
encoded (Insn.Mulhsu rd rs1 rs2) = word_r 0x02002033 rd rs1 rs2
encoded (Insn.Mulhu rd rs1 rs2) = word_r 0x02003033 rd rs1 rs2
encoded (Insn.Div rd rs1 rs2) = word_r 0x02004033 rd rs1 rs2
encoded (Insn.Divu rd rs1 rs2) = word_r 0x02005033 rd rs1 rs2
encoded (Insn.Rem rd rs1 rs2) = word_r 0x02006033 rd rs1 rs2
encoded (Insn.Remu rd rs1 rs2) = word_r 0x02007033 rd rs1 rs2
encoded (Insn.Mulw rd rs1 rs2) = word_r 0x0200003b rd rs1 rs2
encoded (Insn.Divw rd rs1 rs2) = word_r 0x0200403b rd rs1 rs2
encoded (Insn.Divuw rd rs1 rs2) = word_r 0x0200503b rd rs1 rs2
encoded (Insn.Remw rd rs1 rs2) = word_r 0x0200603b rd rs1 rs2
encoded (Insn.Remuw rd rs1 rs2) = word_r 0x0200703b rd rs1 rs2
encoded Insn.Fence = 0x0000000f
encoded Insn.FenceI = 0x0000100f
encoded (Insn.Csrrw rd rs1 csr) = word_r 0x00001073 rd rs1 csr
encoded (Insn.Csrrs rd rs1 csr) = word_r 0x00002073 rd rs1 csr
encoded (Insn.Csrrc rd rs1 csr) = word_r 0x00003073 rd rs1 csr
encoded (Insn.Csrrwi rd uimm csr) = word_r 0x00005073 rd uimm csr
encoded (Insn.Csrrsi rd uimm csr) = word_r 0x00006073 rd uimm csr
encoded (Insn.Csrrci rd uimm csr) = word_r 0x00007073 rd uimm csr
encoded Insn.Ecall = 0x00000073
encoded Insn.Ebreak = 0x00100073
encoded Insn.Sret = 0x10200073
encoded Insn.Mret = 0x30200073
encoded Insn.Wfi = 0x10500073
encoded Insn.Dret = 0x7b200073
encoded (Insn.SfenceVma rs1 rs2) = word_r 0x12000073 0 rs1 rs2
encoded (Insn.LrW rd rs1) = word_r 0x1000202f rd rs1 0
encoded (Insn.LrD rd rs1) = word_r 0x1000302f rd rs1 0
encoded (Insn.ScW rd rs1 rs2) = word_r 0x1800202f rd rs1 rs2
encoded (Insn.AmoswapW rd rs1 rs2) = word_r 0x0800202f rd rs1 rs2
encoded (Insn.AmoaddW rd rs1 rs2) = word_r 0x0000202f rd rs1 rs2
encoded (Insn.AmoxorW rd rs1 rs2) = word_r 0x2000202f rd rs1 rs2
encoded (Insn.AmoandW rd rs1 rs2) = word_r 0x6000202f rd rs1 rs2
encoded (Insn.AmoorW rd rs1 rs2) = word_r 0x4000202f rd rs1 rs2
encoded (Insn.AmominW rd rs1 rs2) = word_r 0x8000202f rd rs1 rs2
encoded (Insn.AmomaxW rd rs1 rs2) = word_r 0xa000202f rd rs1 rs2
encoded (Insn.AmominuW rd rs1 rs2) = word_r 0xc000202f rd rs1 rs2
encoded (Insn.AmomaxuW rd rs1 rs2) = word_r 0xe000202f rd rs1 rs2
encoded (Insn.ScD rd rs1 rs2) = word_r 0x1800302f rd rs1 rs2
encoded (Insn.AmoswapD rd rs1 rs2) = word_r 0x0800302f rd rs1 rs2
encoded (Insn.AmoaddD rd rs1 rs2) = word_r 0x0000302f rd rs1 rs2
encoded (Insn.AmoxorD rd rs1 rs2) = word_r 0x2000302f rd rs1 rs2
encoded (Insn.AmoandD rd rs1 rs2) = word_r 0x6000302f rd rs1 rs2
encoded (Insn.AmoorD rd rs1 rs2) = word_r 0x4000302f rd rs1 rs2
encoded (Insn.AmominD rd rs1 rs2) = word_r 0x8000302f rd rs1 rs2
encoded (Insn.AmomaxD rd rs1 rs2) = word_r 0xa000302f rd rs1 rs2
encoded (Insn.AmominuD rd rs1 rs2) = word_r 0xc000302f rd rs1 rs2
encoded (Insn.AmomaxuD rd rs1 rs2) = word_r 0xe000302f rd rs1 rs2

-- decoding the word of an instruction whose fields are in their ranges gives the instruction back
abbrev pub EncodedIsDecoded : Type 0
EncodedIsDecoded = (insn : Insn) → IsInRange insn → decoded (encoded insn) ≡ Some insn
