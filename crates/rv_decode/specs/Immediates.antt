-- The fields of an instruction word w (Unprivileged ISA, "Base Instruction Formats").
use Rattle.std.specs.Prelude.{ℕ, ◌+◌, ◌*◌, ◌^◌, ℤ}
use Rattle.rv_alu.specs.Arithmetic.{bits_of, signed}

-- ---- registers and other unsigned fields

abbrev pub rd_of : ℕ → ℕ
rd_of w = bits_of w 7 5

abbrev pub rs1_of : ℕ → ℕ
rs1_of w = bits_of w 15 5

abbrev pub rs2_of : ℕ → ℕ
rs2_of w = bits_of w 20 5

-- a shift amount of 64-bit words, and of 32-bit words
abbrev pub shamt_of : ℕ → ℕ
shamt_of w = bits_of w 20 6

abbrev pub word_shamt_of : ℕ → ℕ
word_shamt_of w = bits_of w 20 5

-- the number of a control and status register
abbrev pub csr_of : ℕ → ℕ
csr_of w = bits_of w 20 12

-- the unsigned immediate of the CSR instructions, which stands in the place of rs1
abbrev pub uimm_of : ℕ → ℕ
uimm_of w = bits_of w 15 5

-- ---- immediates with a sign (Unprivileged ISA, "Immediate Encoding Variants")

-- 11:0 = bits 31:20
abbrev pub immediate_i : ℕ → ℤ
immediate_i w = signed 12 (bits_of w 20 12)

-- 11:5 = bits 31:25, 4:0 = bits 11:7
abbrev pub immediate_s : ℕ → ℤ
immediate_s w = signed 12 (bits_of w 25 7 * 2 ^ 5 + bits_of w 7 5)

-- 12 = bit 31, 11 = bit 7, 10:5 = bits 30:25, 4:1 = bits 11:8
abbrev pub immediate_b : ℕ → ℤ
immediate_b w = signed 13 (bits_of w 31 1 * 2 ^ 12 + bits_of w 7 1 * 2 ^ 11 + bits_of w 25 6 * 2 ^ 5 + bits_of w 8 4 * 2 ^ 1)

-- 31:12 = bits 31:12, with 12 zeros below
abbrev pub immediate_u : ℕ → ℤ
immediate_u w = signed 32 (bits_of w 12 20 * 2 ^ 12)

-- 20 = bit 31, 19:12 = bits 19:12, 11 = bit 20, 10:1 = bits 30:21
abbrev pub immediate_j : ℕ → ℤ
immediate_j w = signed 21 (bits_of w 31 1 * 2 ^ 20 + bits_of w 12 8 * 2 ^ 12 + bits_of w 20 1 * 2 ^ 11 + bits_of w 21 10 * 2 ^ 1)
