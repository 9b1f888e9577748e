-- For each format of instruction words: the word of an instruction matches its row, and its fields read back.
use Rattle.std.proofs.Common.{◌≡◌, ℕ, ◌+◌, ◌*◌, ◌/◌, ◌%◌, ◌^◌, ◌<◌, ℤ, pos, negsuc, Some, bit_and, ◌∙◌, ap, ap₂, subst, arith}
use Rattle.std.specs.Prelude.{find}
use Rattle.std.proofs.lemmas.Bool.{eq-eqb}
use Rattle.std.proofs.lemmas.Int.{ints}
use Rattle.rv_alu.specs.Arithmetic.{bits_of, modulo, signed}
use Rattle.rv_decode.specs.Encode.{word_b, word_i, word_j, word_long, word_r, word_s, word_u}
use Rattle.rv_decode.specs.Immediates.{csr_of, immediate_b, immediate_i, immediate_j, immediate_s, immediate_u, rd_of, rs1_of, rs2_of, shamt_of, uimm_of, word_shamt_of}
use Rattle.rv_decode.specs.Ranges.{IsBranch, IsCsr, IsImmediate, IsJump, IsMultiple, IsShift, IsSigned, IsStore, IsThreeRegisters, IsTwoRegisters, IsUpper, IsWordShift}
use Rattle.rv_decode.specs.Words.{decoded, row_b, row_csr, row_csr_immediate, row_fence, row_i, row_j, row_r, row_reserve, row_s, row_shift, row_u, row_word_shift, rows}
use Rattle.rv_decode.specs.declared.Insn.{Insn}
use Rattle.rv_decode.proofs.Masks.{atomic_mask, fence_mask, funct3_mask, opcode_mask, register_mask, reserve_mask, shift_mask}
use Rattle.rv_decode.proofs.TableLaws.{decoded_as, has_value}

-- ---- instructions from equal fields

two_fields : {A B : Type 0} (make : A → B → Insn) (a a' : A) (b b' : B) → a ≡ a' → b ≡ b' → Some (make a b) ≡ Some (make a' b')
two_fields make a a' b b' p q = ap₂ (λ x y. Some (make x y)) p q

three_fields : {A B C : Type 0} (make : A → B → C → Insn) (a a' : A) (b b' : B) (c c' : C) → a ≡ a' → b ≡ b' → c ≡ c' → Some (make a b c) ≡ Some (make a' b' c')
three_fields make a a' b b' c c' p q r = ap₂ (λ x y. Some (make x y c)) p q ∙ ap (λ z. Some (make a' b' z)) r

-- ---- signed numbers and their bits

signed_12 : (z : ℤ) → IsSigned 12 z → signed 12 (modulo 12 z) ≡ z
signed_12 (pos n) h = grind (arith, ints)
signed_12 (negsuc n) h = grind (arith, ints)

signed_13 : (z : ℤ) → IsSigned 13 z → signed 13 (modulo 13 z) ≡ z
signed_13 (pos n) h = grind (arith, ints)
signed_13 (negsuc n) h = grind (arith, ints)

signed_21 : (z : ℤ) → IsSigned 21 z → signed 21 (modulo 21 z) ≡ z
signed_21 (pos n) h = grind (arith, ints)
signed_21 (negsuc n) h = grind (arith, ints)

signed_32 : (z : ℤ) → IsSigned 32 z → signed 32 (modulo 32 z) ≡ z
signed_32 (pos n) h = grind (arith, ints)
signed_32 (negsuc n) h = grind (arith, ints)

modulo_12 : (z : ℤ) → modulo 12 z < 2 ^ 12
modulo_12 (pos n) = omega arith
modulo_12 (negsuc n) = omega arith

modulo_13 : (z : ℤ) → modulo 13 z < 2 ^ 13
modulo_13 (pos n) = omega arith
modulo_13 (negsuc n) = omega arith

modulo_21 : (z : ℤ) → modulo 21 z < 2 ^ 21
modulo_21 (pos n) = omega arith
modulo_21 (negsuc n) = omega arith

modulo_32 : (z : ℤ) → modulo 32 z < 2 ^ 32
modulo_32 (pos n) = omega arith
modulo_32 (negsuc n) = omega arith

-- an even number has even bits, and a multiple of 4096 has bits that are one
even_13 : (z : ℤ) → IsMultiple 1 z → modulo 13 z % 2 ≡ 0
even_13 (pos n) h = omega arith
even_13 (negsuc n) h = omega arith

even_21 : (z : ℤ) → IsMultiple 1 z → modulo 21 z % 2 ≡ 0
even_21 (pos n) h = omega arith
even_21 (negsuc n) h = omega arith

upper_32 : (z : ℤ) → IsMultiple 12 z → modulo 32 z % 2 ^ 12 ≡ 0
upper_32 (pos n) h = omega arith
upper_32 (negsuc n) h = omega arith

-- ---- the parts of a word of the first shape

-- opcode, rd, funct3, rs1 and all that stands from place 20 up
record Parts (w o rd f rs1 u : ℕ) : Type 0 where
  opcode : w % 2 ^ 7 ≡ o
  in_rd : w / 2 ^ 7 % 2 ^ 5 ≡ rd
  funct3 : w / 2 ^ 12 % 2 ^ 3 ≡ f
  in_rs1 : w / 2 ^ 15 % 2 ^ 5 ≡ rs1
  upper : w / 2 ^ 20 ≡ u

-- the row's value has bits only in the places of the opcode, of funct3 and from place 20 up
abbrev IsBase : ℕ → Type 0
IsBase v = v ≡ v / 2 ^ 20 * 2 ^ 20 + v / 2 ^ 12 % 2 ^ 3 * 2 ^ 12 + v % 2 ^ 7

laid_out : (o rd f rs1 u : ℕ) → o < 2 ^ 7 → rd < 2 ^ 5 → f < 2 ^ 3 → rs1 < 2 ^ 5 → Parts (o + rd * 2 ^ 7 + f * 2 ^ 12 + rs1 * 2 ^ 15 + u * 2 ^ 20) o rd f rs1 u
laid_out o rd f rs1 u ho hrd hf hrs1 = record { opcode = omega arith; in_rd = omega arith; funct3 = omega arith; in_rs1 = omega arith; upper = omega arith }

parts_of : (v rd rs1 top : ℕ) → IsBase v → rd < 2 ^ 5 → rs1 < 2 ^ 5 → Parts (word_r v rd rs1 top) (v % 2 ^ 7) rd (v / 2 ^ 12 % 2 ^ 3) rs1 (v / 2 ^ 20 + top)
unfolding word_r
parts_of v rd rs1 top base hrd hrs1 =
    let whole : v % 2 ^ 7 + rd * 2 ^ 7 + v / 2 ^ 12 % 2 ^ 3 * 2 ^ 12 + rs1 * 2 ^ 15 + (v / 2 ^ 20 + top) * 2 ^ 20 ≡ v + rd * 2 ^ 7 + rs1 * 2 ^ 15 + top * 2 ^ 20 = omega arith in
    subst (λ (w : ℕ). Parts w (v % 2 ^ 7) rd (v / 2 ^ 12 % 2 ^ 3) rs1 (v / 2 ^ 20 + top)) whole (laid_out (v % 2 ^ 7) rd (v / 2 ^ 12 % 2 ^ 3) rs1 (v / 2 ^ 20 + top) (omega arith) hrd (omega arith) hrs1)

-- ---- a word of the first shape has its row's value under the row's mask

fits_funct3 : (v rd rs1 top : ℕ) → IsBase v → v / 2 ^ 20 ≡ 0 → rd < 2 ^ 5 → rs1 < 2 ^ 5 → bit_and (word_r v rd rs1 top) 0x707f ≡ v
fits_funct3 v rd rs1 top base low hrd hrs1 =
    let p : Parts (word_r v rd rs1 top) (v % 2 ^ 7) rd (v / 2 ^ 12 % 2 ^ 3) rs1 (v / 2 ^ 20 + top) = parts_of v rd rs1 top base hrd hrs1 in
    let whole : v / 2 ^ 12 % 2 ^ 3 * 2 ^ 12 + v % 2 ^ 7 ≡ v = omega (arith, base, low) in
    funct3_mask (word_r v rd rs1 top) (v % 2 ^ 7) (v / 2 ^ 12 % 2 ^ 3) p.opcode p.funct3 ∙ whole

fits_register : (v rd rs1 top : ℕ) → IsBase v → v / 2 ^ 25 % 2 ^ 7 * 2 ^ 5 ≡ v / 2 ^ 20 → rd < 2 ^ 5 → rs1 < 2 ^ 5 → top < 2 ^ 5 → bit_and (word_r v rd rs1 top) 0xfe00707f ≡ v
fits_register v rd rs1 top base low hrd hrs1 htop =
    let p : Parts (word_r v rd rs1 top) (v % 2 ^ 7) rd (v / 2 ^ 12 % 2 ^ 3) rs1 (v / 2 ^ 20 + top) = parts_of v rd rs1 top base hrd hrs1 in
    let whole : (v / 2 ^ 20 + top) / 2 ^ 5 % 2 ^ 7 * 2 ^ 25 + (v / 2 ^ 12 % 2 ^ 3 * 2 ^ 12 + v % 2 ^ 7) ≡ v = omega (arith, base, low) in
    register_mask (word_r v rd rs1 top) (v % 2 ^ 7) (v / 2 ^ 12 % 2 ^ 3) (v / 2 ^ 20 + top) p.opcode p.funct3 p.upper ∙ whole

fits_shift : (v rd rs1 top : ℕ) → IsBase v → v / 2 ^ 26 % 2 ^ 6 * 2 ^ 6 ≡ v / 2 ^ 20 → rd < 2 ^ 5 → rs1 < 2 ^ 5 → top < 2 ^ 6 → bit_and (word_r v rd rs1 top) 0xfc00707f ≡ v
fits_shift v rd rs1 top base low hrd hrs1 htop =
    let p : Parts (word_r v rd rs1 top) (v % 2 ^ 7) rd (v / 2 ^ 12 % 2 ^ 3) rs1 (v / 2 ^ 20 + top) = parts_of v rd rs1 top base hrd hrs1 in
    let whole : (v / 2 ^ 20 + top) / 2 ^ 6 % 2 ^ 6 * 2 ^ 26 + (v / 2 ^ 12 % 2 ^ 3 * 2 ^ 12 + v % 2 ^ 7) ≡ v = omega (arith, base, low) in
    shift_mask (word_r v rd rs1 top) (v % 2 ^ 7) (v / 2 ^ 12 % 2 ^ 3) (v / 2 ^ 20 + top) p.opcode p.funct3 p.upper ∙ whole

fits_atomic : (v rd rs1 top : ℕ) → IsBase v → v / 2 ^ 27 % 2 ^ 5 * 2 ^ 7 ≡ v / 2 ^ 20 → rd < 2 ^ 5 → rs1 < 2 ^ 5 → top < 2 ^ 5 → bit_and (word_r v rd rs1 top) 0xf800707f ≡ v
fits_atomic v rd rs1 top base low hrd hrs1 htop =
    let p : Parts (word_r v rd rs1 top) (v % 2 ^ 7) rd (v / 2 ^ 12 % 2 ^ 3) rs1 (v / 2 ^ 20 + top) = parts_of v rd rs1 top base hrd hrs1 in
    let whole : (v / 2 ^ 20 + top) / 2 ^ 7 % 2 ^ 5 * 2 ^ 27 + (v / 2 ^ 12 % 2 ^ 3 * 2 ^ 12 + v % 2 ^ 7) ≡ v = omega (arith, base, low) in
    atomic_mask (word_r v rd rs1 top) (v % 2 ^ 7) (v / 2 ^ 12 % 2 ^ 3) (v / 2 ^ 20 + top) p.opcode p.funct3 p.upper ∙ whole

fits_reserve : (v rd rs1 : ℕ) → IsBase v → v / 2 ^ 27 % 2 ^ 5 * 2 ^ 7 ≡ v / 2 ^ 20 → rd < 2 ^ 5 → rs1 < 2 ^ 5 → bit_and (word_r v rd rs1 0) 0xf9f0707f ≡ v
fits_reserve v rd rs1 base low hrd hrs1 =
    let p : Parts (word_r v rd rs1 0) (v % 2 ^ 7) rd (v / 2 ^ 12 % 2 ^ 3) rs1 (v / 2 ^ 20 + 0) = parts_of v rd rs1 0 base hrd hrs1 in
    let whole : (v / 2 ^ 20 + 0) / 2 ^ 7 % 2 ^ 5 * 2 ^ 27 + ((v / 2 ^ 20 + 0) % 2 ^ 5 * 2 ^ 20 + (v / 2 ^ 12 % 2 ^ 3 * 2 ^ 12 + v % 2 ^ 7)) ≡ v = omega (arith, base, low) in
    reserve_mask (word_r v rd rs1 0) (v % 2 ^ 7) (v / 2 ^ 12 % 2 ^ 3) (v / 2 ^ 20 + 0) p.opcode p.funct3 p.upper ∙ whole

fits_fence : (v rs1 top : ℕ) → IsBase v → v / 2 ^ 25 % 2 ^ 7 * 2 ^ 5 ≡ v / 2 ^ 20 → v / 2 ^ 12 % 2 ^ 3 ≡ 0 → rs1 < 2 ^ 5 → top < 2 ^ 5 → bit_and (word_r v 0 rs1 top) 0xfe007fff ≡ v
fits_fence v rs1 top base low plain hrs1 htop =
    let p : Parts (word_r v 0 rs1 top) (v % 2 ^ 7) 0 (v / 2 ^ 12 % 2 ^ 3) rs1 (v / 2 ^ 20 + top) = parts_of v 0 rs1 top base (omega arith) hrs1 in
    let lowest : word_r v 0 rs1 top % 2 ^ 15 ≡ v % 2 ^ 7 = omega (arith, p.opcode, p.in_rd, p.funct3, plain) in
    let whole : (v / 2 ^ 20 + top) / 2 ^ 5 % 2 ^ 7 * 2 ^ 25 + v % 2 ^ 7 ≡ v = omega (arith, base, low, plain) in
    fence_mask (word_r v 0 rs1 top) (v / 2 ^ 20 + top) p.upper ∙ ap (λ x. (v / 2 ^ 20 + top) / 2 ^ 5 % 2 ^ 7 * 2 ^ 25 + x) lowest ∙ whole

-- ---- each format's law, for a row's value v and the instruction's name

-- an operation with an immediate, a load or a jump to a register
pub encoded_i : (v : ℕ) (make : ℕ → ℕ → ℤ → Insn) → IsBase v × (v / 2 ^ 20 ≡ 0) → find (has_value v) rows ≡ Some (row_i 0x0000707f v make) → (rd : ℕ) (rs1 : ℕ) (imm : ℤ) → IsImmediate rd rs1 imm → decoded (word_i v rd rs1 imm) ≡ Some (make rd rs1 imm)
encoded_i v make base found rd rs1 imm h =
    let small : modulo 12 imm < 2 ^ 12 = modulo_12 imm in
    let p : Parts (word_r v rd rs1 (modulo 12 imm)) (v % 2 ^ 7) rd (v / 2 ^ 12 % 2 ^ 3) rs1 (v / 2 ^ 20 + (modulo 12 imm)) = parts_of v rd rs1 (modulo 12 imm) base.0 h.0 h.1 in
    let read_rd : rd_of (word_r v rd rs1 (modulo 12 imm)) ≡ rd = p.in_rd in
    let read_rs1 : rs1_of (word_r v rd rs1 (modulo 12 imm)) ≡ rs1 = p.in_rs1 in
    let bits_20 : bits_of (word_r v rd rs1 (modulo 12 imm)) 20 12 ≡ modulo 12 imm = omega (arith, p.upper, base.1, small) in
    let read_imm : immediate_i (word_r v rd rs1 (modulo 12 imm)) ≡ imm = ap (signed 12) bits_20 ∙ signed_12 imm h.2 in
    decoded_as v (row_i 0x0000707f v make) (word_r v rd rs1 (modulo 12 imm)) found (eq-eqb (bit_and (word_r v rd rs1 (modulo 12 imm)) 0x707f) v (fits_funct3 v rd rs1 (modulo 12 imm) base.0 base.1 h.0 h.1))
    ∙ three_fields make (rd_of (word_r v rd rs1 (modulo 12 imm))) rd (rs1_of (word_r v rd rs1 (modulo 12 imm))) rs1 (immediate_i (word_r v rd rs1 (modulo 12 imm))) imm read_rd read_rs1 read_imm

-- an operation on registers
pub encoded_r : (v : ℕ) (make : ℕ → ℕ → ℕ → Insn) → IsBase v × (v / 2 ^ 25 % 2 ^ 7 * 2 ^ 5 ≡ v / 2 ^ 20) → find (has_value v) rows ≡ Some (row_r 0xfe00707f v make) → (rd : ℕ) (rs1 : ℕ) (rs2 : ℕ) → IsThreeRegisters rd rs1 rs2 → decoded (word_r v rd rs1 rs2) ≡ Some (make rd rs1 rs2)
encoded_r v make base found rd rs1 rs2 h =
    let p : Parts (word_r v rd rs1 (rs2)) (v % 2 ^ 7) rd (v / 2 ^ 12 % 2 ^ 3) rs1 (v / 2 ^ 20 + (rs2)) = parts_of v rd rs1 (rs2) base.0 h.0 h.1 in
    let read_rd : rd_of (word_r v rd rs1 (rs2)) ≡ rd = p.in_rd in
    let read_rs1 : rs1_of (word_r v rd rs1 (rs2)) ≡ rs1 = p.in_rs1 in
    let read_rs2 : rs2_of (word_r v rd rs1 (rs2)) ≡ rs2 = omega (arith, p.upper, base.1, h.2) in
    decoded_as v (row_r 0xfe00707f v make) (word_r v rd rs1 (rs2)) found (eq-eqb (bit_and (word_r v rd rs1 (rs2)) 0xfe00707f) v (fits_register v rd rs1 rs2 base.0 base.1 h.0 h.1 h.2))
    ∙ three_fields make (rd_of (word_r v rd rs1 (rs2))) rd (rs1_of (word_r v rd rs1 (rs2))) rs1 (rs2_of (word_r v rd rs1 (rs2))) rs2 read_rd read_rs1 read_rs2

-- an atomic operation
pub encoded_atomic : (v : ℕ) (make : ℕ → ℕ → ℕ → Insn) → IsBase v × (v / 2 ^ 27 % 2 ^ 5 * 2 ^ 7 ≡ v / 2 ^ 20) → find (has_value v) rows ≡ Some (row_r 0xf800707f v make) → (rd : ℕ) (rs1 : ℕ) (rs2 : ℕ) → IsThreeRegisters rd rs1 rs2 → decoded (word_r v rd rs1 rs2) ≡ Some (make rd rs1 rs2)
encoded_atomic v make base found rd rs1 rs2 h =
    let p : Parts (word_r v rd rs1 (rs2)) (v % 2 ^ 7) rd (v / 2 ^ 12 % 2 ^ 3) rs1 (v / 2 ^ 20 + (rs2)) = parts_of v rd rs1 (rs2) base.0 h.0 h.1 in
    let read_rd : rd_of (word_r v rd rs1 (rs2)) ≡ rd = p.in_rd in
    let read_rs1 : rs1_of (word_r v rd rs1 (rs2)) ≡ rs1 = p.in_rs1 in
    let read_rs2 : rs2_of (word_r v rd rs1 (rs2)) ≡ rs2 = omega (arith, p.upper, base.1, h.2) in
    decoded_as v (row_r 0xf800707f v make) (word_r v rd rs1 (rs2)) found (eq-eqb (bit_and (word_r v rd rs1 (rs2)) 0xf800707f) v (fits_atomic v rd rs1 rs2 base.0 base.1 h.0 h.1 h.2))
    ∙ three_fields make (rd_of (word_r v rd rs1 (rs2))) rd (rs1_of (word_r v rd rs1 (rs2))) rs1 (rs2_of (word_r v rd rs1 (rs2))) rs2 read_rd read_rs1 read_rs2

-- a shift by 0 to 63
pub encoded_shift : (v : ℕ) (make : ℕ → ℕ → ℕ → Insn) → IsBase v × (v / 2 ^ 26 % 2 ^ 6 * 2 ^ 6 ≡ v / 2 ^ 20) → find (has_value v) rows ≡ Some (row_shift 0xfc00707f v make) → (rd : ℕ) (rs1 : ℕ) (shamt : ℕ) → IsShift rd rs1 shamt → decoded (word_r v rd rs1 shamt) ≡ Some (make rd rs1 shamt)
encoded_shift v make base found rd rs1 shamt h =
    let p : Parts (word_r v rd rs1 (shamt)) (v % 2 ^ 7) rd (v / 2 ^ 12 % 2 ^ 3) rs1 (v / 2 ^ 20 + (shamt)) = parts_of v rd rs1 (shamt) base.0 h.0 h.1 in
    let read_rd : rd_of (word_r v rd rs1 (shamt)) ≡ rd = p.in_rd in
    let read_rs1 : rs1_of (word_r v rd rs1 (shamt)) ≡ rs1 = p.in_rs1 in
    let read_shamt : shamt_of (word_r v rd rs1 (shamt)) ≡ shamt = omega (arith, p.upper, base.1, h.2) in
    decoded_as v (row_shift 0xfc00707f v make) (word_r v rd rs1 (shamt)) found (eq-eqb (bit_and (word_r v rd rs1 (shamt)) 0xfc00707f) v (fits_shift v rd rs1 shamt base.0 base.1 h.0 h.1 h.2))
    ∙ three_fields make (rd_of (word_r v rd rs1 (shamt))) rd (rs1_of (word_r v rd rs1 (shamt))) rs1 (shamt_of (word_r v rd rs1 (shamt))) shamt read_rd read_rs1 read_shamt

-- a shift by 0 to 31
pub encoded_word_shift : (v : ℕ) (make : ℕ → ℕ → ℕ → Insn) → IsBase v × (v / 2 ^ 25 % 2 ^ 7 * 2 ^ 5 ≡ v / 2 ^ 20) → find (has_value v) rows ≡ Some (row_word_shift 0xfe00707f v make) → (rd : ℕ) (rs1 : ℕ) (shamt : ℕ) → IsWordShift rd rs1 shamt → decoded (word_r v rd rs1 shamt) ≡ Some (make rd rs1 shamt)
encoded_word_shift v make base found rd rs1 shamt h =
    let p : Parts (word_r v rd rs1 (shamt)) (v % 2 ^ 7) rd (v / 2 ^ 12 % 2 ^ 3) rs1 (v / 2 ^ 20 + (shamt)) = parts_of v rd rs1 (shamt) base.0 h.0 h.1 in
    let read_rd : rd_of (word_r v rd rs1 (shamt)) ≡ rd = p.in_rd in
    let read_rs1 : rs1_of (word_r v rd rs1 (shamt)) ≡ rs1 = p.in_rs1 in
    let read_shamt : word_shamt_of (word_r v rd rs1 (shamt)) ≡ shamt = omega (arith, p.upper, base.1, h.2) in
    decoded_as v (row_word_shift 0xfe00707f v make) (word_r v rd rs1 (shamt)) found (eq-eqb (bit_and (word_r v rd rs1 (shamt)) 0xfe00707f) v (fits_register v rd rs1 shamt base.0 base.1 h.0 h.1 h.2))
    ∙ three_fields make (rd_of (word_r v rd rs1 (shamt))) rd (rs1_of (word_r v rd rs1 (shamt))) rs1 (word_shamt_of (word_r v rd rs1 (shamt))) shamt read_rd read_rs1 read_shamt

-- a CSR instruction with a register
pub encoded_csr : (v : ℕ) (make : ℕ → ℕ → ℕ → Insn) → IsBase v × (v / 2 ^ 20 ≡ 0) → find (has_value v) rows ≡ Some (row_csr 0x0000707f v make) → (rd : ℕ) (rs1 : ℕ) (csr : ℕ) → IsCsr rd rs1 csr → decoded (word_r v rd rs1 csr) ≡ Some (make rd rs1 csr)
encoded_csr v make base found rd rs1 csr h =
    let p : Parts (word_r v rd rs1 (csr)) (v % 2 ^ 7) rd (v / 2 ^ 12 % 2 ^ 3) rs1 (v / 2 ^ 20 + (csr)) = parts_of v rd rs1 (csr) base.0 h.0 h.1 in
    let read_rd : rd_of (word_r v rd rs1 (csr)) ≡ rd = p.in_rd in
    let read_rs1 : rs1_of (word_r v rd rs1 (csr)) ≡ rs1 = p.in_rs1 in
    let read_csr : csr_of (word_r v rd rs1 (csr)) ≡ csr = omega (arith, p.upper, base.1, h.2) in
    decoded_as v (row_csr 0x0000707f v make) (word_r v rd rs1 (csr)) found (eq-eqb (bit_and (word_r v rd rs1 (csr)) 0x707f) v (fits_funct3 v rd rs1 csr base.0 base.1 h.0 h.1))
    ∙ three_fields make (rd_of (word_r v rd rs1 (csr))) rd (rs1_of (word_r v rd rs1 (csr))) rs1 (csr_of (word_r v rd rs1 (csr))) csr read_rd read_rs1 read_csr

-- a CSR instruction with an immediate
pub encoded_csr_immediate : (v : ℕ) (make : ℕ → ℕ → ℕ → Insn) → IsBase v × (v / 2 ^ 20 ≡ 0) → find (has_value v) rows ≡ Some (row_csr_immediate 0x0000707f v make) → (rd : ℕ) (uimm : ℕ) (csr : ℕ) → IsCsr rd uimm csr → decoded (word_r v rd uimm csr) ≡ Some (make rd uimm csr)
encoded_csr_immediate v make base found rd uimm csr h =
    let p : Parts (word_r v rd uimm (csr)) (v % 2 ^ 7) rd (v / 2 ^ 12 % 2 ^ 3) uimm (v / 2 ^ 20 + (csr)) = parts_of v rd uimm (csr) base.0 h.0 h.1 in
    let read_rd : rd_of (word_r v rd uimm (csr)) ≡ rd = p.in_rd in
    let read_uimm : uimm_of (word_r v rd uimm (csr)) ≡ uimm = p.in_rs1 in
    let read_csr : csr_of (word_r v rd uimm (csr)) ≡ csr = omega (arith, p.upper, base.1, h.2) in
    decoded_as v (row_csr_immediate 0x0000707f v make) (word_r v rd uimm (csr)) found (eq-eqb (bit_and (word_r v rd uimm (csr)) 0x707f) v (fits_funct3 v rd uimm csr base.0 base.1 h.0 h.1))
    ∙ three_fields make (rd_of (word_r v rd uimm (csr))) rd (uimm_of (word_r v rd uimm (csr))) uimm (csr_of (word_r v rd uimm (csr))) csr read_rd read_uimm read_csr

-- a load that reserves
pub encoded_reserve : (v : ℕ) (make : ℕ → ℕ → Insn) → IsBase v × (v / 2 ^ 27 % 2 ^ 5 * 2 ^ 7 ≡ v / 2 ^ 20) → find (has_value v) rows ≡ Some (row_reserve 0xf9f0707f v make) → (rd : ℕ) (rs1 : ℕ) → IsTwoRegisters rd rs1 → decoded (word_r v rd rs1 0) ≡ Some (make rd rs1)
encoded_reserve v make base found rd rs1 h =
    let p : Parts (word_r v rd rs1 (0)) (v % 2 ^ 7) rd (v / 2 ^ 12 % 2 ^ 3) rs1 (v / 2 ^ 20 + (0)) = parts_of v rd rs1 (0) base.0 h.0 h.1 in
    let read_rd : rd_of (word_r v rd rs1 (0)) ≡ rd = p.in_rd in
    let read_rs1 : rs1_of (word_r v rd rs1 (0)) ≡ rs1 = p.in_rs1 in
    decoded_as v (row_reserve 0xf9f0707f v make) (word_r v rd rs1 (0)) found (eq-eqb (bit_and (word_r v rd rs1 (0)) 0xf9f0707f) v (fits_reserve v rd rs1 base.0 base.1 h.0 h.1))
    ∙ two_fields make (rd_of (word_r v rd rs1 (0))) rd (rs1_of (word_r v rd rs1 (0))) rs1 read_rd read_rs1

-- a fence of address translation
pub encoded_fence : (v : ℕ) (make : ℕ → ℕ → Insn) → IsBase v × (v / 2 ^ 25 % 2 ^ 7 * 2 ^ 5 ≡ v / 2 ^ 20) × (v / 2 ^ 12 % 2 ^ 3 ≡ 0) → find (has_value v) rows ≡ Some (row_fence 0xfe007fff v make) → (rs1 : ℕ) (rs2 : ℕ) → IsTwoRegisters rs1 rs2 → decoded (word_r v 0 rs1 rs2) ≡ Some (make rs1 rs2)
encoded_fence v make base found rs1 rs2 h =
    let p : Parts (word_r v 0 rs1 (rs2)) (v % 2 ^ 7) 0 (v / 2 ^ 12 % 2 ^ 3) rs1 (v / 2 ^ 20 + (rs2)) = parts_of v 0 rs1 (rs2) base.0 (omega arith) h.0 in
    let read_rs1 : rs1_of (word_r v 0 rs1 (rs2)) ≡ rs1 = p.in_rs1 in
    let read_rs2 : rs2_of (word_r v 0 rs1 (rs2)) ≡ rs2 = omega (arith, p.upper, base.1, h.1) in
    decoded_as v (row_fence 0xfe007fff v make) (word_r v 0 rs1 (rs2)) found (eq-eqb (bit_and (word_r v 0 rs1 (rs2)) 0xfe007fff) v (fits_fence v rs1 rs2 base.0 base.1 base.2 h.0 h.1))
    ∙ two_fields make (rs1_of (word_r v 0 rs1 (rs2))) rs1 (rs2_of (word_r v 0 rs1 (rs2))) rs2 read_rs1 read_rs2

-- the twelve bits of a store's immediate, read back
stored_back : (w v rs1 rs2 b : ℕ) → Parts w (v % 2 ^ 7) (bits_of b 0 5) (v / 2 ^ 12 % 2 ^ 3) rs1 (v / 2 ^ 20 + (rs2 + bits_of b 5 7 * 2 ^ 5)) → v / 2 ^ 20 ≡ 0 → b < 2 ^ 12 → rs2 < 2 ^ 5 → bits_of w 25 7 * 2 ^ 5 + bits_of w 7 5 ≡ b
stored_back w v rs1 rs2 b p low small hrs2 = omega (arith, p.upper, p.in_rd, low)

-- the thirteen bits of a branch's immediate, read back
branched_back : (w v rs1 rs2 b : ℕ) → Parts w (v % 2 ^ 7) (bits_of b 11 1 + bits_of b 1 4 * 2 ^ 1) (v / 2 ^ 12 % 2 ^ 3) rs1 (v / 2 ^ 20 + (rs2 + bits_of b 5 6 * 2 ^ 5 + bits_of b 12 1 * 2 ^ 11)) → v / 2 ^ 20 ≡ 0 → b < 2 ^ 13 → b % 2 ≡ 0 → rs2 < 2 ^ 5 → bits_of w 31 1 * 2 ^ 12 + bits_of w 7 1 * 2 ^ 11 + bits_of w 25 6 * 2 ^ 5 + bits_of w 8 4 * 2 ^ 1 ≡ b
branched_back w v rs1 rs2 b p low small even hrs2 =
    let bit_31 : bits_of w 31 1 ≡ bits_of b 12 1 = omega (arith, p.upper, low) in
    let bit_7 : bits_of w 7 1 ≡ bits_of b 11 1 = omega (arith, p.in_rd) in
    let bits_25 : bits_of w 25 6 ≡ bits_of b 5 6 = omega (arith, p.upper, low) in
    let bits_8 : bits_of w 8 4 ≡ bits_of b 1 4 = omega (arith, p.in_rd) in
    omega (arith, bit_31, bit_7, bits_25, bits_8)

-- a store
pub encoded_s : (v : ℕ) (make : ℕ → ℕ → ℤ → Insn) → IsBase v × (v / 2 ^ 20 ≡ 0) → find (has_value v) rows ≡ Some (row_s 0x0000707f v make) → (rs1 : ℕ) (rs2 : ℕ) (imm : ℤ) → IsStore rs1 rs2 imm → decoded (word_s v rs1 rs2 imm) ≡ Some (make rs1 rs2 imm)
encoded_s v make base found rs1 rs2 imm h =
    let p : Parts (word_r v (bits_of (modulo 12 imm) 0 5) rs1 (rs2 + bits_of (modulo 12 imm) 5 7 * 2 ^ 5)) (v % 2 ^ 7) (bits_of (modulo 12 imm) 0 5) (v / 2 ^ 12 % 2 ^ 3) rs1 (v / 2 ^ 20 + (rs2 + bits_of (modulo 12 imm) 5 7 * 2 ^ 5)) = parts_of v (bits_of (modulo 12 imm) 0 5) rs1 (rs2 + bits_of (modulo 12 imm) 5 7 * 2 ^ 5) base.0 (omega arith) h.0 in
    let read_rs1 : rs1_of (word_r v (bits_of (modulo 12 imm) 0 5) rs1 (rs2 + bits_of (modulo 12 imm) 5 7 * 2 ^ 5)) ≡ rs1 = p.in_rs1 in
    let read_rs2 : rs2_of (word_r v (bits_of (modulo 12 imm) 0 5) rs1 (rs2 + bits_of (modulo 12 imm) 5 7 * 2 ^ 5)) ≡ rs2 = omega (arith, p.upper, base.1, h.1) in
    let read_imm : immediate_s (word_r v (bits_of (modulo 12 imm) 0 5) rs1 (rs2 + bits_of (modulo 12 imm) 5 7 * 2 ^ 5)) ≡ imm = ap (signed 12) (stored_back (word_r v (bits_of (modulo 12 imm) 0 5) rs1 (rs2 + bits_of (modulo 12 imm) 5 7 * 2 ^ 5)) v rs1 rs2 (modulo 12 imm) p base.1 (modulo_12 imm) h.1) ∙ signed_12 imm h.2 in
    decoded_as v (row_s 0x0000707f v make) (word_r v (bits_of (modulo 12 imm) 0 5) rs1 (rs2 + bits_of (modulo 12 imm) 5 7 * 2 ^ 5)) found (eq-eqb (bit_and (word_r v (bits_of (modulo 12 imm) 0 5) rs1 (rs2 + bits_of (modulo 12 imm) 5 7 * 2 ^ 5)) 0x707f) v (fits_funct3 v (bits_of (modulo 12 imm) 0 5) rs1 (rs2 + bits_of (modulo 12 imm) 5 7 * 2 ^ 5) base.0 base.1 (omega arith) h.0))
    ∙ three_fields make (rs1_of (word_r v (bits_of (modulo 12 imm) 0 5) rs1 (rs2 + bits_of (modulo 12 imm) 5 7 * 2 ^ 5))) rs1 (rs2_of (word_r v (bits_of (modulo 12 imm) 0 5) rs1 (rs2 + bits_of (modulo 12 imm) 5 7 * 2 ^ 5))) rs2 (immediate_s (word_r v (bits_of (modulo 12 imm) 0 5) rs1 (rs2 + bits_of (modulo 12 imm) 5 7 * 2 ^ 5))) imm read_rs1 read_rs2 read_imm

-- a branch
pub encoded_b : (v : ℕ) (make : ℕ → ℕ → ℤ → Insn) → IsBase v × (v / 2 ^ 20 ≡ 0) → find (has_value v) rows ≡ Some (row_b 0x0000707f v make) → (rs1 : ℕ) (rs2 : ℕ) (imm : ℤ) → IsBranch rs1 rs2 imm → decoded (word_b v rs1 rs2 imm) ≡ Some (make rs1 rs2 imm)
encoded_b v make base found rs1 rs2 imm h =
    let p : Parts (word_r v (bits_of (modulo 13 imm) 11 1 + bits_of (modulo 13 imm) 1 4 * 2 ^ 1) rs1 (rs2 + bits_of (modulo 13 imm) 5 6 * 2 ^ 5 + bits_of (modulo 13 imm) 12 1 * 2 ^ 11)) (v % 2 ^ 7) (bits_of (modulo 13 imm) 11 1 + bits_of (modulo 13 imm) 1 4 * 2 ^ 1) (v / 2 ^ 12 % 2 ^ 3) rs1 (v / 2 ^ 20 + (rs2 + bits_of (modulo 13 imm) 5 6 * 2 ^ 5 + bits_of (modulo 13 imm) 12 1 * 2 ^ 11)) = parts_of v (bits_of (modulo 13 imm) 11 1 + bits_of (modulo 13 imm) 1 4 * 2 ^ 1) rs1 (rs2 + bits_of (modulo 13 imm) 5 6 * 2 ^ 5 + bits_of (modulo 13 imm) 12 1 * 2 ^ 11) base.0 (omega arith) h.0 in
    let read_rs1 : rs1_of (word_r v (bits_of (modulo 13 imm) 11 1 + bits_of (modulo 13 imm) 1 4 * 2 ^ 1) rs1 (rs2 + bits_of (modulo 13 imm) 5 6 * 2 ^ 5 + bits_of (modulo 13 imm) 12 1 * 2 ^ 11)) ≡ rs1 = p.in_rs1 in
    let read_rs2 : rs2_of (word_r v (bits_of (modulo 13 imm) 11 1 + bits_of (modulo 13 imm) 1 4 * 2 ^ 1) rs1 (rs2 + bits_of (modulo 13 imm) 5 6 * 2 ^ 5 + bits_of (modulo 13 imm) 12 1 * 2 ^ 11)) ≡ rs2 = omega (arith, p.upper, base.1, h.1) in
    let read_imm : immediate_b (word_r v (bits_of (modulo 13 imm) 11 1 + bits_of (modulo 13 imm) 1 4 * 2 ^ 1) rs1 (rs2 + bits_of (modulo 13 imm) 5 6 * 2 ^ 5 + bits_of (modulo 13 imm) 12 1 * 2 ^ 11)) ≡ imm = ap (signed 13) (branched_back (word_r v (bits_of (modulo 13 imm) 11 1 + bits_of (modulo 13 imm) 1 4 * 2 ^ 1) rs1 (rs2 + bits_of (modulo 13 imm) 5 6 * 2 ^ 5 + bits_of (modulo 13 imm) 12 1 * 2 ^ 11)) v rs1 rs2 (modulo 13 imm) p base.1 (modulo_13 imm) (even_13 imm h.3) h.1) ∙ signed_13 imm h.2 in
    decoded_as v (row_b 0x0000707f v make) (word_r v (bits_of (modulo 13 imm) 11 1 + bits_of (modulo 13 imm) 1 4 * 2 ^ 1) rs1 (rs2 + bits_of (modulo 13 imm) 5 6 * 2 ^ 5 + bits_of (modulo 13 imm) 12 1 * 2 ^ 11)) found (eq-eqb (bit_and (word_r v (bits_of (modulo 13 imm) 11 1 + bits_of (modulo 13 imm) 1 4 * 2 ^ 1) rs1 (rs2 + bits_of (modulo 13 imm) 5 6 * 2 ^ 5 + bits_of (modulo 13 imm) 12 1 * 2 ^ 11)) 0x707f) v (fits_funct3 v (bits_of (modulo 13 imm) 11 1 + bits_of (modulo 13 imm) 1 4 * 2 ^ 1) rs1 (rs2 + bits_of (modulo 13 imm) 5 6 * 2 ^ 5 + bits_of (modulo 13 imm) 12 1 * 2 ^ 11) base.0 base.1 (omega arith) h.0))
    ∙ three_fields make (rs1_of (word_r v (bits_of (modulo 13 imm) 11 1 + bits_of (modulo 13 imm) 1 4 * 2 ^ 1) rs1 (rs2 + bits_of (modulo 13 imm) 5 6 * 2 ^ 5 + bits_of (modulo 13 imm) 12 1 * 2 ^ 11))) rs1 (rs2_of (word_r v (bits_of (modulo 13 imm) 11 1 + bits_of (modulo 13 imm) 1 4 * 2 ^ 1) rs1 (rs2 + bits_of (modulo 13 imm) 5 6 * 2 ^ 5 + bits_of (modulo 13 imm) 12 1 * 2 ^ 11))) rs2 (immediate_b (word_r v (bits_of (modulo 13 imm) 11 1 + bits_of (modulo 13 imm) 1 4 * 2 ^ 1) rs1 (rs2 + bits_of (modulo 13 imm) 5 6 * 2 ^ 5 + bits_of (modulo 13 imm) 12 1 * 2 ^ 11))) imm read_rs1 read_rs2 read_imm

-- ---- the second shape

-- opcode, rd and all that stands from place 12 up
record LongParts (w o rd u : ℕ) : Type 0 where
  opcode : w % 2 ^ 7 ≡ o
  in_rd : w / 2 ^ 7 % 2 ^ 5 ≡ rd
  upper : w / 2 ^ 12 ≡ u

long_parts : (v rd top : ℕ) → v < 2 ^ 7 → rd < 2 ^ 5 → LongParts (word_long v rd top) v rd top
unfolding word_long
long_parts v rd top hv hrd = record { opcode = omega arith; in_rd = omega arith; upper = omega arith }

upper_back : (w v rd b : ℕ) → LongParts w v rd (bits_of b 12 20) → b < 2 ^ 32 → b % 2 ^ 12 ≡ 0 → bits_of w 12 20 * 2 ^ 12 ≡ b
upper_back w v rd b p small whole = omega (arith, p.upper)

jumped_back : (w v rd b : ℕ) → LongParts w v rd (bits_of b 12 8 + bits_of b 11 1 * 2 ^ 8 + bits_of b 1 10 * 2 ^ 9 + bits_of b 20 1 * 2 ^ 19) → b < 2 ^ 21 → b % 2 ≡ 0 → bits_of w 31 1 * 2 ^ 20 + bits_of w 12 8 * 2 ^ 12 + bits_of w 20 1 * 2 ^ 11 + bits_of w 21 10 * 2 ^ 1 ≡ b
jumped_back w v rd b p small even =
    let bit_31 : bits_of w 31 1 ≡ bits_of b 20 1 = omega (arith, p.upper) in
    let bits_12 : bits_of w 12 8 ≡ bits_of b 12 8 = omega (arith, p.upper) in
    let bit_20 : bits_of w 20 1 ≡ bits_of b 11 1 = omega (arith, p.upper) in
    let bits_21 : bits_of w 21 10 ≡ bits_of b 1 10 = omega (arith, p.upper) in
    omega (arith, bit_31, bits_12, bit_20, bits_21)

-- an upper immediate
pub encoded_u : (v : ℕ) (make : ℕ → ℤ → Insn) → v % 2 ^ 7 ≡ v → find (has_value v) rows ≡ Some (row_u 0x0000007f v make) → (rd : ℕ) (imm : ℤ) → IsUpper rd imm → decoded (word_u v rd imm) ≡ Some (make rd imm)
encoded_u v make base found rd imm h =
    let p : LongParts (word_long v rd (bits_of (modulo 32 imm) 12 20)) v rd (bits_of (modulo 32 imm) 12 20) = long_parts v rd (bits_of (modulo 32 imm) 12 20) (omega (arith, base)) h.0 in
    let read_imm : immediate_u (word_long v rd (bits_of (modulo 32 imm) 12 20)) ≡ imm = ap (signed 32) (upper_back (word_long v rd (bits_of (modulo 32 imm) 12 20)) v rd (modulo 32 imm) p (modulo_32 imm) (upper_32 imm h.2)) ∙ signed_32 imm h.1 in
    decoded_as v (row_u 0x0000007f v make) (word_long v rd (bits_of (modulo 32 imm) 12 20)) found (eq-eqb (bit_and (word_long v rd (bits_of (modulo 32 imm) 12 20)) 0x7f) v (opcode_mask (word_long v rd (bits_of (modulo 32 imm) 12 20)) v p.opcode))
    ∙ two_fields make (rd_of (word_long v rd (bits_of (modulo 32 imm) 12 20))) rd (immediate_u (word_long v rd (bits_of (modulo 32 imm) 12 20))) imm p.in_rd read_imm

-- a jump
pub encoded_j : (v : ℕ) (make : ℕ → ℤ → Insn) → v % 2 ^ 7 ≡ v → find (has_value v) rows ≡ Some (row_j 0x0000007f v make) → (rd : ℕ) (imm : ℤ) → IsJump rd imm → decoded (word_j v rd imm) ≡ Some (make rd imm)
encoded_j v make base found rd imm h =
    let p : LongParts (word_long v rd (bits_of (modulo 21 imm) 12 8 + bits_of (modulo 21 imm) 11 1 * 2 ^ 8 + bits_of (modulo 21 imm) 1 10 * 2 ^ 9 + bits_of (modulo 21 imm) 20 1 * 2 ^ 19)) v rd (bits_of (modulo 21 imm) 12 8 + bits_of (modulo 21 imm) 11 1 * 2 ^ 8 + bits_of (modulo 21 imm) 1 10 * 2 ^ 9 + bits_of (modulo 21 imm) 20 1 * 2 ^ 19) = long_parts v rd (bits_of (modulo 21 imm) 12 8 + bits_of (modulo 21 imm) 11 1 * 2 ^ 8 + bits_of (modulo 21 imm) 1 10 * 2 ^ 9 + bits_of (modulo 21 imm) 20 1 * 2 ^ 19) (omega (arith, base)) h.0 in
    let read_imm : immediate_j (word_long v rd (bits_of (modulo 21 imm) 12 8 + bits_of (modulo 21 imm) 11 1 * 2 ^ 8 + bits_of (modulo 21 imm) 1 10 * 2 ^ 9 + bits_of (modulo 21 imm) 20 1 * 2 ^ 19)) ≡ imm = ap (signed 21) (jumped_back (word_long v rd (bits_of (modulo 21 imm) 12 8 + bits_of (modulo 21 imm) 11 1 * 2 ^ 8 + bits_of (modulo 21 imm) 1 10 * 2 ^ 9 + bits_of (modulo 21 imm) 20 1 * 2 ^ 19)) v rd (modulo 21 imm) p (modulo_21 imm) (even_21 imm h.2)) ∙ signed_21 imm h.1 in
    decoded_as v (row_j 0x0000007f v make) (word_long v rd (bits_of (modulo 21 imm) 12 8 + bits_of (modulo 21 imm) 11 1 * 2 ^ 8 + bits_of (modulo 21 imm) 1 10 * 2 ^ 9 + bits_of (modulo 21 imm) 20 1 * 2 ^ 19)) found (eq-eqb (bit_and (word_long v rd (bits_of (modulo 21 imm) 12 8 + bits_of (modulo 21 imm) 11 1 * 2 ^ 8 + bits_of (modulo 21 imm) 1 10 * 2 ^ 9 + bits_of (modulo 21 imm) 20 1 * 2 ^ 19)) 0x7f) v (opcode_mask (word_long v rd (bits_of (modulo 21 imm) 12 8 + bits_of (modulo 21 imm) 11 1 * 2 ^ 8 + bits_of (modulo 21 imm) 1 10 * 2 ^ 9 + bits_of (modulo 21 imm) 20 1 * 2 ^ 19)) v p.opcode))
    ∙ two_fields make (rd_of (word_long v rd (bits_of (modulo 21 imm) 12 8 + bits_of (modulo 21 imm) 11 1 * 2 ^ 8 + bits_of (modulo 21 imm) 1 10 * 2 ^ 9 + bits_of (modulo 21 imm) 20 1 * 2 ^ 19))) rd (immediate_j (word_long v rd (bits_of (modulo 21 imm) 12 8 + bits_of (modulo 21 imm) 11 1 * 2 ^ 8 + bits_of (modulo 21 imm) 1 10 * 2 ^ 9 + bits_of (modulo 21 imm) 20 1 * 2 ^ 19))) imm p.in_rd read_imm
