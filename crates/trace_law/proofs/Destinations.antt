-- The register that a decoded instruction writes is one of x0 to x31.
use Rattle.std.proofs.Common.{ℕ, ◌+◌, ◌/◌, ◌%◌, ◌^◌, ◌<◌, ◌==◌, Bool, true, false, if◌then◌else◌, List, [], ◌∷◌, Option, Some, IfSome, arith}
use Rattle.rv_decode.specs.declared.Insn.{Insn}
use Rattle.rv_decode.specs.Compressed.{expanded, forms}
use Rattle.rv_decode.specs.Words.{Row, decoded, decoded_by, is_match, rows}
use Rattle.hart_step.specs.Step as step

-- the register that an instruction writes, or x0
abbrev pub destination : Insn → ℕ
destination (Insn.Lui rd imm) = rd
destination (Insn.Auipc rd imm) = rd
destination (Insn.Jal rd imm) = rd
destination (Insn.Jalr rd rs1 imm) = rd
destination (Insn.Lb rd rs1 imm) = rd
destination (Insn.Lh rd rs1 imm) = rd
destination (Insn.Lw rd rs1 imm) = rd
destination (Insn.Ld rd rs1 imm) = rd
destination (Insn.Lbu rd rs1 imm) = rd
destination (Insn.Lhu rd rs1 imm) = rd
destination (Insn.Lwu rd rs1 imm) = rd
destination (Insn.Addi rd rs1 imm) = rd
destination (Insn.Slti rd rs1 imm) = rd
destination (Insn.Sltiu rd rs1 imm) = rd
destination (Insn.Xori rd rs1 imm) = rd
destination (Insn.Ori rd rs1 imm) = rd
destination (Insn.Andi rd rs1 imm) = rd
destination (Insn.Addiw rd rs1 imm) = rd
destination (Insn.Slli rd rs1 shamt) = rd
destination (Insn.Srli rd rs1 shamt) = rd
destination (Insn.Srai rd rs1 shamt) = rd
destination (Insn.Slliw rd rs1 shamt) = rd
destination (Insn.Srliw rd rs1 shamt) = rd
destination (Insn.Sraiw rd rs1 shamt) = rd
destination (Insn.Add rd rs1 rs2) = rd
destination (Insn.Sub rd rs1 rs2) = rd
destination (Insn.Sll rd rs1 rs2) = rd
destination (Insn.Slt rd rs1 rs2) = rd
destination (Insn.Sltu rd rs1 rs2) = rd
destination (Insn.Xor rd rs1 rs2) = rd
destination (Insn.Srl rd rs1 rs2) = rd
destination (Insn.Sra rd rs1 rs2) = rd
destination (Insn.Or rd rs1 rs2) = rd
destination (Insn.And rd rs1 rs2) = rd
destination (Insn.Addw rd rs1 rs2) = rd
destination (Insn.Subw rd rs1 rs2) = rd
destination (Insn.Sllw rd rs1 rs2) = rd
destination (Insn.Srlw rd rs1 rs2) = rd
destination (Insn.Sraw rd rs1 rs2) = rd
destination (Insn.Mul rd rs1 rs2) = rd
destination (Insn.Mulh rd rs1 rs2) = rd
destination (Insn.Mulhsu rd rs1 rs2) = rd
destination (Insn.Mulhu rd rs1 rs2) = rd
destination (Insn.Div rd rs1 rs2) = rd
destination (Insn.Divu rd rs1 rs2) = rd
destination (Insn.Rem rd rs1 rs2) = rd
destination (Insn.Remu rd rs1 rs2) = rd
destination (Insn.Mulw rd rs1 rs2) = rd
destination (Insn.Divw rd rs1 rs2) = rd
destination (Insn.Divuw rd rs1 rs2) = rd
destination (Insn.Remw rd rs1 rs2) = rd
destination (Insn.Remuw rd rs1 rs2) = rd
destination (Insn.Csrrw rd rs1 csr) = rd
destination (Insn.Csrrs rd rs1 csr) = rd
destination (Insn.Csrrc rd rs1 csr) = rd
destination (Insn.Csrrwi rd uimm csr) = rd
destination (Insn.Csrrsi rd uimm csr) = rd
destination (Insn.Csrrci rd uimm csr) = rd
destination (Insn.LrW rd rs1) = rd
destination (Insn.LrD rd rs1) = rd
destination (Insn.ScW rd rs1 rs2) = rd
destination (Insn.AmoswapW rd rs1 rs2) = rd
destination (Insn.AmoaddW rd rs1 rs2) = rd
destination (Insn.AmoxorW rd rs1 rs2) = rd
destination (Insn.AmoandW rd rs1 rs2) = rd
destination (Insn.AmoorW rd rs1 rs2) = rd
destination (Insn.AmominW rd rs1 rs2) = rd
destination (Insn.AmomaxW rd rs1 rs2) = rd
destination (Insn.AmominuW rd rs1 rs2) = rd
destination (Insn.AmomaxuW rd rs1 rs2) = rd
destination (Insn.ScD rd rs1 rs2) = rd
destination (Insn.AmoswapD rd rs1 rs2) = rd
destination (Insn.AmoaddD rd rs1 rs2) = rd
destination (Insn.AmoxorD rd rs1 rs2) = rd
destination (Insn.AmoandD rd rs1 rs2) = rd
destination (Insn.AmoorD rd rs1 rs2) = rd
destination (Insn.AmominD rd rs1 rs2) = rd
destination (Insn.AmomaxD rd rs1 rs2) = rd
destination (Insn.AmominuD rd rs1 rs2) = rd
destination (Insn.AmomaxuD rd rs1 rs2) = rd
destination _ = 0

abbrev pub WritesRegister : Insn → Type 0
WritesRegister insn = destination insn < 32

-- ---- the fields

field_below : (w lo : ℕ) → w / 2 ^ lo % 2 ^ 5 < 32
field_below w lo = omega arith

near_below : (w lo : ℕ) → 8 + w / 2 ^ lo % 2 ^ 3 < 32
near_below w lo = omega arith

-- ---- the rows

abbrev RowsWrite : List Row → Type 0
RowsWrite [] = Unit {0}
RowsWrite (r ∷ rest) = ((w : ℕ) → WritesRegister (r.make w)) × RowsWrite rest

either_writes : (b : Bool) (x : Insn) (o : Option Insn) → WritesRegister x → IfSome o WritesRegister → IfSome (if b then Some x else o) WritesRegister
either_writes true x o first second = first
either_writes false x o first second = second

by_rows : (L : List Row) → RowsWrite L → (w : ℕ) → IfSome (decoded_by L w) WritesRegister
by_rows [] write w = tt
by_rows (r ∷ rest) write w = either_writes (is_match r w) (r.make w) (decoded_by rest w) (write.0 w) (by_rows rest write.1 w)

rows_write : RowsWrite rows
unfolding rows
rows_write = search (arith, field_below)

forms_write : RowsWrite forms
unfolding forms
forms_write = search (arith, field_below, near_below)

word_writes : (w : ℕ) → IfSome (decoded w) WritesRegister
unfolding decoded
word_writes w = by_rows rows rows_write w

form_writes : (c : ℕ) → IfSome (expanded c) WritesRegister
unfolding expanded
form_writes c = by_rows forms forms_write c

by_length : (b : Bool) (x y : Option Insn) → IfSome x WritesRegister → IfSome y WritesRegister → IfSome (if b then x else y) WritesRegister
by_length true x y first second = first
by_length false x y first second = second

pub decoded_writes : (word len : ℕ) → IfSome (step.decoded word len) WritesRegister
decoded_writes word len = by_length (len == 2) (expanded word) (decoded word) (form_writes word) (word_writes word)
