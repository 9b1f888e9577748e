-- The ranges of an instruction's fields.
use Rattle.std.specs.Prelude.{◌≡◌, ℕ, ◌-◌, ◌^◌, ◌<◌, ℤ, pos, neg_ℤ, ◌≤ℤ◌, ◌<ℤ◌}
use Rattle.rv_alu.specs.Arithmetic.{modulo}
use Rattle.rv_decode.specs.declared.Insn.{Insn}

-- one of x0 to x31, or another number of five bits
abbrev pub IsRegister : ℕ → Type 0
IsRegister x = x < 2 ^ 5

-- z is a signed number of n bits
abbrev pub IsSigned : ℕ → ℤ → Type 0
IsSigned n z = (neg_ℤ (pos (2 ^ (n - 1))) ≤ℤ z) × (z <ℤ pos (2 ^ (n - 1)))

-- the low n bits of z are zero
abbrev pub IsMultiple : ℕ → ℤ → Type 0
IsMultiple n z = modulo n z ≡ 0

-- ---- the fields of each format

abbrev pub IsUpper : ℕ → ℤ → Type 0
IsUpper rd imm = IsRegister rd × IsSigned 32 imm × IsMultiple 12 imm

abbrev pub IsJump : ℕ → ℤ → Type 0
IsJump rd imm = IsRegister rd × IsSigned 21 imm × IsMultiple 1 imm

abbrev pub IsImmediate : ℕ → ℕ → ℤ → Type 0
IsImmediate rd rs1 imm = IsRegister rd × IsRegister rs1 × IsSigned 12 imm

abbrev pub IsBranch : ℕ → ℕ → ℤ → Type 0
IsBranch rs1 rs2 imm = IsRegister rs1 × IsRegister rs2 × IsSigned 13 imm × IsMultiple 1 imm

abbrev pub IsStore : ℕ → ℕ → ℤ → Type 0
IsStore rs1 rs2 imm = IsRegister rs1 × IsRegister rs2 × IsSigned 12 imm

abbrev pub IsShift : ℕ → ℕ → ℕ → Type 0
IsShift rd rs1 shamt = IsRegister rd × IsRegister rs1 × (shamt < 2 ^ 6)

abbrev pub IsWordShift : ℕ → ℕ → ℕ → Type 0
IsWordShift rd rs1 shamt = IsRegister rd × IsRegister rs1 × (shamt < 2 ^ 5)

abbrev pub IsThreeRegisters : ℕ → ℕ → ℕ → Type 0
IsThreeRegisters rd rs1 rs2 = IsRegister rd × IsRegister rs1 × IsRegister rs2

abbrev pub IsTwoRegisters : ℕ → ℕ → Type 0
IsTwoRegisters x y = IsRegister x × IsRegister y

abbrev pub IsCsr : ℕ → ℕ → ℕ → Type 0
IsCsr rd x csr = IsRegister rd × IsRegister x × (csr < 2 ^ 12)

-- every field of the instruction lies in the range that its place in the word has
abbrev pub IsInRange : Insn → Type 0
IsInRange (Insn.Lui rd imm) = IsUpper rd imm
IsInRange (Insn.Auipc rd imm) = IsUpper rd imm
IsInRange (Insn.Jal rd imm) = IsJump rd imm
IsInRange (Insn.Jalr rd rs1 imm) = IsImmediate rd rs1 imm
IsInRange (Insn.Beq rs1 rs2 imm) = IsBranch rs1 rs2 imm
IsInRange (Insn.Bne rs1 rs2 imm) = IsBranch rs1 rs2 imm
IsInRange (Insn.Blt rs1 rs2 imm) = IsBranch rs1 rs2 imm
IsInRange (Insn.Bge rs1 rs2 imm) = IsBranch rs1 rs2 imm
IsInRange (Insn.Bltu rs1 rs2 imm) = IsBranch rs1 rs2 imm
IsInRange (Insn.Bgeu rs1 rs2 imm) = IsBranch rs1 rs2 imm
IsInRange (Insn.Lb rd rs1 imm) = IsImmediate rd rs1 imm
IsInRange (Insn.Lh rd rs1 imm) = IsImmediate rd rs1 imm
IsInRange (Insn.Lw rd rs1 imm) = IsImmediate rd rs1 imm
IsInRange (Insn.Ld rd rs1 imm) = IsImmediate rd rs1 imm
IsInRange (Insn.Lbu rd rs1 imm) = IsImmediate rd rs1 imm
IsInRange (Insn.Lhu rd rs1 imm) = IsImmediate rd rs1 imm
IsInRange (Insn.Lwu rd rs1 imm) = IsImmediate rd rs1 imm
IsInRange (Insn.Sb rs1 rs2 imm) = IsStore rs1 rs2 imm
IsInRange (Insn.Sh rs1 rs2 imm) = IsStore rs1 rs2 imm
IsInRange (Insn.Sw rs1 rs2 imm) = IsStore rs1 rs2 imm
IsInRange (Insn.Sd rs1 rs2 imm) = IsStore rs1 rs2 imm
IsInRange (Insn.Addi rd rs1 imm) = IsImmediate rd rs1 imm
IsInRange (Insn.Slti rd rs1 imm) = IsImmediate rd rs1 imm
IsInRange (Insn.Sltiu rd rs1 imm) = IsImmediate rd rs1 imm
IsInRange (Insn.Xori rd rs1 imm) = IsImmediate rd rs1 imm
IsInRange (Insn.Ori rd rs1 imm) = IsImmediate rd rs1 imm
IsInRange (Insn.Andi rd rs1 imm) = IsImmediate rd rs1 imm
IsInRange (Insn.Addiw rd rs1 imm) = IsImmediate rd rs1 imm
IsInRange (Insn.Slli rd rs1 shamt) = IsShift rd rs1 shamt
IsInRange (Insn.Srli rd rs1 shamt) = IsShift rd rs1 shamt
IsInRange (Insn.Srai rd rs1 shamt) = IsShift rd rs1 shamt
IsInRange (Insn.Slliw rd rs1 shamt) = IsWordShift rd rs1 shamt
IsInRange (Insn.Srliw rd rs1 shamt) = IsWordShift rd rs1 shamt
IsInRange (Insn.Sraiw rd rs1 shamt) = IsWordShift rd rs1 shamt
IsInRange (Insn.Add rd rs1 rs2) = IsThreeRegisters rd rs1 rs2
IsInRange (Insn.Sub rd rs1 rs2) = IsThreeRegisters rd rs1 rs2
IsInRange (Insn.Sll rd rs1 rs2) = IsThreeRegisters rd rs1 rs2
IsInRange (Insn.Slt rd rs1 rs2) = IsThreeRegisters rd rs1 rs2
IsInRange (Insn.Sltu rd rs1 rs2) = IsThreeRegisters rd rs1 rs2
IsInRange (Insn.Xor rd rs1 rs2) = IsThreeRegisters rd rs1 rs2
IsInRange (Insn.Srl rd rs1 rs2) = IsThreeRegisters rd rs1 rs2
IsInRange (Insn.Sra rd rs1 rs2) = IsThreeRegisters rd rs1 rs2
IsInRange (Insn.Or rd rs1 rs2) = IsThreeRegisters rd rs1 rs2
IsInRange (Insn.And rd rs1 rs2) = IsThreeRegisters rd rs1 rs2
IsInRange (Insn.Addw rd rs1 rs2) = IsThreeRegisters rd rs1 rs2
IsInRange (Insn.Subw rd rs1 rs2) = IsThreeRegisters rd rs1 rs2
IsInRange (Insn.Sllw rd rs1 rs2) = IsThreeRegisters rd rs1 rs2
IsInRange (Insn.Srlw rd rs1 rs2) = IsThreeRegisters rd rs1 rs2
IsInRange (Insn.Sraw rd rs1 rs2) = IsThreeRegisters rd rs1 rs2
IsInRange (Insn.Mul rd rs1 rs2) = IsThreeRegisters rd rs1 rs2
IsInRange (Insn.Mulh rd rs1 rs2) = IsThreeRegisters rd rs1 rs2
IsInRange (Insn.Mulhsu rd rs1 rs2) = IsThreeRegisters rd rs1 rs2
IsInRange (Insn.Mulhu rd rs1 rs2) = IsThreeRegisters rd rs1 rs2
IsInRange (Insn.Div rd rs1 rs2) = IsThreeRegisters rd rs1 rs2
IsInRange (Insn.Divu rd rs1 rs2) = IsThreeRegisters rd rs1 rs2
IsInRange (Insn.Rem rd rs1 rs2) = IsThreeRegisters rd rs1 rs2
IsInRange (Insn.Remu rd rs1 rs2) = IsThreeRegisters rd rs1 rs2
IsInRange (Insn.Mulw rd rs1 rs2) = IsThreeRegisters rd rs1 rs2
IsInRange (Insn.Divw rd rs1 rs2) = IsThreeRegisters rd rs1 rs2
IsInRange (Insn.Divuw rd rs1 rs2) = IsThreeRegisters rd rs1 rs2
IsInRange (Insn.Remw rd rs1 rs2) = IsThreeRegisters rd rs1 rs2
IsInRange (Insn.Remuw rd rs1 rs2) = IsThreeRegisters rd rs1 rs2
IsInRange Insn.Fence = Unit {0}
IsInRange Insn.FenceI = Unit {0}
IsInRange (Insn.Csrrw rd rs1 csr) = IsCsr rd rs1 csr
IsInRange (Insn.Csrrs rd rs1 csr) = IsCsr rd rs1 csr
IsInRange (Insn.Csrrc rd rs1 csr) = IsCsr rd rs1 csr
IsInRange (Insn.Csrrwi rd uimm csr) = IsCsr rd uimm csr
IsInRange (Insn.Csrrsi rd uimm csr) = IsCsr rd uimm csr
IsInRange (Insn.Csrrci rd uimm csr) = IsCsr rd uimm csr
IsInRange Insn.Ecall = Unit {0}
IsInRange Insn.Ebreak = Unit {0}
IsInRange Insn.Sret = Unit {0}
IsInRange Insn.Mret = Unit {0}
IsInRange Insn.Wfi = Unit {0}
IsInRange Insn.Dret = Unit {0}
IsInRange (Insn.SfenceVma rs1 rs2) = IsTwoRegisters rs1 rs2
IsInRange (Insn.LrW rd rs1) = IsTwoRegisters rd rs1
IsInRange (Insn.LrD rd rs1) = IsTwoRegisters rd rs1
IsInRange (Insn.ScW rd rs1 rs2) = IsThreeRegisters rd rs1 rs2
IsInRange (Insn.AmoswapW rd rs1 rs2) = IsThreeRegisters rd rs1 rs2
IsInRange (Insn.AmoaddW rd rs1 rs2) = IsThreeRegisters rd rs1 rs2
IsInRange (Insn.AmoxorW rd rs1 rs2) = IsThreeRegisters rd rs1 rs2
IsInRange (Insn.AmoandW rd rs1 rs2) = IsThreeRegisters rd rs1 rs2
IsInRange (Insn.AmoorW rd rs1 rs2) = IsThreeRegisters rd rs1 rs2
IsInRange (Insn.AmominW rd rs1 rs2) = IsThreeRegisters rd rs1 rs2
IsInRange (Insn.AmomaxW rd rs1 rs2) = IsThreeRegisters rd rs1 rs2
IsInRange (Insn.AmominuW rd rs1 rs2) = IsThreeRegisters rd rs1 rs2
IsInRange (Insn.AmomaxuW rd rs1 rs2) = IsThreeRegisters rd rs1 rs2
IsInRange (Insn.ScD rd rs1 rs2) = IsThreeRegisters rd rs1 rs2
IsInRange (Insn.AmoswapD rd rs1 rs2) = IsThreeRegisters rd rs1 rs2
IsInRange (Insn.AmoaddD rd rs1 rs2) = IsThreeRegisters rd rs1 rs2
IsInRange (Insn.AmoxorD rd rs1 rs2) = IsThreeRegisters rd rs1 rs2
IsInRange (Insn.AmoandD rd rs1 rs2) = IsThreeRegisters rd rs1 rs2
IsInRange (Insn.AmoorD rd rs1 rs2) = IsThreeRegisters rd rs1 rs2
IsInRange (Insn.AmominD rd rs1 rs2) = IsThreeRegisters rd rs1 rs2
IsInRange (Insn.AmomaxD rd rs1 rs2) = IsThreeRegisters rd rs1 rs2
IsInRange (Insn.AmominuD rd rs1 rs2) = IsThreeRegisters rd rs1 rs2
IsInRange (Insn.AmomaxuD rd rs1 rs2) = IsThreeRegisters rd rs1 rs2
