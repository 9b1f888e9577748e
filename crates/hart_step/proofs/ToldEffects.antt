-- Every instruction does the same again where it is told what it showed, also with one reservation more.
use Rattle.std.proofs.Common.{ℕ, ◌==◌, not, Option, refl}
use Rattle.rv_alu.specs.Arithmetic.{alu_of, mul_div_of, modulo}
use Rattle.rv_alu.specs.declared.BinOp.{BinOp}
use Rattle.rv_alu.specs.declared.MulOp.{MulOp}
use Rattle.rv_alu.specs.declared.AmoOp.{AmoOp}
use Rattle.rv_alu.specs.declared.CondOp.{CondOp}
use Rattle.rv_decode.specs.declared.Insn.{Insn}
use Rattle.hart_step.specs.declared.hart.Hart.{Hart}
use Rattle.hart_step.specs.declared.access.Extension.{Extension}
use Rattle.hart_step.specs.Allowed.{IsAllowed}
use Rattle.hart_step.specs.Effects.{Situation, effect, pc_after, next_of, offset_by, even_part, may_return_machine, may_return_supervisor, may_wait, may_fence_translation}
use Rattle.hart_step.specs.Harts.{is_in_debug, register}
use Rattle.hart_step.specs.Memory.{MemoryState}
use Rattle.hart_step.proofs.ToldClasses.{goes_to, writes_follow, loads_follow, stores_follow, conditional_follows, reserves_follow, updates_follow, writes_csr_follow, sets_csr_follow, clears_csr_follow, either_follows}
use Rattle.hart_step.specs.Told.{Covers, OutcomeFollows, reserved, told_of}

pub effect_follows : (here : Situation) (insn : Insn) (hart : Hart) (memory : MemoryState) (r : Option ℕ) → Covers r hart.reservation → IsAllowed hart here.given → OutcomeFollows (effect (record here { given = told_of (effect here insn hart memory) }) insn (reserved r hart) memory) (effect here insn hart memory)
unfolding effect
effect_follows here (Insn.Lui rd imm) hart memory r covers allowed = writes_follow r hart memory covers rd (modulo 64 imm) (pc_after hart here.len)
effect_follows here (Insn.Auipc rd imm) hart memory r covers allowed = writes_follow r hart memory covers rd (offset_by hart.pc imm) (pc_after hart here.len)
effect_follows here (Insn.Jal rd imm) hart memory r covers allowed = writes_follow r hart memory covers rd (pc_after hart here.len) (offset_by hart.pc imm)
effect_follows here (Insn.Jalr rd rs1 imm) hart memory r covers allowed = writes_follow r hart memory covers rd (pc_after hart here.len) (even_part (offset_by (register hart rs1) imm))
effect_follows here (Insn.Beq rs1 rs2 imm) hart memory r covers allowed = goes_to r hart memory covers (next_of CondOp.Eq here.len rs1 rs2 imm hart)
effect_follows here (Insn.Bne rs1 rs2 imm) hart memory r covers allowed = goes_to r hart memory covers (next_of CondOp.Ne here.len rs1 rs2 imm hart)
effect_follows here (Insn.Blt rs1 rs2 imm) hart memory r covers allowed = goes_to r hart memory covers (next_of CondOp.Lt here.len rs1 rs2 imm hart)
effect_follows here (Insn.Bge rs1 rs2 imm) hart memory r covers allowed = goes_to r hart memory covers (next_of CondOp.Ge here.len rs1 rs2 imm hart)
effect_follows here (Insn.Bltu rs1 rs2 imm) hart memory r covers allowed = goes_to r hart memory covers (next_of CondOp.Ltu here.len rs1 rs2 imm hart)
effect_follows here (Insn.Bgeu rs1 rs2 imm) hart memory r covers allowed = goes_to r hart memory covers (next_of CondOp.Geu here.len rs1 rs2 imm hart)
effect_follows here (Insn.Lb rd rs1 imm) hart memory r covers allowed = loads_follow here.given r hart memory covers here.harts 1 (λ at. allowed.device at 1) Extension.Signed here.len rd rs1 imm
effect_follows here (Insn.Lh rd rs1 imm) hart memory r covers allowed = loads_follow here.given r hart memory covers here.harts 2 (λ at. allowed.device at 2) Extension.Signed here.len rd rs1 imm
effect_follows here (Insn.Lw rd rs1 imm) hart memory r covers allowed = loads_follow here.given r hart memory covers here.harts 4 (λ at. allowed.device at 4) Extension.Signed here.len rd rs1 imm
effect_follows here (Insn.Ld rd rs1 imm) hart memory r covers allowed = loads_follow here.given r hart memory covers here.harts 8 (λ at. allowed.device at 8) Extension.Signed here.len rd rs1 imm
effect_follows here (Insn.Lbu rd rs1 imm) hart memory r covers allowed = loads_follow here.given r hart memory covers here.harts 1 (λ at. allowed.device at 1) Extension.Unsigned here.len rd rs1 imm
effect_follows here (Insn.Lhu rd rs1 imm) hart memory r covers allowed = loads_follow here.given r hart memory covers here.harts 2 (λ at. allowed.device at 2) Extension.Unsigned here.len rd rs1 imm
effect_follows here (Insn.Lwu rd rs1 imm) hart memory r covers allowed = loads_follow here.given r hart memory covers here.harts 4 (λ at. allowed.device at 4) Extension.Unsigned here.len rd rs1 imm
effect_follows here (Insn.Sb rs1 rs2 imm) hart memory r covers allowed = stores_follow r hart memory covers here.harts 1 here.len rs1 rs2 imm
effect_follows here (Insn.Sh rs1 rs2 imm) hart memory r covers allowed = stores_follow r hart memory covers here.harts 2 here.len rs1 rs2 imm
effect_follows here (Insn.Sw rs1 rs2 imm) hart memory r covers allowed = stores_follow r hart memory covers here.harts 4 here.len rs1 rs2 imm
effect_follows here (Insn.Sd rs1 rs2 imm) hart memory r covers allowed = stores_follow r hart memory covers here.harts 8 here.len rs1 rs2 imm
effect_follows here (Insn.Addi rd rs1 imm) hart memory r covers allowed = writes_follow r hart memory covers rd (alu_of BinOp.Add (register hart rs1) (modulo 64 imm)) (pc_after hart here.len)
effect_follows here (Insn.Slti rd rs1 imm) hart memory r covers allowed = writes_follow r hart memory covers rd (alu_of BinOp.Slt (register hart rs1) (modulo 64 imm)) (pc_after hart here.len)
effect_follows here (Insn.Sltiu rd rs1 imm) hart memory r covers allowed = writes_follow r hart memory covers rd (alu_of BinOp.Sltu (register hart rs1) (modulo 64 imm)) (pc_after hart here.len)
effect_follows here (Insn.Xori rd rs1 imm) hart memory r covers allowed = writes_follow r hart memory covers rd (alu_of BinOp.Xor (register hart rs1) (modulo 64 imm)) (pc_after hart here.len)
effect_follows here (Insn.Ori rd rs1 imm) hart memory r covers allowed = writes_follow r hart memory covers rd (alu_of BinOp.Or (register hart rs1) (modulo 64 imm)) (pc_after hart here.len)
effect_follows here (Insn.Andi rd rs1 imm) hart memory r covers allowed = writes_follow r hart memory covers rd (alu_of BinOp.And (register hart rs1) (modulo 64 imm)) (pc_after hart here.len)
effect_follows here (Insn.Addiw rd rs1 imm) hart memory r covers allowed = writes_follow r hart memory covers rd (alu_of BinOp.Addw (register hart rs1) (modulo 64 imm)) (pc_after hart here.len)
effect_follows here (Insn.Slli rd rs1 shamt) hart memory r covers allowed = writes_follow r hart memory covers rd (alu_of BinOp.Sll (register hart rs1) shamt) (pc_after hart here.len)
effect_follows here (Insn.Srli rd rs1 shamt) hart memory r covers allowed = writes_follow r hart memory covers rd (alu_of BinOp.Srl (register hart rs1) shamt) (pc_after hart here.len)
effect_follows here (Insn.Srai rd rs1 shamt) hart memory r covers allowed = writes_follow r hart memory covers rd (alu_of BinOp.Sra (register hart rs1) shamt) (pc_after hart here.len)
effect_follows here (Insn.Slliw rd rs1 shamt) hart memory r covers allowed = writes_follow r hart memory covers rd (alu_of BinOp.Sllw (register hart rs1) shamt) (pc_after hart here.len)
effect_follows here (Insn.Srliw rd rs1 shamt) hart memory r covers allowed = writes_follow r hart memory covers rd (alu_of BinOp.Srlw (register hart rs1) shamt) (pc_after hart here.len)
effect_follows here (Insn.Sraiw rd rs1 shamt) hart memory r covers allowed = writes_follow r hart memory covers rd (alu_of BinOp.Sraw (register hart rs1) shamt) (pc_after hart here.len)
effect_follows here (Insn.Add rd rs1 rs2) hart memory r covers allowed = writes_follow r hart memory covers rd (alu_of BinOp.Add (register hart rs1) (register hart rs2)) (pc_after hart here.len)
effect_follows here (Insn.Sub rd rs1 rs2) hart memory r covers allowed = writes_follow r hart memory covers rd (alu_of BinOp.Sub (register hart rs1) (register hart rs2)) (pc_after hart here.len)
effect_follows here (Insn.Sll rd rs1 rs2) hart memory r covers allowed = writes_follow r hart memory covers rd (alu_of BinOp.Sll (register hart rs1) (register hart rs2)) (pc_after hart here.len)
effect_follows here (Insn.Slt rd rs1 rs2) hart memory r covers allowed = writes_follow r hart memory covers rd (alu_of BinOp.Slt (register hart rs1) (register hart rs2)) (pc_after hart here.len)
effect_follows here (Insn.Sltu rd rs1 rs2) hart memory r covers allowed = writes_follow r hart memory covers rd (alu_of BinOp.Sltu (register hart rs1) (register hart rs2)) (pc_after hart here.len)
effect_follows here (Insn.Xor rd rs1 rs2) hart memory r covers allowed = writes_follow r hart memory covers rd (alu_of BinOp.Xor (register hart rs1) (register hart rs2)) (pc_after hart here.len)
effect_follows here (Insn.Srl rd rs1 rs2) hart memory r covers allowed = writes_follow r hart memory covers rd (alu_of BinOp.Srl (register hart rs1) (register hart rs2)) (pc_after hart here.len)
effect_follows here (Insn.Sra rd rs1 rs2) hart memory r covers allowed = writes_follow r hart memory covers rd (alu_of BinOp.Sra (register hart rs1) (register hart rs2)) (pc_after hart here.len)
effect_follows here (Insn.Or rd rs1 rs2) hart memory r covers allowed = writes_follow r hart memory covers rd (alu_of BinOp.Or (register hart rs1) (register hart rs2)) (pc_after hart here.len)
effect_follows here (Insn.And rd rs1 rs2) hart memory r covers allowed = writes_follow r hart memory covers rd (alu_of BinOp.And (register hart rs1) (register hart rs2)) (pc_after hart here.len)
effect_follows here (Insn.Addw rd rs1 rs2) hart memory r covers allowed = writes_follow r hart memory covers rd (alu_of BinOp.Addw (register hart rs1) (register hart rs2)) (pc_after hart here.len)
effect_follows here (Insn.Subw rd rs1 rs2) hart memory r covers allowed = writes_follow r hart memory covers rd (alu_of BinOp.Subw (register hart rs1) (register hart rs2)) (pc_after hart here.len)
effect_follows here (Insn.Sllw rd rs1 rs2) hart memory r covers allowed = writes_follow r hart memory covers rd (alu_of BinOp.Sllw (register hart rs1) (register hart rs2)) (pc_after hart here.len)
effect_follows here (Insn.Srlw rd rs1 rs2) hart memory r covers allowed = writes_follow r hart memory covers rd (alu_of BinOp.Srlw (register hart rs1) (register hart rs2)) (pc_after hart here.len)
effect_follows here (Insn.Sraw rd rs1 rs2) hart memory r covers allowed = writes_follow r hart memory covers rd (alu_of BinOp.Sraw (register hart rs1) (register hart rs2)) (pc_after hart here.len)
effect_follows here (Insn.Mul rd rs1 rs2) hart memory r covers allowed = writes_follow r hart memory covers rd (mul_div_of MulOp.Mul (register hart rs1) (register hart rs2)) (pc_after hart here.len)
effect_follows here (Insn.Mulh rd rs1 rs2) hart memory r covers allowed = writes_follow r hart memory covers rd (mul_div_of MulOp.Mulh (register hart rs1) (register hart rs2)) (pc_after hart here.len)
effect_follows here (Insn.Mulhsu rd rs1 rs2) hart memory r covers allowed = writes_follow r hart memory covers rd (mul_div_of MulOp.Mulhsu (register hart rs1) (register hart rs2)) (pc_after hart here.len)
effect_follows here (Insn.Mulhu rd rs1 rs2) hart memory r covers allowed = writes_follow r hart memory covers rd (mul_div_of MulOp.Mulhu (register hart rs1) (register hart rs2)) (pc_after hart here.len)
effect_follows here (Insn.Div rd rs1 rs2) hart memory r covers allowed = writes_follow r hart memory covers rd (mul_div_of MulOp.Div (register hart rs1) (register hart rs2)) (pc_after hart here.len)
effect_follows here (Insn.Divu rd rs1 rs2) hart memory r covers allowed = writes_follow r hart memory covers rd (mul_div_of MulOp.Divu (register hart rs1) (register hart rs2)) (pc_after hart here.len)
effect_follows here (Insn.Rem rd rs1 rs2) hart memory r covers allowed = writes_follow r hart memory covers rd (mul_div_of MulOp.Rem (register hart rs1) (register hart rs2)) (pc_after hart here.len)
effect_follows here (Insn.Remu rd rs1 rs2) hart memory r covers allowed = writes_follow r hart memory covers rd (mul_div_of MulOp.Remu (register hart rs1) (register hart rs2)) (pc_after hart here.len)
effect_follows here (Insn.Mulw rd rs1 rs2) hart memory r covers allowed = writes_follow r hart memory covers rd (mul_div_of MulOp.Mulw (register hart rs1) (register hart rs2)) (pc_after hart here.len)
effect_follows here (Insn.Divw rd rs1 rs2) hart memory r covers allowed = writes_follow r hart memory covers rd (mul_div_of MulOp.Divw (register hart rs1) (register hart rs2)) (pc_after hart here.len)
effect_follows here (Insn.Divuw rd rs1 rs2) hart memory r covers allowed = writes_follow r hart memory covers rd (mul_div_of MulOp.Divuw (register hart rs1) (register hart rs2)) (pc_after hart here.len)
effect_follows here (Insn.Remw rd rs1 rs2) hart memory r covers allowed = writes_follow r hart memory covers rd (mul_div_of MulOp.Remw (register hart rs1) (register hart rs2)) (pc_after hart here.len)
effect_follows here (Insn.Remuw rd rs1 rs2) hart memory r covers allowed = writes_follow r hart memory covers rd (mul_div_of MulOp.Remuw (register hart rs1) (register hart rs2)) (pc_after hart here.len)
effect_follows here Insn.Fence hart memory r covers allowed = goes_to r hart memory covers (pc_after hart here.len)
effect_follows here Insn.FenceI hart memory r covers allowed = goes_to r hart memory covers (pc_after hart here.len)
effect_follows here (Insn.Csrrw rd rs1 csr) hart memory r covers allowed = writes_csr_follow here.given r hart memory covers allowed.volatile here.len here.word rd csr (register hart rs1)
effect_follows here (Insn.Csrrs rd rs1 csr) hart memory r covers allowed = sets_csr_follow here.given r hart memory covers allowed.volatile here.len here.word rd csr (not (rs1 == 0)) (register hart rs1)
effect_follows here (Insn.Csrrc rd rs1 csr) hart memory r covers allowed = clears_csr_follow here.given r hart memory covers allowed.volatile here.len here.word rd csr (not (rs1 == 0)) (register hart rs1)
effect_follows here (Insn.Csrrwi rd uimm csr) hart memory r covers allowed = writes_csr_follow here.given r hart memory covers allowed.volatile here.len here.word rd csr uimm
effect_follows here (Insn.Csrrsi rd uimm csr) hart memory r covers allowed = sets_csr_follow here.given r hart memory covers allowed.volatile here.len here.word rd csr (not (uimm == 0)) uimm
effect_follows here (Insn.Csrrci rd uimm csr) hart memory r covers allowed = clears_csr_follow here.given r hart memory covers allowed.volatile here.len here.word rd csr (not (uimm == 0)) uimm
effect_follows here Insn.Ecall hart memory r covers allowed = refl
effect_follows here Insn.Ebreak hart memory r covers allowed = refl
effect_follows here Insn.Sret hart memory r covers allowed = either_follows (may_return_supervisor hart) _ _ _ _ (record { reservation = r; is = refl; covers = covers }) refl
effect_follows here Insn.Mret hart memory r covers allowed = either_follows (may_return_machine hart) _ _ _ _ (record { reservation = r; is = refl; covers = covers }) refl
effect_follows here Insn.Wfi hart memory r covers allowed = either_follows (may_wait hart) _ _ _ _ (goes_to r hart memory covers (pc_after hart here.len)) refl
effect_follows here Insn.Dret hart memory r covers allowed = either_follows (is_in_debug hart) _ _ _ _ (record { reservation = r; is = refl; covers = covers }) refl
effect_follows here (Insn.SfenceVma rs1 rs2) hart memory r covers allowed = either_follows (may_fence_translation hart) _ _ _ _ (goes_to r hart memory covers (pc_after hart here.len)) refl
effect_follows here (Insn.LrW rd rs1) hart memory r covers allowed = reserves_follow r hart memory covers 4 here.len rd rs1
effect_follows here (Insn.LrD rd rs1) hart memory r covers allowed = reserves_follow r hart memory covers 8 here.len rd rs1
effect_follows here (Insn.ScW rd rs1 rs2) hart memory r covers allowed = conditional_follows here.given r hart memory covers 4 here.len rd rs1 rs2
effect_follows here (Insn.AmoswapW rd rs1 rs2) hart memory r covers allowed = updates_follow r hart memory covers AmoOp.Swap 4 here.len rd rs1 rs2
effect_follows here (Insn.AmoaddW rd rs1 rs2) hart memory r covers allowed = updates_follow r hart memory covers AmoOp.Add 4 here.len rd rs1 rs2
effect_follows here (Insn.AmoxorW rd rs1 rs2) hart memory r covers allowed = updates_follow r hart memory covers AmoOp.Xor 4 here.len rd rs1 rs2
effect_follows here (Insn.AmoandW rd rs1 rs2) hart memory r covers allowed = updates_follow r hart memory covers AmoOp.And 4 here.len rd rs1 rs2
effect_follows here (Insn.AmoorW rd rs1 rs2) hart memory r covers allowed = updates_follow r hart memory covers AmoOp.Or 4 here.len rd rs1 rs2
effect_follows here (Insn.AmominW rd rs1 rs2) hart memory r covers allowed = updates_follow r hart memory covers AmoOp.Min 4 here.len rd rs1 rs2
effect_follows here (Insn.AmomaxW rd rs1 rs2) hart memory r covers allowed = updates_follow r hart memory covers AmoOp.Max 4 here.len rd rs1 rs2
effect_follows here (Insn.AmominuW rd rs1 rs2) hart memory r covers allowed = updates_follow r hart memory covers AmoOp.Minu 4 here.len rd rs1 rs2
effect_follows here (Insn.AmomaxuW rd rs1 rs2) hart memory r covers allowed = updates_follow r hart memory covers AmoOp.Maxu 4 here.len rd rs1 rs2
effect_follows here (Insn.ScD rd rs1 rs2) hart memory r covers allowed = conditional_follows here.given r hart memory covers 8 here.len rd rs1 rs2
effect_follows here (Insn.AmoswapD rd rs1 rs2) hart memory r covers allowed = updates_follow r hart memory covers AmoOp.Swap 8 here.len rd rs1 rs2
effect_follows here (Insn.AmoaddD rd rs1 rs2) hart memory r covers allowed = updates_follow r hart memory covers AmoOp.Add 8 here.len rd rs1 rs2
effect_follows here (Insn.AmoxorD rd rs1 rs2) hart memory r covers allowed = updates_follow r hart memory covers AmoOp.Xor 8 here.len rd rs1 rs2
effect_follows here (Insn.AmoandD rd rs1 rs2) hart memory r covers allowed = updates_follow r hart memory covers AmoOp.And 8 here.len rd rs1 rs2
effect_follows here (Insn.AmoorD rd rs1 rs2) hart memory r covers allowed = updates_follow r hart memory covers AmoOp.Or 8 here.len rd rs1 rs2
effect_follows here (Insn.AmominD rd rs1 rs2) hart memory r covers allowed = updates_follow r hart memory covers AmoOp.Min 8 here.len rd rs1 rs2
effect_follows here (Insn.AmomaxD rd rs1 rs2) hart memory r covers allowed = updates_follow r hart memory covers AmoOp.Max 8 here.len rd rs1 rs2
effect_follows here (Insn.AmominuD rd rs1 rs2) hart memory r covers allowed = updates_follow r hart memory covers AmoOp.Minu 8 here.len rd rs1 rs2
effect_follows here (Insn.AmomaxuD rd rs1 rs2) hart memory r covers allowed = updates_follow r hart memory covers AmoOp.Maxu 8 here.len rd rs1 rs2
