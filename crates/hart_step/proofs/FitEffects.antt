-- What every instruction keeps.
use Rattle.std.proofs.Common.{◌*◌, ◌%◌, ◌^◌, ◌==◌, not, pos, lit≤}
use Rattle.rv_alu.specs.Arithmetic.{alu_of, modulo}
use Rattle.rv_alu.specs.declared.AmoOp.{AmoOp}
use Rattle.rv_alu.specs.declared.BinOp.{BinOp}
use Rattle.rv_alu.specs.declared.CondOp.{CondOp}
use Rattle.rv_alu.specs.declared.MulOp.{MulOp}
use Rattle.rv_decode.specs.declared.Insn.{Insn}
use Rattle.trap_rules.specs.Return.{resumed_mode}
use Rattle.trap_rules.specs.Status.{machine_previous, supervisor_previous}
use Rattle.hart_step.specs.declared.access.Extension.{Extension}
use Rattle.hart_step.specs.declared.hart.Hart.{Hart}
use Rattle.hart_step.specs.Effects.{Situation, effect, may_fence_translation, may_return_machine, may_return_supervisor, may_wait, offset_by}
use Rattle.hart_step.specs.Harts.{is_in_debug, register}
use Rattle.hart_step.specs.Memory.{MemoryState}
use Rattle.hart_step.proofs.FitClasses.{FitOutcome, Stands, branches_fit, clears_csr_fit, computes_fit, computes_immediate_fit, conditional_fits, either_outcome, gives_fit, goes_fit, jumps_by_fit, jumps_to_fit, loads_fit, multiplies_fit, passes_fit, reserves_fit, sets_csr_fit, stores_fit, updates_fit, writes_csr_fit}
use Rattle.hart_step.proofs.FitHarts.{debug_returns, machine_returns, register_below, supervisor_returns}
use Rattle.hart_step.proofs.FitOffsets.{HasEvenOffset}
use Rattle.hart_step.proofs.FitValues.{modulo_below, quotient_below}

pub effect_fits : (here : Situation) (insn : Insn) (hart : Hart) (memory : MemoryState) → Stands here.given here.len hart memory → HasEvenOffset insn → FitOutcome here.harts hart memory (effect here insn hart memory)
unfolding effect
effect_fits here (Insn.Lui rd imm) hart memory s even = gives_fit here.given here.harts here.len hart memory s (modulo 64 imm) rd (modulo_below imm)
effect_fits here (Insn.Auipc rd imm) hart memory s even = gives_fit here.given here.harts here.len hart memory s (offset_by hart.pc imm) rd (modulo_below _)
effect_fits here (Insn.Jal rd imm) hart memory s even = jumps_by_fit here.given here.harts here.len hart memory s rd imm even
effect_fits here (Insn.Jalr rd rs1 imm) hart memory s even = jumps_to_fit here.given here.harts here.len hart memory s rd rs1 imm
effect_fits here (Insn.Beq rs1 rs2 imm) hart memory s even = branches_fit here.given here.harts here.len hart memory s CondOp.Eq rs1 rs2 imm even
effect_fits here (Insn.Bne rs1 rs2 imm) hart memory s even = branches_fit here.given here.harts here.len hart memory s CondOp.Ne rs1 rs2 imm even
effect_fits here (Insn.Blt rs1 rs2 imm) hart memory s even = branches_fit here.given here.harts here.len hart memory s CondOp.Lt rs1 rs2 imm even
effect_fits here (Insn.Bge rs1 rs2 imm) hart memory s even = branches_fit here.given here.harts here.len hart memory s CondOp.Ge rs1 rs2 imm even
effect_fits here (Insn.Bltu rs1 rs2 imm) hart memory s even = branches_fit here.given here.harts here.len hart memory s CondOp.Ltu rs1 rs2 imm even
effect_fits here (Insn.Bgeu rs1 rs2 imm) hart memory s even = branches_fit here.given here.harts here.len hart memory s CondOp.Geu rs1 rs2 imm even
effect_fits here (Insn.Lb rd rs1 imm) hart memory s even = loads_fit here.given here.harts here.len hart memory s 1 (lit≤ tt) Extension.Signed rd rs1 imm
effect_fits here (Insn.Lh rd rs1 imm) hart memory s even = loads_fit here.given here.harts here.len hart memory s 2 (lit≤ tt) Extension.Signed rd rs1 imm
effect_fits here (Insn.Lw rd rs1 imm) hart memory s even = loads_fit here.given here.harts here.len hart memory s 4 (lit≤ tt) Extension.Signed rd rs1 imm
effect_fits here (Insn.Ld rd rs1 imm) hart memory s even = loads_fit here.given here.harts here.len hart memory s 8 (lit≤ tt) Extension.Signed rd rs1 imm
effect_fits here (Insn.Lbu rd rs1 imm) hart memory s even = loads_fit here.given here.harts here.len hart memory s 1 (lit≤ tt) Extension.Unsigned rd rs1 imm
effect_fits here (Insn.Lhu rd rs1 imm) hart memory s even = loads_fit here.given here.harts here.len hart memory s 2 (lit≤ tt) Extension.Unsigned rd rs1 imm
effect_fits here (Insn.Lwu rd rs1 imm) hart memory s even = loads_fit here.given here.harts here.len hart memory s 4 (lit≤ tt) Extension.Unsigned rd rs1 imm
effect_fits here (Insn.Sb rs1 rs2 imm) hart memory s even = stores_fit here.given here.harts here.len hart memory s 1 rs1 rs2 imm
effect_fits here (Insn.Sh rs1 rs2 imm) hart memory s even = stores_fit here.given here.harts here.len hart memory s 2 rs1 rs2 imm
effect_fits here (Insn.Sw rs1 rs2 imm) hart memory s even = stores_fit here.given here.harts here.len hart memory s 4 rs1 rs2 imm
effect_fits here (Insn.Sd rs1 rs2 imm) hart memory s even = stores_fit here.given here.harts here.len hart memory s 8 rs1 rs2 imm
effect_fits here (Insn.Addi rd rs1 imm) hart memory s even = computes_immediate_fit here.given here.harts here.len hart memory s BinOp.Add rd rs1 imm
effect_fits here (Insn.Slti rd rs1 imm) hart memory s even = computes_immediate_fit here.given here.harts here.len hart memory s BinOp.Slt rd rs1 imm
effect_fits here (Insn.Sltiu rd rs1 imm) hart memory s even = computes_immediate_fit here.given here.harts here.len hart memory s BinOp.Sltu rd rs1 imm
effect_fits here (Insn.Xori rd rs1 imm) hart memory s even = computes_immediate_fit here.given here.harts here.len hart memory s BinOp.Xor rd rs1 imm
effect_fits here (Insn.Ori rd rs1 imm) hart memory s even = computes_immediate_fit here.given here.harts here.len hart memory s BinOp.Or rd rs1 imm
effect_fits here (Insn.Andi rd rs1 imm) hart memory s even = computes_immediate_fit here.given here.harts here.len hart memory s BinOp.And rd rs1 imm
effect_fits here (Insn.Addiw rd rs1 imm) hart memory s even = computes_immediate_fit here.given here.harts here.len hart memory s BinOp.Addw rd rs1 imm
effect_fits here (Insn.Slli rd rs1 shamt) hart memory s even = gives_fit here.given here.harts here.len hart memory s (alu_of BinOp.Sll (register hart rs1) shamt) rd (modulo_below (pos (register hart rs1 * 2 ^ (shamt % 64))))
effect_fits here (Insn.Srli rd rs1 shamt) hart memory s even = gives_fit here.given here.harts here.len hart memory s (alu_of BinOp.Srl (register hart rs1) shamt) rd (quotient_below (register hart rs1) (2 ^ (shamt % 64)) (register_below hart rs1 s.formed))
effect_fits here (Insn.Srai rd rs1 shamt) hart memory s even = gives_fit here.given here.harts here.len hart memory s (alu_of BinOp.Sra (register hart rs1) shamt) rd (modulo_below _)
effect_fits here (Insn.Slliw rd rs1 shamt) hart memory s even = gives_fit here.given here.harts here.len hart memory s (alu_of BinOp.Sllw (register hart rs1) shamt) rd (modulo_below _)
effect_fits here (Insn.Srliw rd rs1 shamt) hart memory s even = gives_fit here.given here.harts here.len hart memory s (alu_of BinOp.Srlw (register hart rs1) shamt) rd (modulo_below _)
effect_fits here (Insn.Sraiw rd rs1 shamt) hart memory s even = gives_fit here.given here.harts here.len hart memory s (alu_of BinOp.Sraw (register hart rs1) shamt) rd (modulo_below _)
effect_fits here (Insn.Add rd rs1 rs2) hart memory s even = computes_fit here.given here.harts here.len hart memory s BinOp.Add rd rs1 rs2
effect_fits here (Insn.Sub rd rs1 rs2) hart memory s even = computes_fit here.given here.harts here.len hart memory s BinOp.Sub rd rs1 rs2
effect_fits here (Insn.Sll rd rs1 rs2) hart memory s even = computes_fit here.given here.harts here.len hart memory s BinOp.Sll rd rs1 rs2
effect_fits here (Insn.Slt rd rs1 rs2) hart memory s even = computes_fit here.given here.harts here.len hart memory s BinOp.Slt rd rs1 rs2
effect_fits here (Insn.Sltu rd rs1 rs2) hart memory s even = computes_fit here.given here.harts here.len hart memory s BinOp.Sltu rd rs1 rs2
effect_fits here (Insn.Xor rd rs1 rs2) hart memory s even = computes_fit here.given here.harts here.len hart memory s BinOp.Xor rd rs1 rs2
effect_fits here (Insn.Srl rd rs1 rs2) hart memory s even = computes_fit here.given here.harts here.len hart memory s BinOp.Srl rd rs1 rs2
effect_fits here (Insn.Sra rd rs1 rs2) hart memory s even = computes_fit here.given here.harts here.len hart memory s BinOp.Sra rd rs1 rs2
effect_fits here (Insn.Or rd rs1 rs2) hart memory s even = computes_fit here.given here.harts here.len hart memory s BinOp.Or rd rs1 rs2
effect_fits here (Insn.And rd rs1 rs2) hart memory s even = computes_fit here.given here.harts here.len hart memory s BinOp.And rd rs1 rs2
effect_fits here (Insn.Addw rd rs1 rs2) hart memory s even = computes_fit here.given here.harts here.len hart memory s BinOp.Addw rd rs1 rs2
effect_fits here (Insn.Subw rd rs1 rs2) hart memory s even = computes_fit here.given here.harts here.len hart memory s BinOp.Subw rd rs1 rs2
effect_fits here (Insn.Sllw rd rs1 rs2) hart memory s even = computes_fit here.given here.harts here.len hart memory s BinOp.Sllw rd rs1 rs2
effect_fits here (Insn.Srlw rd rs1 rs2) hart memory s even = computes_fit here.given here.harts here.len hart memory s BinOp.Srlw rd rs1 rs2
effect_fits here (Insn.Sraw rd rs1 rs2) hart memory s even = computes_fit here.given here.harts here.len hart memory s BinOp.Sraw rd rs1 rs2
effect_fits here (Insn.Mul rd rs1 rs2) hart memory s even = multiplies_fit here.given here.harts here.len hart memory s MulOp.Mul rd rs1 rs2
effect_fits here (Insn.Mulh rd rs1 rs2) hart memory s even = multiplies_fit here.given here.harts here.len hart memory s MulOp.Mulh rd rs1 rs2
effect_fits here (Insn.Mulhsu rd rs1 rs2) hart memory s even = multiplies_fit here.given here.harts here.len hart memory s MulOp.Mulhsu rd rs1 rs2
effect_fits here (Insn.Mulhu rd rs1 rs2) hart memory s even = multiplies_fit here.given here.harts here.len hart memory s MulOp.Mulhu rd rs1 rs2
effect_fits here (Insn.Div rd rs1 rs2) hart memory s even = multiplies_fit here.given here.harts here.len hart memory s MulOp.Div rd rs1 rs2
effect_fits here (Insn.Divu rd rs1 rs2) hart memory s even = multiplies_fit here.given here.harts here.len hart memory s MulOp.Divu rd rs1 rs2
effect_fits here (Insn.Rem rd rs1 rs2) hart memory s even = multiplies_fit here.given here.harts here.len hart memory s MulOp.Rem rd rs1 rs2
effect_fits here (Insn.Remu rd rs1 rs2) hart memory s even = multiplies_fit here.given here.harts here.len hart memory s MulOp.Remu rd rs1 rs2
effect_fits here (Insn.Mulw rd rs1 rs2) hart memory s even = multiplies_fit here.given here.harts here.len hart memory s MulOp.Mulw rd rs1 rs2
effect_fits here (Insn.Divw rd rs1 rs2) hart memory s even = multiplies_fit here.given here.harts here.len hart memory s MulOp.Divw rd rs1 rs2
effect_fits here (Insn.Divuw rd rs1 rs2) hart memory s even = multiplies_fit here.given here.harts here.len hart memory s MulOp.Divuw rd rs1 rs2
effect_fits here (Insn.Remw rd rs1 rs2) hart memory s even = multiplies_fit here.given here.harts here.len hart memory s MulOp.Remw rd rs1 rs2
effect_fits here (Insn.Remuw rd rs1 rs2) hart memory s even = multiplies_fit here.given here.harts here.len hart memory s MulOp.Remuw rd rs1 rs2
effect_fits here Insn.Fence hart memory s even = passes_fit here.given here.harts here.len hart memory s
effect_fits here Insn.FenceI hart memory s even = passes_fit here.given here.harts here.len hart memory s
effect_fits here (Insn.Csrrw rd rs1 csr) hart memory s even = writes_csr_fit here.given here.harts here.len hart memory s here.word rd csr (register hart rs1)
effect_fits here (Insn.Csrrs rd rs1 csr) hart memory s even = sets_csr_fit here.given here.harts here.len hart memory s here.word rd csr (not (rs1 == 0)) (register hart rs1)
effect_fits here (Insn.Csrrc rd rs1 csr) hart memory s even = clears_csr_fit here.given here.harts here.len hart memory s here.word rd csr (not (rs1 == 0)) (register hart rs1)
effect_fits here (Insn.Csrrwi rd uimm csr) hart memory s even = writes_csr_fit here.given here.harts here.len hart memory s here.word rd csr uimm
effect_fits here (Insn.Csrrsi rd uimm csr) hart memory s even = sets_csr_fit here.given here.harts here.len hart memory s here.word rd csr (not (uimm == 0)) uimm
effect_fits here (Insn.Csrrci rd uimm csr) hart memory s even = clears_csr_fit here.given here.harts here.len hart memory s here.word rd csr (not (uimm == 0)) uimm
effect_fits here Insn.Ecall hart memory s even = tt
effect_fits here Insn.Ebreak hart memory s even = tt
effect_fits here Insn.Sret hart memory s even = either_outcome here.harts hart memory (may_return_supervisor hart) _ _ (goes_fit here.harts hart memory s.ram _ (supervisor_returns (supervisor_previous hart.csrs.kept.mstatus) hart s.formed)) tt
effect_fits here Insn.Mret hart memory s even = either_outcome here.harts hart memory (may_return_machine hart) _ _ (goes_fit here.harts hart memory s.ram _ (machine_returns (machine_previous hart.csrs.kept.mstatus) hart s.formed)) tt
effect_fits here Insn.Wfi hart memory s even = either_outcome here.harts hart memory (may_wait hart) _ _ (passes_fit here.given here.harts here.len hart memory s) tt
effect_fits here Insn.Dret hart memory s even = either_outcome here.harts hart memory (is_in_debug hart) _ _ (goes_fit here.harts hart memory s.ram _ (debug_returns (resumed_mode hart.csrs.debug) hart s.formed)) tt
effect_fits here (Insn.SfenceVma rs1 rs2) hart memory s even = either_outcome here.harts hart memory (may_fence_translation hart) _ _ (passes_fit here.given here.harts here.len hart memory s) tt
effect_fits here (Insn.LrW rd rs1) hart memory s even = reserves_fit here.given here.harts here.len hart memory s 4 rd rs1
effect_fits here (Insn.LrD rd rs1) hart memory s even = reserves_fit here.given here.harts here.len hart memory s 8 rd rs1
effect_fits here (Insn.ScW rd rs1 rs2) hart memory s even = conditional_fits here.given here.harts here.len hart memory s 4 rd rs1 rs2
effect_fits here (Insn.AmoswapW rd rs1 rs2) hart memory s even = updates_fit here.given here.harts here.len hart memory s AmoOp.Swap 4 rd rs1 rs2
effect_fits here (Insn.AmoaddW rd rs1 rs2) hart memory s even = updates_fit here.given here.harts here.len hart memory s AmoOp.Add 4 rd rs1 rs2
effect_fits here (Insn.AmoxorW rd rs1 rs2) hart memory s even = updates_fit here.given here.harts here.len hart memory s AmoOp.Xor 4 rd rs1 rs2
effect_fits here (Insn.AmoandW rd rs1 rs2) hart memory s even = updates_fit here.given here.harts here.len hart memory s AmoOp.And 4 rd rs1 rs2
effect_fits here (Insn.AmoorW rd rs1 rs2) hart memory s even = updates_fit here.given here.harts here.len hart memory s AmoOp.Or 4 rd rs1 rs2
effect_fits here (Insn.AmominW rd rs1 rs2) hart memory s even = updates_fit here.given here.harts here.len hart memory s AmoOp.Min 4 rd rs1 rs2
effect_fits here (Insn.AmomaxW rd rs1 rs2) hart memory s even = updates_fit here.given here.harts here.len hart memory s AmoOp.Max 4 rd rs1 rs2
effect_fits here (Insn.AmominuW rd rs1 rs2) hart memory s even = updates_fit here.given here.harts here.len hart memory s AmoOp.Minu 4 rd rs1 rs2
effect_fits here (Insn.AmomaxuW rd rs1 rs2) hart memory s even = updates_fit here.given here.harts here.len hart memory s AmoOp.Maxu 4 rd rs1 rs2
effect_fits here (Insn.ScD rd rs1 rs2) hart memory s even = conditional_fits here.given here.harts here.len hart memory s 8 rd rs1 rs2
effect_fits here (Insn.AmoswapD rd rs1 rs2) hart memory s even = updates_fit here.given here.harts here.len hart memory s AmoOp.Swap 8 rd rs1 rs2
effect_fits here (Insn.AmoaddD rd rs1 rs2) hart memory s even = updates_fit here.given here.harts here.len hart memory s AmoOp.Add 8 rd rs1 rs2
effect_fits here (Insn.AmoxorD rd rs1 rs2) hart memory s even = updates_fit here.given here.harts here.len hart memory s AmoOp.Xor 8 rd rs1 rs2
effect_fits here (Insn.AmoandD rd rs1 rs2) hart memory s even = updates_fit here.given here.harts here.len hart memory s AmoOp.And 8 rd rs1 rs2
effect_fits here (Insn.AmoorD rd rs1 rs2) hart memory s even = updates_fit here.given here.harts here.len hart memory s AmoOp.Or 8 rd rs1 rs2
effect_fits here (Insn.AmominD rd rs1 rs2) hart memory s even = updates_fit here.given here.harts here.len hart memory s AmoOp.Min 8 rd rs1 rs2
effect_fits here (Insn.AmomaxD rd rs1 rs2) hart memory s even = updates_fit here.given here.harts here.len hart memory s AmoOp.Max 8 rd rs1 rs2
effect_fits here (Insn.AmominuD rd rs1 rs2) hart memory s even = updates_fit here.given here.harts here.len hart memory s AmoOp.Minu 8 rd rs1 rs2
effect_fits here (Insn.AmomaxuD rd rs1 rs2) hart memory s even = updates_fit here.given here.harts here.len hart memory s AmoOp.Maxu 8 rd rs1 rs2
