-- What every instruction shows has a spelling.
use Rattle.std.proofs.Common.{◌*◌, ◌==◌, not, true, lit<, lit≤}
use Rattle.rv_alu.specs.declared.AmoOp.{AmoOp}
use Rattle.rv_alu.specs.Arithmetic.{sign_extended}
use Rattle.rv_decode.specs.declared.Insn.{Insn}
use Rattle.hart_step.specs.declared.hart.Hart.{Hart}
use Rattle.hart_step.specs.Effects.{Situation, effect, may_fence_translation, may_return_machine, may_return_supervisor, may_wait}
use Rattle.hart_step.specs.Harts.{is_in_debug}
use Rattle.hart_step.specs.Memory.{MemoryState, acting_mode}
use Rattle.trace_law.proofs.Destinations.{WritesRegister}
use Rattle.trace_law.proofs.ShownClasses.{Begins, OutcomeShown, accesses_shown, call_small, conditional_shown, loads_shown, nothing_shown, or_illegal_shown, reserves_shown, size_1, size_2, size_4, size_8, stores_shown, updates_shown, writes_shown}

pub effect_shown : (here : Situation) (insn : Insn) (hart : Hart) (memory : MemoryState) → Begins here hart memory → WritesRegister insn → OutcomeShown (effect here insn hart memory)
unfolding effect
effect_shown here (Insn.Lui rd imm) hart memory b small = writes_shown here hart memory b rd _ _ small
effect_shown here (Insn.Auipc rd imm) hart memory b small = writes_shown here hart memory b rd _ _ small
effect_shown here (Insn.Jal rd imm) hart memory b small = writes_shown here hart memory b rd _ _ small
effect_shown here (Insn.Jalr rd rs1 imm) hart memory b small = writes_shown here hart memory b rd _ _ small
effect_shown here (Insn.Beq rs1 rs2 imm) hart memory b small = nothing_shown _ memory
effect_shown here (Insn.Bne rs1 rs2 imm) hart memory b small = nothing_shown _ memory
effect_shown here (Insn.Blt rs1 rs2 imm) hart memory b small = nothing_shown _ memory
effect_shown here (Insn.Bge rs1 rs2 imm) hart memory b small = nothing_shown _ memory
effect_shown here (Insn.Bltu rs1 rs2 imm) hart memory b small = nothing_shown _ memory
effect_shown here (Insn.Bgeu rs1 rs2 imm) hart memory b small = nothing_shown _ memory
effect_shown here (Insn.Lb rd rs1 imm) hart memory b small = loads_shown here hart memory b 1 (lit≤ tt) (λ value. sign_extended value (8 * 1)) rd rs1 imm small
effect_shown here (Insn.Lh rd rs1 imm) hart memory b small = loads_shown here hart memory b 2 (lit≤ tt) (λ value. sign_extended value (8 * 2)) rd rs1 imm small
effect_shown here (Insn.Lw rd rs1 imm) hart memory b small = loads_shown here hart memory b 4 (lit≤ tt) (λ value. sign_extended value (8 * 4)) rd rs1 imm small
effect_shown here (Insn.Ld rd rs1 imm) hart memory b small = loads_shown here hart memory b 8 (lit≤ tt) (λ value. sign_extended value (8 * 8)) rd rs1 imm small
effect_shown here (Insn.Lbu rd rs1 imm) hart memory b small = loads_shown here hart memory b 1 (lit≤ tt) (λ value. value) rd rs1 imm small
effect_shown here (Insn.Lhu rd rs1 imm) hart memory b small = loads_shown here hart memory b 2 (lit≤ tt) (λ value. value) rd rs1 imm small
effect_shown here (Insn.Lwu rd rs1 imm) hart memory b small = loads_shown here hart memory b 4 (lit≤ tt) (λ value. value) rd rs1 imm small
effect_shown here (Insn.Sb rs1 rs2 imm) hart memory b small = stores_shown here hart memory b 1 size_1 rs1 rs2 imm
effect_shown here (Insn.Sh rs1 rs2 imm) hart memory b small = stores_shown here hart memory b 2 size_2 rs1 rs2 imm
effect_shown here (Insn.Sw rs1 rs2 imm) hart memory b small = stores_shown here hart memory b 4 size_4 rs1 rs2 imm
effect_shown here (Insn.Sd rs1 rs2 imm) hart memory b small = stores_shown here hart memory b 8 size_8 rs1 rs2 imm
effect_shown here (Insn.Addi rd rs1 imm) hart memory b small = writes_shown here hart memory b rd _ _ small
effect_shown here (Insn.Slti rd rs1 imm) hart memory b small = writes_shown here hart memory b rd _ _ small
effect_shown here (Insn.Sltiu rd rs1 imm) hart memory b small = writes_shown here hart memory b rd _ _ small
effect_shown here (Insn.Xori rd rs1 imm) hart memory b small = writes_shown here hart memory b rd _ _ small
effect_shown here (Insn.Ori rd rs1 imm) hart memory b small = writes_shown here hart memory b rd _ _ small
effect_shown here (Insn.Andi rd rs1 imm) hart memory b small = writes_shown here hart memory b rd _ _ small
effect_shown here (Insn.Addiw rd rs1 imm) hart memory b small = writes_shown here hart memory b rd _ _ small
effect_shown here (Insn.Slli rd rs1 shamt) hart memory b small = writes_shown here hart memory b rd _ _ small
effect_shown here (Insn.Srli rd rs1 shamt) hart memory b small = writes_shown here hart memory b rd _ _ small
effect_shown here (Insn.Srai rd rs1 shamt) hart memory b small = writes_shown here hart memory b rd _ _ small
effect_shown here (Insn.Slliw rd rs1 shamt) hart memory b small = writes_shown here hart memory b rd _ _ small
effect_shown here (Insn.Srliw rd rs1 shamt) hart memory b small = writes_shown here hart memory b rd _ _ small
effect_shown here (Insn.Sraiw rd rs1 shamt) hart memory b small = writes_shown here hart memory b rd _ _ small
effect_shown here (Insn.Add rd rs1 rs2) hart memory b small = writes_shown here hart memory b rd _ _ small
effect_shown here (Insn.Sub rd rs1 rs2) hart memory b small = writes_shown here hart memory b rd _ _ small
effect_shown here (Insn.Sll rd rs1 rs2) hart memory b small = writes_shown here hart memory b rd _ _ small
effect_shown here (Insn.Slt rd rs1 rs2) hart memory b small = writes_shown here hart memory b rd _ _ small
effect_shown here (Insn.Sltu rd rs1 rs2) hart memory b small = writes_shown here hart memory b rd _ _ small
effect_shown here (Insn.Xor rd rs1 rs2) hart memory b small = writes_shown here hart memory b rd _ _ small
effect_shown here (Insn.Srl rd rs1 rs2) hart memory b small = writes_shown here hart memory b rd _ _ small
effect_shown here (Insn.Sra rd rs1 rs2) hart memory b small = writes_shown here hart memory b rd _ _ small
effect_shown here (Insn.Or rd rs1 rs2) hart memory b small = writes_shown here hart memory b rd _ _ small
effect_shown here (Insn.And rd rs1 rs2) hart memory b small = writes_shown here hart memory b rd _ _ small
effect_shown here (Insn.Addw rd rs1 rs2) hart memory b small = writes_shown here hart memory b rd _ _ small
effect_shown here (Insn.Subw rd rs1 rs2) hart memory b small = writes_shown here hart memory b rd _ _ small
effect_shown here (Insn.Sllw rd rs1 rs2) hart memory b small = writes_shown here hart memory b rd _ _ small
effect_shown here (Insn.Srlw rd rs1 rs2) hart memory b small = writes_shown here hart memory b rd _ _ small
effect_shown here (Insn.Sraw rd rs1 rs2) hart memory b small = writes_shown here hart memory b rd _ _ small
effect_shown here (Insn.Mul rd rs1 rs2) hart memory b small = writes_shown here hart memory b rd _ _ small
effect_shown here (Insn.Mulh rd rs1 rs2) hart memory b small = writes_shown here hart memory b rd _ _ small
effect_shown here (Insn.Mulhsu rd rs1 rs2) hart memory b small = writes_shown here hart memory b rd _ _ small
effect_shown here (Insn.Mulhu rd rs1 rs2) hart memory b small = writes_shown here hart memory b rd _ _ small
effect_shown here (Insn.Div rd rs1 rs2) hart memory b small = writes_shown here hart memory b rd _ _ small
effect_shown here (Insn.Divu rd rs1 rs2) hart memory b small = writes_shown here hart memory b rd _ _ small
effect_shown here (Insn.Rem rd rs1 rs2) hart memory b small = writes_shown here hart memory b rd _ _ small
effect_shown here (Insn.Remu rd rs1 rs2) hart memory b small = writes_shown here hart memory b rd _ _ small
effect_shown here (Insn.Mulw rd rs1 rs2) hart memory b small = writes_shown here hart memory b rd _ _ small
effect_shown here (Insn.Divw rd rs1 rs2) hart memory b small = writes_shown here hart memory b rd _ _ small
effect_shown here (Insn.Divuw rd rs1 rs2) hart memory b small = writes_shown here hart memory b rd _ _ small
effect_shown here (Insn.Remw rd rs1 rs2) hart memory b small = writes_shown here hart memory b rd _ _ small
effect_shown here (Insn.Remuw rd rs1 rs2) hart memory b small = writes_shown here hart memory b rd _ _ small
effect_shown here Insn.Fence hart memory b small = nothing_shown _ memory
effect_shown here Insn.FenceI hart memory b small = nothing_shown _ memory
effect_shown here (Insn.Csrrw rd rs1 csr) hart memory b small = accesses_shown here hart memory b rd csr (not (rd == 0)) true _ small
effect_shown here (Insn.Csrrs rd rs1 csr) hart memory b small = accesses_shown here hart memory b rd csr true (not (rs1 == 0)) _ small
effect_shown here (Insn.Csrrc rd rs1 csr) hart memory b small = accesses_shown here hart memory b rd csr true (not (rs1 == 0)) _ small
effect_shown here (Insn.Csrrwi rd uimm csr) hart memory b small = accesses_shown here hart memory b rd csr (not (rd == 0)) true _ small
effect_shown here (Insn.Csrrsi rd uimm csr) hart memory b small = accesses_shown here hart memory b rd csr true (not (uimm == 0)) _ small
effect_shown here (Insn.Csrrci rd uimm csr) hart memory b small = accesses_shown here hart memory b rd csr true (not (uimm == 0)) _ small
effect_shown here Insn.Ecall hart memory b small = (call_small (acting_mode hart), lit< tt)
effect_shown here Insn.Ebreak hart memory b small = (lit< tt, b.formed.pc)
effect_shown here Insn.Sret hart memory b small = or_illegal_shown (may_return_supervisor hart) _ memory here.word b.word
effect_shown here Insn.Mret hart memory b small = or_illegal_shown (may_return_machine hart) _ memory here.word b.word
effect_shown here Insn.Wfi hart memory b small = or_illegal_shown (may_wait hart) _ memory here.word b.word
effect_shown here Insn.Dret hart memory b small = or_illegal_shown (is_in_debug hart) _ memory here.word b.word
effect_shown here (Insn.SfenceVma rs1 rs2) hart memory b small = or_illegal_shown (may_fence_translation hart) _ memory here.word b.word
effect_shown here (Insn.LrW rd rs1) hart memory b small = reserves_shown here hart memory b 4 rd rs1 small
effect_shown here (Insn.LrD rd rs1) hart memory b small = reserves_shown here hart memory b 8 rd rs1 small
effect_shown here (Insn.ScW rd rs1 rs2) hart memory b small = conditional_shown here hart memory b 4 size_4 rd rs1 rs2 small
effect_shown here (Insn.AmoswapW rd rs1 rs2) hart memory b small = updates_shown here hart memory b AmoOp.Swap 4 size_4 rd rs1 rs2 small
effect_shown here (Insn.AmoaddW rd rs1 rs2) hart memory b small = updates_shown here hart memory b AmoOp.Add 4 size_4 rd rs1 rs2 small
effect_shown here (Insn.AmoxorW rd rs1 rs2) hart memory b small = updates_shown here hart memory b AmoOp.Xor 4 size_4 rd rs1 rs2 small
effect_shown here (Insn.AmoandW rd rs1 rs2) hart memory b small = updates_shown here hart memory b AmoOp.And 4 size_4 rd rs1 rs2 small
effect_shown here (Insn.AmoorW rd rs1 rs2) hart memory b small = updates_shown here hart memory b AmoOp.Or 4 size_4 rd rs1 rs2 small
effect_shown here (Insn.AmominW rd rs1 rs2) hart memory b small = updates_shown here hart memory b AmoOp.Min 4 size_4 rd rs1 rs2 small
effect_shown here (Insn.AmomaxW rd rs1 rs2) hart memory b small = updates_shown here hart memory b AmoOp.Max 4 size_4 rd rs1 rs2 small
effect_shown here (Insn.AmominuW rd rs1 rs2) hart memory b small = updates_shown here hart memory b AmoOp.Minu 4 size_4 rd rs1 rs2 small
effect_shown here (Insn.AmomaxuW rd rs1 rs2) hart memory b small = updates_shown here hart memory b AmoOp.Maxu 4 size_4 rd rs1 rs2 small
effect_shown here (Insn.ScD rd rs1 rs2) hart memory b small = conditional_shown here hart memory b 8 size_8 rd rs1 rs2 small
effect_shown here (Insn.AmoswapD rd rs1 rs2) hart memory b small = updates_shown here hart memory b AmoOp.Swap 8 size_8 rd rs1 rs2 small
effect_shown here (Insn.AmoaddD rd rs1 rs2) hart memory b small = updates_shown here hart memory b AmoOp.Add 8 size_8 rd rs1 rs2 small
effect_shown here (Insn.AmoxorD rd rs1 rs2) hart memory b small = updates_shown here hart memory b AmoOp.Xor 8 size_8 rd rs1 rs2 small
effect_shown here (Insn.AmoandD rd rs1 rs2) hart memory b small = updates_shown here hart memory b AmoOp.And 8 size_8 rd rs1 rs2 small
effect_shown here (Insn.AmoorD rd rs1 rs2) hart memory b small = updates_shown here hart memory b AmoOp.Or 8 size_8 rd rs1 rs2 small
effect_shown here (Insn.AmominD rd rs1 rs2) hart memory b small = updates_shown here hart memory b AmoOp.Min 8 size_8 rd rs1 rs2 small
effect_shown here (Insn.AmomaxD rd rs1 rs2) hart memory b small = updates_shown here hart memory b AmoOp.Max 8 size_8 rd rs1 rs2 small
effect_shown here (Insn.AmominuD rd rs1 rs2) hart memory b small = updates_shown here hart memory b AmoOp.Minu 8 size_8 rd rs1 rs2 small
effect_shown here (Insn.AmomaxuD rd rs1 rs2) hart memory b small = updates_shown here hart memory b AmoOp.Maxu 8 size_8 rd rs1 rs2 small
