-- What each instruction does (Unprivileged ISA, "RV32I Base Integer Instruction Set", "RV64I Base Integer
-- Instruction Set", "M", "A" and "Zicsr" extensions; Privileged ISA, "Machine-Mode Privileged Instructions",
-- "Supervisor Instructions").
use Rattle.std.specs.Prelude.{◌≡◌, ℕ, ◌+◌, ◌-◌, ◌*◌, ◌%◌, ◌^◌, ◌==◌, ◌&&◌, ◌||◌, not, ℤ, pos, ◌+ℤ◌, Bool, true, false, List, Option, Some, None, Result, Ok, Err, bit_and, bit_or, if◌then◌else◌}
use Rattle.byteorder.specs.Endian.{little_bytes}
use Rattle.guest_ram.specs.Bytes.{has_part, number_at, with_part}
use Rattle.rv_alu.specs.declared.Mode.{Mode}
use Rattle.rv_alu.specs.declared.AmoOp.{AmoOp}
use Rattle.rv_alu.specs.declared.BinOp.{BinOp}
use Rattle.rv_alu.specs.declared.MulOp.{MulOp}
use Rattle.rv_alu.specs.declared.CondOp.{CondOp}
use Rattle.rv_alu.specs.Arithmetic.{alu_of, amo_value_of, is_taken, modulo, mul_div_of, sign_extended}
use Rattle.rv_alu.specs.Bits.{low_bytes}
use Rattle.rv_alu.specs.Modes.{level}
use Rattle.rv_decode.specs.declared.Insn.{Insn}
use Rattle.csr_file.specs.Access.{may_access}
use Rattle.csr_file.specs.Bits.{all_bits, mstatus_tsr, mstatus_tvm, mstatus_tw}
use Rattle.csr_file.specs.View.{base, is_volatile_number, view}
use Rattle.csr_file.specs.Write.{written}
use Rattle.csr_file.specs.declared.registers.Registers.{Registers}
use Rattle.trap_rules.specs.Return.{debug_returned, machine_returned, resumed_mode, resumed_pc, supervisor_returned}
use Rattle.trap_rules.specs.Status.{has_any, machine_previous, supervisor_previous}
use Rattle.sv39_walk.specs.declared.Kind.{Kind}
use Rattle.board_bus.specs.Listed.{is_listed}
use Rattle.hart_step.specs.declared.access.Extension.{Extension}
use Rattle.hart_step.specs.Done.{Done}
use Rattle.hart_step.specs.declared.hart.Hart.{Hart}
use Rattle.hart_step.specs.Answers.{Access, Given, Stores, Untouched, after_access}
use Rattle.hart_step.specs.Harts.{is_in_debug, register, shown_register, with_register}
use Rattle.hart_step.specs.Memory.{◌>>=◌, Exception, Loaded, MemoryState, access_cause, acting_mode, data_address, exception, loaded, ram_address}

-- what an instruction leaves of the hart and of memory, what it did, and its device access
pub record Effect : Type 0 where
  pub hart : Hart
  pub memory : MemoryState
  pub done : Done
  pub access : Access

-- what an instruction comes to: its effect, or the exception that it raises, which leaves all as it was
abbrev pub Outcome : Type 0
Outcome = Result Effect Exception

-- the exception of an illegal instruction, whose trap value is the word
abbrev pub illegal : {A : Type 0} → ℕ → Result A Exception
illegal word = Err (exception 2 word)

-- an address and an offset, modulo 2 ^ 64
abbrev pub offset_by : ℕ → ℤ → ℕ
offset_by at imm = modulo 64 (pos at +ℤ imm)

-- what an instruction did that writes a register, and one that does not, as its event shows it
abbrev pub shows_write : ℕ → ℕ → Done
shows_write rd value = record { rd = shown_register rd value; st = None; dv = None; vl = None; wrote = None }

abbrev pub shows_nothing : Done
shows_nothing = record { rd = None; st = None; dv = None; vl = None; wrote = None }

-- the pc of the instruction that stands after one of len bytes
abbrev pub pc_after : Hart → ℕ → ℕ
pc_after hart len = (hart.pc + len) % 2 ^ 64

-- a hart that goes on at a pc, and one that gets a value in a register beside
abbrev pub at_pc : Hart → ℕ → Hart
at_pc hart next = record hart { pc = next }

abbrev pub with_write : Hart → ℕ → ℕ → ℕ → Hart
with_write hart rd value next = record (with_register hart rd value) { pc = next }

abbrev pub goes_on : Hart → MemoryState → Effect
goes_on hart memory = record { hart = hart; memory = memory; done = shows_nothing; access = Untouched }

abbrev pub writes : ℕ → ℕ → ℕ → Hart → MemoryState → Effect
writes rd value next hart memory = record { hart = with_write hart rd value next; memory = memory; done = shows_write rd value; access = Untouched }

-- ---- the effect of each class of instructions, whose word has len bytes, on a hart and memory

-- nothing but the pc changes
abbrev pub passes : ℕ → Hart → MemoryState → Effect
passes len hart memory = goes_on (at_pc hart (pc_after hart len)) memory

-- rd gets a value
abbrev pub gives : ℕ → ℕ → ℕ → Hart → MemoryState → Effect
gives value len rd hart memory = writes rd value (pc_after hart len) hart memory

-- rd gets the value of an operation: on a register and an immediate, on a register and a shift amount, and
-- on two registers (Unprivileged ISA, "Integer Computational Instructions" of RV32I and RV64I)
abbrev pub computes_immediate : BinOp → ℕ → ℕ → ℕ → ℤ → Hart → MemoryState → Effect
computes_immediate op len rd rs1 imm hart memory = gives (alu_of op (register hart rs1) (modulo 64 imm)) len rd hart memory

abbrev pub computes_shift : BinOp → ℕ → ℕ → ℕ → ℕ → Hart → MemoryState → Effect
computes_shift op len rd rs1 shamt hart memory = gives (alu_of op (register hart rs1) shamt) len rd hart memory

abbrev pub computes : BinOp → ℕ → ℕ → ℕ → ℕ → Hart → MemoryState → Effect
computes op len rd rs1 rs2 hart memory = gives (alu_of op (register hart rs1) (register hart rs2)) len rd hart memory

-- rd gets a product, quotient or remainder of two registers (Unprivileged ISA, "M" extension)
abbrev pub multiplies : MulOp → ℕ → ℕ → ℕ → ℕ → Hart → MemoryState → Effect
multiplies op len rd rs1 rs2 hart memory = gives (mul_div_of op (register hart rs1) (register hart rs2)) len rd hart memory

-- rd gets the address of the next instruction, and the pc is the target (Unprivileged ISA, "Unconditional Jumps")
abbrev pub jumps : ℕ → ℕ → ℕ → Hart → MemoryState → Effect
jumps target len rd hart memory = writes rd (pc_after hart len) target hart memory

-- a number with its bit 0 cleared
abbrev pub even_part : ℕ → ℕ
even_part n = n - n % 2

-- the pc is the target where the condition holds for two registers (Unprivileged ISA, "Conditional Branches")
abbrev pub next_of : CondOp → ℕ → ℕ → ℕ → ℤ → Hart → ℕ
next_of op len rs1 rs2 imm hart =
    if is_taken op (register hart rs1) (register hart rs2) then offset_by hart.pc imm else pc_after hart len

abbrev pub branches : CondOp → ℕ → ℕ → ℕ → ℤ → Hart → MemoryState → Effect
branches op len rs1 rs2 imm hart memory = goes_on (at_pc hart (next_of op len rs1 rs2 imm hart)) memory

-- ---- loads and stores (Unprivileged ISA, "Load and Store Instructions" of RV32I and RV64I)

-- the register's value of size loaded bytes: with their sign, or with zeros above
abbrev pub extended_by : Extension → ℕ → ℕ → ℕ
extended_by Extension.Signed size value = sign_extended value (8 * size)
extended_by Extension.Unsigned size value = value

-- rd gets what was loaded
abbrev pub gives_loaded : Extension → ℕ → ℕ → ℕ → Hart → MemoryState → Loaded → Effect
gives_loaded extension size len rd hart memory l = record {
  hart = with_write hart rd (extended_by extension size l.value) (pc_after hart len);
  memory = memory;
  done = record (shows_write rd (extended_by extension size l.value)) { dv = l.device };
  access = l.access;
}

abbrev pub loads_at : Given → ℕ → ℕ → Extension → ℕ → ℕ → ℕ → Hart → MemoryState → Outcome
loads_at given n size extension len rd va hart memory = do
  l ← loaded given n hart memory size va
  Ok (gives_loaded extension size len rd hart memory l)

abbrev pub loads : Given → ℕ → ℕ → Extension → ℕ → ℕ → ℕ → ℤ → Hart → MemoryState → Outcome
loads given n size extension len rd rs1 imm hart memory =
    loads_at given n size extension len rd (offset_by (register hart rs1) imm) hart memory

-- the same of a store of the low bytes of a value
abbrev pub shows_store : ℕ → ℕ → ℕ → Done
shows_store at size value = record shows_nothing { st = Some (record { at = at; size = size; value = low_bytes size value }) }

-- memory with the low bytes of a value stored at an address
abbrev pub with_stored : MemoryState → ℕ → ℕ → ℕ → MemoryState
with_stored memory at size value = record memory { ram = with_part memory.ram at (little_bytes size value) }

-- the effect of a store, which leaves this memory and makes this device access
abbrev pub stored : ℕ → ℕ → ℕ → ℕ → Hart → MemoryState → Access → Effect
stored at size value len hart memory access = record {
  hart = at_pc hart (pc_after hart len);
  memory = memory;
  done = shows_store at size value;
  access = access;
}

-- a store for `va` to a physical address goes to RAM or to the device register there; it is an access fault
-- elsewhere. The board has n harts
abbrev pub stores_in : ℕ → ℕ → ℕ → ℕ → ℕ → ℕ → Hart → MemoryState → Outcome
stores_in n size value len va at hart memory =
    if has_part memory.ram at size then Ok (stored at size value len hart (with_stored memory at size value) Untouched)
    else if is_listed n at size then Ok (stored at size value len hart memory (Stores at size (low_bytes size value)))
    else Err (exception (access_cause Kind.Store) va)

abbrev pub stores_at : ℕ → ℕ → ℕ → ℕ → ℕ → Hart → MemoryState → Outcome
stores_at n size value len va hart memory = do
  at ← data_address Kind.Store size hart memory.ram va
  stores_in n size value len va at hart memory

-- the low size bytes of rs2 are stored at rs1 + imm
abbrev pub stores : ℕ → ℕ → ℕ → ℕ → ℕ → ℤ → Hart → MemoryState → Outcome
stores n size len rs1 rs2 imm hart memory =
    stores_at n size (register hart rs2) len (offset_by (register hart rs1) imm) hart memory

-- ---- atomic memory operations, on RAM alone (Unprivileged ISA, "A" extension)

-- a reservation is of the eight aligned bytes that hold an address
abbrev pub reserved_at : ℕ → ℕ
reserved_at at = at - at % 8

-- LR: rd gets the bytes, with their sign, and the hart has their reservation
abbrev pub reserves : ℕ → ℕ → ℕ → ℕ → Hart → MemoryState → Outcome
reserves size len rd rs1 hart memory = do
  at ← ram_address Kind.Load size hart memory.ram (register hart rs1)
  Ok (gives (extended_by Extension.Signed size (number_at memory.ram at size)) len rd (record hart { reservation = Some (reserved_at at) }) memory)

-- the hart has the reservation of these eight bytes
abbrev pub has_reserved : Option ℕ → ℕ → Bool
has_reserved None at = false
has_reserved (Some reserved) at = reserved == reserved_at at

-- SC: with a reservation that covers the address, and where it may win, the bytes are stored and rd gets 0; else
-- nothing is stored and rd gets 1. Either way the hart has no reservation then
abbrev pub stores_if : Bool → ℕ → ℕ → ℕ → ℕ → ℕ → Hart → MemoryState → Effect
stores_if wins size value len rd at hart memory =
    if wins
    then record { hart = with_write (record hart { reservation = None }) rd 0 (pc_after hart len); memory = with_stored memory at size value; done = record (shows_store at size value) { rd = shown_register rd 0 }; access = Untouched }
    else gives 1 len rd (record hart { reservation = None }) memory

abbrev pub stores_conditionally : Given → ℕ → ℕ → ℕ → ℕ → ℕ → Hart → MemoryState → Outcome
stores_conditionally given size len rd rs1 rs2 hart memory = do
  at ← ram_address Kind.Store size hart memory.ram (register hart rs1)
  Ok (stores_if (has_reserved hart.reservation at && given.may_win) size (register hart rs2) len rd at hart memory)

-- AMO: rd gets the old bytes, with their sign, and the value of the operation on them and rs2 is stored
abbrev pub updates_at : AmoOp → ℕ → ℕ → ℕ → ℕ → ℕ → ℕ → Hart → MemoryState → Effect
updates_at op size value len rd at old hart memory = record {
  hart = with_write hart rd (extended_by Extension.Signed size old) (pc_after hart len);
  memory = with_stored memory at size (amo_value_of op size old value);
  done = record (shows_store at size (amo_value_of op size old value)) { rd = shown_register rd (extended_by Extension.Signed size old) };
  access = Untouched;
}

abbrev pub updates : AmoOp → ℕ → ℕ → ℕ → ℕ → ℕ → Hart → MemoryState → Outcome
updates op size len rd rs1 rs2 hart memory = do
  at ← ram_address Kind.Store size hart memory.ram (register hart rs1)
  Ok (updates_at op size (register hart rs2) len rd at (number_at memory.ram at size) hart memory)

-- ---- control and status registers (Unprivileged ISA, "Zicsr" extension)

-- the word that a volatile register reads as; 0 for a register that is not volatile, and where none is read
abbrev pub given_word : Given → Bool → ℕ → ℕ
given_word given reads number = if reads && is_volatile_number number then given.volatile number else 0

-- the registers after a value was written to one of them, or as they are
abbrev pub with_csr : Bool → ℕ → ℕ → Registers → Registers
with_csr is_written number value r = if is_written then written number value r else r

-- what an access to a register leaves of the hart, and what it did
pub record CsrEffect : Type 0 where
  pub hart : Hart
  pub done : Done

abbrev pub CsrOutcome : Type 0
CsrOutcome = Result CsrEffect Exception

-- rd gets what is read where the register is read, and it is written with a value where it is written. An access
-- that is not allowed is an illegal instruction
abbrev pub accesses : ℕ → ℕ → ℕ → ℕ → Bool → Bool → ℕ → ℕ → Hart → CsrOutcome
accesses len word rd number reads is_written seen value hart =
    if may_access hart.csrs hart.mode number is_written
    then Ok (record {
      hart = with_write (record hart { csrs = with_csr is_written number value hart.csrs }) rd (view hart.csrs number seen) (pc_after hart len);
      done = record {
        rd = shown_register rd (view hart.csrs number seen);
        st = None;
        dv = None;
        vl = if reads && is_volatile_number number then Some seen else None;
        wrote = if is_written then Some number else None;
      };
    })
    else illegal word

-- CSRRW writes a value, and reads where rd is not x0
abbrev pub writes_csr : Given → ℕ → ℕ → ℕ → ℕ → ℕ → Hart → CsrOutcome
writes_csr given len word rd number value hart =
    accesses len word rd number (not (rd == 0)) true (given_word given (not (rd == 0)) number) value hart

-- CSRRS reads, and sets bits where the source is not x0 or the immediate 0; CSRRC clears them
abbrev pub sets_csr : Given → ℕ → ℕ → ℕ → ℕ → Bool → ℕ → Hart → CsrOutcome
sets_csr given len word rd number is_written value hart =
    accesses len word rd number true is_written (given_word given true number) (bit_or (base hart.csrs number (given_word given true number)) value) hart

abbrev pub clears_csr : Given → ℕ → ℕ → ℕ → ℕ → Bool → ℕ → Hart → CsrOutcome
clears_csr given len word rd number is_written value hart =
    accesses len word rd number true is_written (given_word given true number) (bit_and (base hart.csrs number (given_word given true number)) (all_bits - value)) hart

-- such an access leaves memory and the devices as they are
abbrev pub with_memory : CsrOutcome → MemoryState → Outcome
with_memory outcome memory = do
  e ← outcome
  Ok (record { hart = e.hart; memory = memory; done = e.done; access = Untouched })

-- the hart and what was done are what an access to a register comes to
abbrev pub csr_left : Hart → CsrOutcome → Hart
csr_left before (Ok e) = e.hart
csr_left before (Err x) = before

abbrev pub csr_done : CsrOutcome → Result Done Exception
csr_done (Ok e) = Ok e.done
csr_done (Err x) = Err x

pub record LeavesCsr (before hart : Hart) (done : Result Done Exception) (outcome : CsrOutcome) : Type 0 where
  pub hart_is : hart ≡ csr_left before outcome
  pub done_is : done ≡ csr_done outcome

-- ---- privileged instructions (Privileged ISA, "Environment Call and Breakpoint", "Trap-Return Instructions",
-- "Wait for Interrupt", "Supervisor Memory-Management Fence Instruction")

-- the cause of an environment call from a mode
abbrev pub cause_of_call : Mode → ℕ
cause_of_call Mode.U = 8
cause_of_call Mode.S = 9
cause_of_call Mode.M = 11

-- a hart that goes on in a mode at a pc, with these registers
abbrev pub resumed : Registers → Mode → ℕ → Hart → Hart
resumed csrs mode pc hart = record hart { csrs = csrs; mode = mode; pc = pc }

-- mret is legal in machine mode, out of debug mode
abbrev pub may_return_machine : Hart → Bool
may_return_machine hart = (level hart.mode == 3) && not (is_in_debug hart)

abbrev pub returns_machine : ℕ → Hart → MemoryState → Outcome
returns_machine word hart memory =
    if may_return_machine hart
    then Ok (goes_on (resumed (machine_returned hart.csrs) (machine_previous hart.csrs.kept.mstatus) hart.csrs.kept.mepc hart) memory)
    else illegal word

-- whether a mode may use what a bit of mstatus keeps from supervisor mode: machine mode may, supervisor mode where
-- the bit is clear, and user mode may not
abbrev pub is_open : ℕ → ℕ → Mode → Bool
is_open mask status Mode.U = false
is_open mask status Mode.S = not (has_any status mask)
is_open mask status Mode.M = true

-- sret is legal out of debug mode, in machine mode, and in supervisor mode with TSR clear
abbrev pub may_return_supervisor : Hart → Bool
may_return_supervisor hart = is_open mstatus_tsr hart.csrs.kept.mstatus hart.mode && not (is_in_debug hart)

abbrev pub returns_supervisor : ℕ → Hart → MemoryState → Outcome
returns_supervisor word hart memory =
    if may_return_supervisor hart
    then Ok (goes_on (resumed (supervisor_returned hart.csrs) (supervisor_previous hart.csrs.kept.mstatus) hart.csrs.kept.sepc hart) memory)
    else illegal word

-- dret is legal in debug mode alone
abbrev pub returns_debug : ℕ → Hart → MemoryState → Outcome
returns_debug word hart memory =
    if is_in_debug hart
    then Ok (goes_on (resumed (debug_returned hart.csrs) (resumed_mode hart.csrs.debug) (resumed_pc hart.csrs.debug) hart) memory)
    else illegal word

-- wfi does nothing; below machine mode it is legal with TW clear
abbrev pub may_wait : Hart → Bool
may_wait hart = (level (acting_mode hart) == 3) || not (has_any hart.csrs.kept.mstatus mstatus_tw)

abbrev pub waits : ℕ → ℕ → Hart → MemoryState → Outcome
waits len word hart memory = if may_wait hart then Ok (passes len hart memory) else illegal word

-- sfence.vma does nothing, since no translation is remembered that memory does not have; it is legal in machine
-- mode, and in supervisor mode with TVM clear
abbrev pub may_fence_translation : Hart → Bool
may_fence_translation hart = is_open mstatus_tvm hart.csrs.kept.mstatus (acting_mode hart)

abbrev pub fences_translation : ℕ → ℕ → Hart → MemoryState → Outcome
fences_translation len word hart memory = if may_fence_translation hart then Ok (passes len hart memory) else illegal word

-- ---- what the code leaves

abbrev pub hart_left : Hart → Outcome → Hart
hart_left before (Ok e) = e.hart
hart_left before (Err x) = before

abbrev pub memory_left : MemoryState → Outcome → MemoryState
memory_left before (Ok e) = e.memory
memory_left before (Err x) = before

abbrev pub done_by : Outcome → Result Done Exception
done_by (Ok e) = Ok e.done
done_by (Err x) = Err x

abbrev pub access_of : Outcome → Access
access_of (Ok e) = e.access
access_of (Err x) = Untouched

-- the hart, memory, what was done, and the surroundings are what an instruction of hart h comes to
pub record Leaves {A : Type 0} (after : A → ℕ → List ℕ → Access → A) (old new : A) (h : ℕ) (before hart : Hart) (kept memory : MemoryState) (done : Result Done Exception) (outcome : Outcome) : Type 0 where
  pub hart_is : hart ≡ hart_left before outcome
  pub memory_is : memory ≡ memory_left kept outcome
  pub done_is : done ≡ done_by outcome
  pub outside : new ≡ after_access after old h (memory_left kept outcome).ram (access_of outcome)

-- the same of an instruction that asks nothing of the surroundings
pub record LeavesUntouched (before hart : Hart) (kept memory : MemoryState) (done : Result Done Exception) (outcome : Outcome) : Type 0 where
  pub hart_is : hart ≡ hart_left before outcome
  pub memory_is : memory ≡ memory_left kept outcome
  pub done_is : done ≡ done_by outcome
  pub untouched : access_of outcome ≡ Untouched

-- ---- every instruction

-- what an instruction is given: what its surroundings say, the number of the board's harts, and its word with the
-- word's length in bytes
pub record Situation : Type 0 where
  pub given : Given
  pub harts : ℕ
  pub word : ℕ
  pub len : ℕ

-- what an instruction comes to, on a hart and on memory
unfoldable pub effect : Situation → Insn → Hart → MemoryState → Outcome
effect here (Insn.Lui rd imm) hart memory = Ok (gives (modulo 64 imm) here.len rd hart memory)
effect here (Insn.Auipc rd imm) hart memory = Ok (gives (offset_by hart.pc imm) here.len rd hart memory)
effect here (Insn.Jal rd imm) hart memory = Ok (jumps (offset_by hart.pc imm) here.len rd hart memory)
effect here (Insn.Jalr rd rs1 imm) hart memory = Ok (jumps (even_part (offset_by (register hart rs1) imm)) here.len rd hart memory)
effect here (Insn.Beq rs1 rs2 imm) hart memory = Ok (branches CondOp.Eq here.len rs1 rs2 imm hart memory)
effect here (Insn.Bne rs1 rs2 imm) hart memory = Ok (branches CondOp.Ne here.len rs1 rs2 imm hart memory)
effect here (Insn.Blt rs1 rs2 imm) hart memory = Ok (branches CondOp.Lt here.len rs1 rs2 imm hart memory)
effect here (Insn.Bge rs1 rs2 imm) hart memory = Ok (branches CondOp.Ge here.len rs1 rs2 imm hart memory)
effect here (Insn.Bltu rs1 rs2 imm) hart memory = Ok (branches CondOp.Ltu here.len rs1 rs2 imm hart memory)
effect here (Insn.Bgeu rs1 rs2 imm) hart memory = Ok (branches CondOp.Geu here.len rs1 rs2 imm hart memory)
effect here (Insn.Lb rd rs1 imm) hart memory = loads here.given here.harts 1 Extension.Signed here.len rd rs1 imm hart memory
effect here (Insn.Lh rd rs1 imm) hart memory = loads here.given here.harts 2 Extension.Signed here.len rd rs1 imm hart memory
effect here (Insn.Lw rd rs1 imm) hart memory = loads here.given here.harts 4 Extension.Signed here.len rd rs1 imm hart memory
effect here (Insn.Ld rd rs1 imm) hart memory = loads here.given here.harts 8 Extension.Signed here.len rd rs1 imm hart memory
effect here (Insn.Lbu rd rs1 imm) hart memory = loads here.given here.harts 1 Extension.Unsigned here.len rd rs1 imm hart memory
effect here (Insn.Lhu rd rs1 imm) hart memory = loads here.given here.harts 2 Extension.Unsigned here.len rd rs1 imm hart memory
effect here (Insn.Lwu rd rs1 imm) hart memory = loads here.given here.harts 4 Extension.Unsigned here.len rd rs1 imm hart memory
effect here (Insn.Sb rs1 rs2 imm) hart memory = stores here.harts 1 here.len rs1 rs2 imm hart memory
effect here (Insn.Sh rs1 rs2 imm) hart memory = stores here.harts 2 here.len rs1 rs2 imm hart memory
effect here (Insn.Sw rs1 rs2 imm) hart memory = stores here.harts 4 here.len rs1 rs2 imm hart memory
effect here (Insn.Sd rs1 rs2 imm) hart memory = stores here.harts 8 here.len rs1 rs2 imm hart memory
effect here (Insn.Addi rd rs1 imm) hart memory = Ok (computes_immediate BinOp.Add here.len rd rs1 imm hart memory)
effect here (Insn.Slti rd rs1 imm) hart memory = Ok (computes_immediate BinOp.Slt here.len rd rs1 imm hart memory)
effect here (Insn.Sltiu rd rs1 imm) hart memory = Ok (computes_immediate BinOp.Sltu here.len rd rs1 imm hart memory)
effect here (Insn.Xori rd rs1 imm) hart memory = Ok (computes_immediate BinOp.Xor here.len rd rs1 imm hart memory)
effect here (Insn.Ori rd rs1 imm) hart memory = Ok (computes_immediate BinOp.Or here.len rd rs1 imm hart memory)
effect here (Insn.Andi rd rs1 imm) hart memory = Ok (computes_immediate BinOp.And here.len rd rs1 imm hart memory)
effect here (Insn.Addiw rd rs1 imm) hart memory = Ok (computes_immediate BinOp.Addw here.len rd rs1 imm hart memory)
effect here (Insn.Slli rd rs1 shamt) hart memory = Ok (computes_shift BinOp.Sll here.len rd rs1 shamt hart memory)
effect here (Insn.Srli rd rs1 shamt) hart memory = Ok (computes_shift BinOp.Srl here.len rd rs1 shamt hart memory)
effect here (Insn.Srai rd rs1 shamt) hart memory = Ok (computes_shift BinOp.Sra here.len rd rs1 shamt hart memory)
effect here (Insn.Slliw rd rs1 shamt) hart memory = Ok (computes_shift BinOp.Sllw here.len rd rs1 shamt hart memory)
effect here (Insn.Srliw rd rs1 shamt) hart memory = Ok (computes_shift BinOp.Srlw here.len rd rs1 shamt hart memory)
effect here (Insn.Sraiw rd rs1 shamt) hart memory = Ok (computes_shift BinOp.Sraw here.len rd rs1 shamt hart memory)
effect here (Insn.Add rd rs1 rs2) hart memory = Ok (computes BinOp.Add here.len rd rs1 rs2 hart memory)
effect here (Insn.Sub rd rs1 rs2) hart memory = Ok (computes BinOp.Sub here.len rd rs1 rs2 hart memory)
effect here (Insn.Sll rd rs1 rs2) hart memory = Ok (computes BinOp.Sll here.len rd rs1 rs2 hart memory)
effect here (Insn.Slt rd rs1 rs2) hart memory = Ok (computes BinOp.Slt here.len rd rs1 rs2 hart memory)
effect here (Insn.Sltu rd rs1 rs2) hart memory = Ok (computes BinOp.Sltu here.len rd rs1 rs2 hart memory)
effect here (Insn.Xor rd rs1 rs2) hart memory = Ok (computes BinOp.Xor here.len rd rs1 rs2 hart memory)
effect here (Insn.Srl rd rs1 rs2) hart memory = Ok (computes BinOp.Srl here.len rd rs1 rs2 hart memory)
effect here (Insn.Sra rd rs1 rs2) hart memory = Ok (computes BinOp.Sra here.len rd rs1 rs2 hart memory)
effect here (Insn.Or rd rs1 rs2) hart memory = Ok (computes BinOp.Or here.len rd rs1 rs2 hart memory)
effect here (Insn.And rd rs1 rs2) hart memory = Ok (computes BinOp.And here.len rd rs1 rs2 hart memory)
effect here (Insn.Addw rd rs1 rs2) hart memory = Ok (computes BinOp.Addw here.len rd rs1 rs2 hart memory)
effect here (Insn.Subw rd rs1 rs2) hart memory = Ok (computes BinOp.Subw here.len rd rs1 rs2 hart memory)
effect here (Insn.Sllw rd rs1 rs2) hart memory = Ok (computes BinOp.Sllw here.len rd rs1 rs2 hart memory)
effect here (Insn.Srlw rd rs1 rs2) hart memory = Ok (computes BinOp.Srlw here.len rd rs1 rs2 hart memory)
effect here (Insn.Sraw rd rs1 rs2) hart memory = Ok (computes BinOp.Sraw here.len rd rs1 rs2 hart memory)
effect here (Insn.Mul rd rs1 rs2) hart memory = Ok (multiplies MulOp.Mul here.len rd rs1 rs2 hart memory)
effect here (Insn.Mulh rd rs1 rs2) hart memory = Ok (multiplies MulOp.Mulh here.len rd rs1 rs2 hart memory)
effect here (Insn.Mulhsu rd rs1 rs2) hart memory = Ok (multiplies MulOp.Mulhsu here.len rd rs1 rs2 hart memory)
effect here (Insn.Mulhu rd rs1 rs2) hart memory = Ok (multiplies MulOp.Mulhu here.len rd rs1 rs2 hart memory)
effect here (Insn.Div rd rs1 rs2) hart memory = Ok (multiplies MulOp.Div here.len rd rs1 rs2 hart memory)
effect here (Insn.Divu rd rs1 rs2) hart memory = Ok (multiplies MulOp.Divu here.len rd rs1 rs2 hart memory)
effect here (Insn.Rem rd rs1 rs2) hart memory = Ok (multiplies MulOp.Rem here.len rd rs1 rs2 hart memory)
effect here (Insn.Remu rd rs1 rs2) hart memory = Ok (multiplies MulOp.Remu here.len rd rs1 rs2 hart memory)
effect here (Insn.Mulw rd rs1 rs2) hart memory = Ok (multiplies MulOp.Mulw here.len rd rs1 rs2 hart memory)
effect here (Insn.Divw rd rs1 rs2) hart memory = Ok (multiplies MulOp.Divw here.len rd rs1 rs2 hart memory)
effect here (Insn.Divuw rd rs1 rs2) hart memory = Ok (multiplies MulOp.Divuw here.len rd rs1 rs2 hart memory)
effect here (Insn.Remw rd rs1 rs2) hart memory = Ok (multiplies MulOp.Remw here.len rd rs1 rs2 hart memory)
effect here (Insn.Remuw rd rs1 rs2) hart memory = Ok (multiplies MulOp.Remuw here.len rd rs1 rs2 hart memory)
effect here Insn.Fence hart memory = Ok (passes here.len hart memory)
effect here Insn.FenceI hart memory = Ok (passes here.len hart memory)
effect here (Insn.Csrrw rd rs1 csr) hart memory = with_memory (writes_csr here.given here.len here.word rd csr (register hart rs1) hart) memory
effect here (Insn.Csrrs rd rs1 csr) hart memory = with_memory (sets_csr here.given here.len here.word rd csr (not (rs1 == 0)) (register hart rs1) hart) memory
effect here (Insn.Csrrc rd rs1 csr) hart memory = with_memory (clears_csr here.given here.len here.word rd csr (not (rs1 == 0)) (register hart rs1) hart) memory
effect here (Insn.Csrrwi rd uimm csr) hart memory = with_memory (writes_csr here.given here.len here.word rd csr uimm hart) memory
effect here (Insn.Csrrsi rd uimm csr) hart memory = with_memory (sets_csr here.given here.len here.word rd csr (not (uimm == 0)) uimm hart) memory
effect here (Insn.Csrrci rd uimm csr) hart memory = with_memory (clears_csr here.given here.len here.word rd csr (not (uimm == 0)) uimm hart) memory
effect here Insn.Ecall hart memory = Err (exception (cause_of_call (acting_mode hart)) 0)
effect here Insn.Ebreak hart memory = Err (exception 3 hart.pc)
effect here Insn.Sret hart memory = returns_supervisor here.word hart memory
effect here Insn.Mret hart memory = returns_machine here.word hart memory
effect here Insn.Wfi hart memory = waits here.len here.word hart memory
effect here Insn.Dret hart memory = returns_debug here.word hart memory
effect here (Insn.SfenceVma rs1 rs2) hart memory = fences_translation here.len here.word hart memory
effect here (Insn.LrW rd rs1) hart memory = reserves 4 here.len rd rs1 hart memory
effect here (Insn.LrD rd rs1) hart memory = reserves 8 here.len rd rs1 hart memory
effect here (Insn.ScW rd rs1 rs2) hart memory = stores_conditionally here.given 4 here.len rd rs1 rs2 hart memory
effect here (Insn.AmoswapW rd rs1 rs2) hart memory = updates AmoOp.Swap 4 here.len rd rs1 rs2 hart memory
effect here (Insn.AmoaddW rd rs1 rs2) hart memory = updates AmoOp.Add 4 here.len rd rs1 rs2 hart memory
effect here (Insn.AmoxorW rd rs1 rs2) hart memory = updates AmoOp.Xor 4 here.len rd rs1 rs2 hart memory
effect here (Insn.AmoandW rd rs1 rs2) hart memory = updates AmoOp.And 4 here.len rd rs1 rs2 hart memory
effect here (Insn.AmoorW rd rs1 rs2) hart memory = updates AmoOp.Or 4 here.len rd rs1 rs2 hart memory
effect here (Insn.AmominW rd rs1 rs2) hart memory = updates AmoOp.Min 4 here.len rd rs1 rs2 hart memory
effect here (Insn.AmomaxW rd rs1 rs2) hart memory = updates AmoOp.Max 4 here.len rd rs1 rs2 hart memory
effect here (Insn.AmominuW rd rs1 rs2) hart memory = updates AmoOp.Minu 4 here.len rd rs1 rs2 hart memory
effect here (Insn.AmomaxuW rd rs1 rs2) hart memory = updates AmoOp.Maxu 4 here.len rd rs1 rs2 hart memory
effect here (Insn.ScD rd rs1 rs2) hart memory = stores_conditionally here.given 8 here.len rd rs1 rs2 hart memory
effect here (Insn.AmoswapD rd rs1 rs2) hart memory = updates AmoOp.Swap 8 here.len rd rs1 rs2 hart memory
effect here (Insn.AmoaddD rd rs1 rs2) hart memory = updates AmoOp.Add 8 here.len rd rs1 rs2 hart memory
effect here (Insn.AmoxorD rd rs1 rs2) hart memory = updates AmoOp.Xor 8 here.len rd rs1 rs2 hart memory
effect here (Insn.AmoandD rd rs1 rs2) hart memory = updates AmoOp.And 8 here.len rd rs1 rs2 hart memory
effect here (Insn.AmoorD rd rs1 rs2) hart memory = updates AmoOp.Or 8 here.len rd rs1 rs2 hart memory
effect here (Insn.AmominD rd rs1 rs2) hart memory = updates AmoOp.Min 8 here.len rd rs1 rs2 hart memory
effect here (Insn.AmomaxD rd rs1 rs2) hart memory = updates AmoOp.Max 8 here.len rd rs1 rs2 hart memory
effect here (Insn.AmominuD rd rs1 rs2) hart memory = updates AmoOp.Minu 8 here.len rd rs1 rs2 hart memory
effect here (Insn.AmomaxuD rd rs1 rs2) hart memory = updates AmoOp.Maxu 8 here.len rd rs1 rs2 hart memory
