-- What the instructions of each class keep: the hart stays well formed and keeps its number, memory stays a list of as
-- many bytes, the ROM stays, and the device access is of a register that there is.
use Rattle.std.proofs.Common.{◌≡◌, ℕ, ◌-◌, ◌%◌, ◌^◌, ◌<◌, ◌≤◌, ◌==◌, ◌&&◌, not, Bool, true, false, if◌then◌else◌, ℤ, length, Option, Some, None, IfSome, refl, ◌∙◌, arith, lit<}
use Rattle.std.specs.Prelude.{Result, Ok, Err, IfOk, bit_and, bit_or}
use Rattle.byteorder.specs.Endian.{little_bytes}
use Rattle.guest_ram.specs.Bytes.{has_part, number_at}
use Rattle.guest_ram.proofs.PartLemmas.{length-with_part}
use Rattle.rv_alu.specs.Bits.{low_bytes}
use Rattle.rv_alu.specs.declared.AmoOp.{AmoOp}
use Rattle.rv_alu.specs.declared.BinOp.{BinOp}
use Rattle.rv_alu.specs.declared.CondOp.{CondOp}
use Rattle.rv_alu.specs.declared.MulOp.{MulOp}
use Rattle.rv_alu.specs.Arithmetic.{alu_of, is_taken, modulo, mul_div_of}
use Rattle.rv_alu.proofs.Bytes.{bytes_fit}
use Rattle.csr_file.specs.Access.{may_access}
use Rattle.csr_file.specs.Bits.{all_bits}
use Rattle.csr_file.specs.View.{base, is_volatile_number, view}
use Rattle.board_bus.specs.Listed.{is_listed}
use Rattle.sv39_walk.specs.declared.Kind.{Kind}
use Rattle.hart_step.specs.declared.access.Extension.{Extension}
use Rattle.hart_step.specs.declared.hart.Hart.{Hart}
use Rattle.hart_step.specs.Allowed.{IsAllowed}
use Rattle.hart_step.specs.Answers.{Given, Stores, Untouched}
use Rattle.hart_step.specs.Effects.{CsrEffect, Effect, Outcome, accesses, at_pc, branches, clears_csr, computes, computes_immediate, even_part, extended_by, given_word, gives, gives_loaded, goes_on, has_reserved, jumps, loads, multiplies, next_of, offset_by, passes, pc_after, reserved_at, reserves, sets_csr, stored, stores, stores_conditionally, stores_if, stores_in, updates, updates_at, with_csr, with_memory, with_stored, with_write, writes, writes_csr}
use Rattle.hart_step.specs.Fit.{AreBytes, IsWellFormed}
use Rattle.hart_step.specs.Harts.{is_in_debug, register}
use Rattle.hart_step.specs.Laws.{IsListedAccess}
use Rattle.hart_step.specs.Memory.{◌>>=◌, answered, Exception, Loaded, MemoryState, data_address, from_device, from_memory, loaded, ram_address, rom_holds, rom_number}
use Rattle.hart_step.proofs.FitHarts.{HartFits, IsPc, csr_fits, either_pc, moved, register_below, reserved_fits, wrote}
use Rattle.hart_step.proofs.FitMemory.{IsAddress, ram_address_below, stored_bytes}
use Rattle.hart_step.proofs.FitValues.{alu_below, either_below, given_below, modulo_below, mul_div_below, number_below, rom_number_below, view_below}
use Rattle.hart_step.proofs.Parity.{even_offset}

pub record MemoryFits (before after : MemoryState) : Type 0 where
  pub bytes : AreBytes after.ram
  pub long : length after.ram ≡ length before.ram
  pub rom : after.rom ≡ before.rom

pub record FitEffect (n : ℕ) (hart : Hart) (memory : MemoryState) (e : Effect) : Type 0 where
  pub hart_fits : HartFits hart e.hart
  pub memory_fits : MemoryFits memory e.memory
  pub access : IsListedAccess n e.access

abbrev pub FitOutcome : ℕ → Hart → MemoryState → Outcome → Type 0
FitOutcome n hart memory outcome = IfOk outcome (FitEffect n hart memory)

-- where an instruction whose word has len bytes begins
pub record Stands (given : Given) (len : ℕ) (hart : Hart) (memory : MemoryState) : Type 0 where
  pub formed : IsWellFormed hart
  pub ram : AreBytes memory.ram
  pub rom : AreBytes memory.rom
  pub allowed : IsAllowed hart given
  pub len_even : len % 2 ≡ 0

pub same_memory : (memory : MemoryState) → AreBytes memory.ram → MemoryFits memory memory
same_memory memory are = record { bytes = are; long = refl; rom = refl }

stored_fits : (memory : MemoryState) (at size value : ℕ) → AreBytes memory.ram → MemoryFits memory (with_stored memory at size value)
stored_fits memory at size value are = record {
  bytes = stored_bytes memory.ram at size value are;
  long = length-with_part memory.ram at (little_bytes size value);
  rom = refl;
}

-- ---- the pc

after_fits : (hart : Hart) (len : ℕ) → IsWellFormed hart → len % 2 ≡ 0 → IsPc (pc_after hart len)
after_fits hart len formed len_even = let even = formed.fit.even in record { even = omega (arith, even, len_even); below = omega arith }

offset_fits : (at : ℕ) (imm : ℤ) → at % 2 ≡ 0 → modulo 1 imm ≡ 0 → IsPc (offset_by at imm)
offset_fits at imm even low = record { even = even_offset at imm even low; below = modulo_below _ }

even_part_fits : (at : ℕ) → at < 2 ^ 64 → IsPc (even_part at)
even_part_fits at below = record { even = omega arith; below = omega arith }

-- ---- instructions that ask nothing

pub either_outcome : (n : ℕ) (hart : Hart) (memory : MemoryState) (b : Bool) (x y : Outcome) → FitOutcome n hart memory x → FitOutcome n hart memory y → FitOutcome n hart memory (if b then x else y)
either_outcome n hart memory true x y first second = first
either_outcome n hart memory false x y first second = second

-- the hart went on as another
pub goes_fit : (n : ℕ) (hart : Hart) (memory : MemoryState) → AreBytes memory.ram → (after : Hart) → HartFits hart after → FitEffect n hart memory (goes_on after memory)
goes_fit n hart memory are after fits = record { hart_fits = fits; memory_fits = same_memory memory are; access = tt }

pub passes_fit : (given : Given) (n len : ℕ) (hart : Hart) (memory : MemoryState) → Stands given len hart memory → FitEffect n hart memory (passes len hart memory)
passes_fit given n len hart memory s =
    goes_fit n hart memory s.ram (at_pc hart (pc_after hart len)) (moved hart (pc_after hart len) s.formed (after_fits hart len s.formed s.len_even))

writes_fit : (given : Given) (n len : ℕ) (hart : Hart) (memory : MemoryState) → Stands given len hart memory → (rd value next : ℕ) → value < 2 ^ 64 → IsPc next → FitEffect n hart memory (writes rd value next hart memory)
writes_fit given n len hart memory s rd value next small pc = record {
  hart_fits = wrote hart rd value next s.formed small pc;
  memory_fits = same_memory memory s.ram;
  access = tt;
}

pub gives_fit : (given : Given) (n len : ℕ) (hart : Hart) (memory : MemoryState) → Stands given len hart memory → (value rd : ℕ) → value < 2 ^ 64 → FitEffect n hart memory (gives value len rd hart memory)
gives_fit given n len hart memory s value rd small = writes_fit given n len hart memory s rd value (pc_after hart len) small (after_fits hart len s.formed s.len_even)

pub computes_immediate_fit : (given : Given) (n len : ℕ) (hart : Hart) (memory : MemoryState) → Stands given len hart memory → (op : BinOp) (rd rs1 : ℕ) (imm : ℤ) → FitEffect n hart memory (computes_immediate op len rd rs1 imm hart memory)
computes_immediate_fit given n len hart memory s op rd rs1 imm =
    gives_fit given n len hart memory s (alu_of op (register hart rs1) (modulo 64 imm)) rd (alu_below op (register hart rs1) (modulo 64 imm) (register_below hart rs1 s.formed) (modulo_below imm))

pub computes_fit : (given : Given) (n len : ℕ) (hart : Hart) (memory : MemoryState) → Stands given len hart memory → (op : BinOp) (rd rs1 rs2 : ℕ) → FitEffect n hart memory (computes op len rd rs1 rs2 hart memory)
computes_fit given n len hart memory s op rd rs1 rs2 =
    gives_fit given n len hart memory s (alu_of op (register hart rs1) (register hart rs2)) rd (alu_below op (register hart rs1) (register hart rs2) (register_below hart rs1 s.formed) (register_below hart rs2 s.formed))

pub multiplies_fit : (given : Given) (n len : ℕ) (hart : Hart) (memory : MemoryState) → Stands given len hart memory → (op : MulOp) (rd rs1 rs2 : ℕ) → FitEffect n hart memory (multiplies op len rd rs1 rs2 hart memory)
multiplies_fit given n len hart memory s op rd rs1 rs2 =
    gives_fit given n len hart memory s (mul_div_of op (register hart rs1) (register hart rs2)) rd (mul_div_below op (register hart rs1) (register hart rs2) (register_below hart rs1 s.formed) (register_below hart rs2 s.formed))

jumps_fit : (given : Given) (n len : ℕ) (hart : Hart) (memory : MemoryState) → Stands given len hart memory → (target rd : ℕ) → IsPc target → FitEffect n hart memory (jumps target len rd hart memory)
jumps_fit given n len hart memory s target rd pc =
    writes_fit given n len hart memory s rd (pc_after hart len) target (let next = after_fits hart len s.formed s.len_even in next.below) pc

pub jumps_by_fit : (given : Given) (n len : ℕ) (hart : Hart) (memory : MemoryState) → Stands given len hart memory → (rd : ℕ) (imm : ℤ) → modulo 1 imm ≡ 0 → FitEffect n hart memory (jumps (offset_by hart.pc imm) len rd hart memory)
jumps_by_fit given n len hart memory s rd imm even = jumps_fit given n len hart memory s (offset_by hart.pc imm) rd (offset_fits hart.pc imm s.formed.fit.even even)

pub jumps_to_fit : (given : Given) (n len : ℕ) (hart : Hart) (memory : MemoryState) → Stands given len hart memory → (rd rs1 : ℕ) (imm : ℤ) → FitEffect n hart memory (jumps (even_part (offset_by (register hart rs1) imm)) len rd hart memory)
jumps_to_fit given n len hart memory s rd rs1 imm =
    jumps_fit given n len hart memory s (even_part (offset_by (register hart rs1) imm)) rd (even_part_fits (offset_by (register hart rs1) imm) (modulo_below _))

pub branches_fit : (given : Given) (n len : ℕ) (hart : Hart) (memory : MemoryState) → Stands given len hart memory → (op : CondOp) (rs1 rs2 : ℕ) (imm : ℤ) → modulo 1 imm ≡ 0 → FitEffect n hart memory (branches op len rs1 rs2 imm hart memory)
branches_fit given n len hart memory s op rs1 rs2 imm even =
    goes_fit n hart memory s.ram (at_pc hart (next_of op len rs1 rs2 imm hart)) (moved hart (next_of op len rs1 rs2 imm hart) s.formed
    (either_pc (is_taken op (register hart rs1) (register hart rs2)) _ _ (offset_fits hart.pc imm s.formed.fit.even even) (after_fits hart len s.formed s.len_even)))

-- ---- loads

record IsLoaded (n size : ℕ) (l : Loaded) : Type 0 where
  small : l.value < 256 ^ size
  access : IsListedAccess n l.access

load_cases : (given : Given) (n at size : ℕ) → given.device at size < 256 ^ size → (is_ram is_device is_rom : Bool) (in_ram in_rom : ℕ) (e : Exception) → is_listed n at size ≡ is_device → in_ram < 256 ^ size → in_rom < 256 ^ size → IfOk (if is_ram then Ok (from_memory in_ram) else if is_device then Ok (from_device given at size) else if is_rom then Ok (from_memory in_rom) else Err e) (IsLoaded n size)
load_cases given n at size device true is_device is_rom in_ram in_rom e is first second = record { small = first; access = tt }
load_cases given n at size device false true is_rom in_ram in_rom e is first second = record { small = device; access = is }
load_cases given n at size device false false true in_ram in_rom e is first second = record { small = second; access = tt }
load_cases given n at size device false false false in_ram in_rom e is first second = tt

loaded_fits : (given : Given) (n len : ℕ) (hart : Hart) (memory : MemoryState) → Stands given len hart memory → (size va : ℕ) (a : Result ℕ Exception) → IfOk (a >>= answered given n hart memory size va) (IsLoaded n size)
loaded_fits given n len hart memory s size va (Err e) = tt
loaded_fits given n len hart memory s size va (Ok at) =
    load_cases given n at size (s.allowed.device at size) (has_part memory.ram at size) (is_listed n at size) (is_in_debug hart && rom_holds memory.rom at size) (number_at memory.ram at size) (rom_number memory.rom at size) _ refl
    (number_below memory.ram at size s.ram) (rom_number_below memory.rom at size s.rom)

extended_below : (extension : Extension) (size value : ℕ) → 256 ^ size ≤ 2 ^ 64 → value < 256 ^ size → extended_by extension size value < 2 ^ 64
extended_below Extension.Signed size value most small = modulo_below _
extended_below Extension.Unsigned size value most small = omega arith

gives_loaded_fit : (given : Given) (n len : ℕ) (hart : Hart) (memory : MemoryState) → Stands given len hart memory → (size : ℕ) → 256 ^ size ≤ 2 ^ 64 → (extension : Extension) (rd : ℕ) (l : Result Loaded Exception) → IfOk l (IsLoaded n size) → FitOutcome n hart memory (l >>= λ x. Ok (gives_loaded extension size len rd hart memory x))
gives_loaded_fit given n len hart memory s size most extension rd (Err e) is = tt
gives_loaded_fit given n len hart memory s size most extension rd (Ok l) is = record {
  hart_fits = wrote hart rd (extended_by extension size l.value) (pc_after hart len) s.formed (extended_below extension size l.value most is.small) (after_fits hart len s.formed s.len_even);
  memory_fits = same_memory memory s.ram;
  access = is.access;
}

pub loads_fit : (given : Given) (n len : ℕ) (hart : Hart) (memory : MemoryState) → Stands given len hart memory → (size : ℕ) → 256 ^ size ≤ 2 ^ 64 → (extension : Extension) (rd rs1 : ℕ) (imm : ℤ) → FitOutcome n hart memory (loads given n size extension len rd rs1 imm hart memory)
loads_fit given n len hart memory s size most extension rd rs1 imm =
    let va : ℕ = offset_by (register hart rs1) imm in
    gives_loaded_fit given n len hart memory s size most extension rd (loaded given n hart memory size va)
    (loaded_fits given n len hart memory s size va (data_address Kind.Load size hart memory.ram va))

-- ---- stores

stored_fit : (given : Given) (n len : ℕ) (hart : Hart) (memory : MemoryState) → Stands given len hart memory → (at size value : ℕ) (is_ram is_device : Bool) (e : Exception) → is_listed n at size ≡ is_device → FitOutcome n hart memory (if is_ram then Ok (stored at size value len hart (with_stored memory at size value) Untouched) else if is_device then Ok (stored at size value len hart memory (Stores at size (low_bytes size value))) else Err e)
stored_fit given n len hart memory s at size value true is_device e is = record {
  hart_fits = moved hart (pc_after hart len) s.formed (after_fits hart len s.formed s.len_even);
  memory_fits = stored_fits memory at size value s.ram;
  access = tt;
}
stored_fit given n len hart memory s at size value false true e is = record {
  hart_fits = moved hart (pc_after hart len) s.formed (after_fits hart len s.formed s.len_even);
  memory_fits = same_memory memory s.ram;
  access = (is, bytes_fit size value);
}
stored_fit given n len hart memory s at size value false false e is = tt

stored_from : (given : Given) (n len : ℕ) (hart : Hart) (memory : MemoryState) → Stands given len hart memory → (size value va : ℕ) (a : Result ℕ Exception) → FitOutcome n hart memory (a >>= λ at. stores_in n size value len va at hart memory)
stored_from given n len hart memory s size value va (Err e) = tt
stored_from given n len hart memory s size value va (Ok at) =
    stored_fit given n len hart memory s at size value (has_part memory.ram at size) (is_listed n at size) _ refl

pub stores_fit : (given : Given) (n len : ℕ) (hart : Hart) (memory : MemoryState) → Stands given len hart memory → (size rs1 rs2 : ℕ) (imm : ℤ) → FitOutcome n hart memory (stores n size len rs1 rs2 imm hart memory)
stores_fit given n len hart memory s size rs1 rs2 imm =
    let va : ℕ = offset_by (register hart rs1) imm in
    stored_from given n len hart memory s size (register hart rs2) va (data_address Kind.Store size hart memory.ram va)

-- ---- atomics

-- a hart with another reservation writes a register
written_after : (given : Given) (n len : ℕ) (hart : Hart) (memory : MemoryState) → Stands given len hart memory → (r : Option ℕ) → IfSome r (λ at. at % 8 ≡ 0) → IfSome r (λ at. at < 2 ^ 64) → (rd value : ℕ) → value < 2 ^ 64 → HartFits hart (with_write (record hart { reservation = r }) rd value (pc_after hart len))
written_after given n len hart memory s r aligned below rd value small =
    let before : Hart = record hart { reservation = r } in
    let fits : HartFits before (with_write before rd value (pc_after hart len)) = wrote before rd value (pc_after hart len) (reserved_fits hart r s.formed aligned below) small (after_fits hart len s.formed s.len_even) in
    record { formed = fits.formed; number = fits.number; outside = fits.outside }

reserved_from : (given : Given) (n len : ℕ) (hart : Hart) (memory : MemoryState) → Stands given len hart memory → (size rd : ℕ) (a : Result ℕ Exception) → IsAddress a → FitOutcome n hart memory (a >>= λ at. Ok (gives (extended_by Extension.Signed size (number_at memory.ram at size)) len rd (record hart { reservation = Some (reserved_at at) }) memory))
reserved_from given n len hart memory s size rd (Err e) below = tt
reserved_from given n len hart memory s size rd (Ok at) below = record {
  hart_fits = written_after given n len hart memory s (Some (reserved_at at)) (omega arith) (omega arith) rd _ (modulo_below _);
  memory_fits = same_memory memory s.ram;
  access = tt;
}

pub reserves_fit : (given : Given) (n len : ℕ) (hart : Hart) (memory : MemoryState) → Stands given len hart memory → (size rd rs1 : ℕ) → FitOutcome n hart memory (reserves size len rd rs1 hart memory)
reserves_fit given n len hart memory s size rd rs1 =
    reserved_from given n len hart memory s size rd (ram_address Kind.Load size hart memory.ram (register hart rs1)) (ram_address_below Kind.Load size hart memory.ram (register hart rs1) (register_below hart rs1 s.formed))

conditional_cases : (given : Given) (n len : ℕ) (hart : Hart) (memory : MemoryState) → Stands given len hart memory → (wins : Bool) (size value rd at : ℕ) → FitEffect n hart memory (stores_if wins size value len rd at hart memory)
conditional_cases given n len hart memory s true size value rd at = record {
  hart_fits = written_after given n len hart memory s None tt tt rd 0 (lit< tt);
  memory_fits = stored_fits memory at size value s.ram;
  access = tt;
}
conditional_cases given n len hart memory s false size value rd at = record {
  hart_fits = written_after given n len hart memory s None tt tt rd 1 (lit< tt);
  memory_fits = same_memory memory s.ram;
  access = tt;
}

conditional_by : (given : Given) (n len : ℕ) (hart : Hart) (memory : MemoryState) → Stands given len hart memory → (size value rd : ℕ) (a : Result ℕ Exception) → FitOutcome n hart memory (a >>= λ at. Ok (stores_if (has_reserved hart.reservation at && given.may_win) size value len rd at hart memory))
conditional_by given n len hart memory s size value rd (Err e) = tt
conditional_by given n len hart memory s size value rd (Ok at) = conditional_cases given n len hart memory s (has_reserved hart.reservation at && given.may_win) size value rd at

pub conditional_fits : (given : Given) (n len : ℕ) (hart : Hart) (memory : MemoryState) → Stands given len hart memory → (size rd rs1 rs2 : ℕ) → FitOutcome n hart memory (stores_conditionally given size len rd rs1 rs2 hart memory)
conditional_fits given n len hart memory s size rd rs1 rs2 =
    conditional_by given n len hart memory s size (register hart rs2) rd (ram_address Kind.Store size hart memory.ram (register hart rs1))

updated_from : (given : Given) (n len : ℕ) (hart : Hart) (memory : MemoryState) → Stands given len hart memory → (op : AmoOp) (size value rd : ℕ) (a : Result ℕ Exception) → FitOutcome n hart memory (a >>= λ at. Ok (updates_at op size value len rd at (number_at memory.ram at size) hart memory))
updated_from given n len hart memory s op size value rd (Err e) = tt
updated_from given n len hart memory s op size value rd (Ok at) = record {
  hart_fits = wrote hart rd _ (pc_after hart len) s.formed (modulo_below _) (after_fits hart len s.formed s.len_even);
  memory_fits = stored_fits memory at size _ s.ram;
  access = tt;
}

pub updates_fit : (given : Given) (n len : ℕ) (hart : Hart) (memory : MemoryState) → Stands given len hart memory → (op : AmoOp) (size rd rs1 rs2 : ℕ) → FitOutcome n hart memory (updates op size len rd rs1 rs2 hart memory)
updates_fit given n len hart memory s op size rd rs1 rs2 =
    updated_from given n len hart memory s op size (register hart rs2) rd (ram_address Kind.Store size hart memory.ram (register hart rs1))

-- ---- control and status registers

word_below : (given : Given) (len : ℕ) (hart : Hart) (memory : MemoryState) → Stands given len hart memory → (reads : Bool) (number : ℕ) → given_word given reads number < 2 ^ 64
word_below given len hart memory s reads number =
    either_below (reads && is_volatile_number number) (given.volatile number) 0 (given_below number (given.volatile number) (s.allowed.volatile number)) (lit< tt)

csr_effect : (n : ℕ) (hart : Hart) (memory : MemoryState) → AreBytes memory.ram → (b : Bool) (e : CsrEffect) (x : Exception) → HartFits hart e.hart → FitOutcome n hart memory (with_memory (if b then Ok e else Err x) memory)
csr_effect n hart memory are true e x fits = record { hart_fits = fits; memory_fits = same_memory memory are; access = tt }
csr_effect n hart memory are false e x fits = tt

accesses_fit : (given : Given) (n len : ℕ) (hart : Hart) (memory : MemoryState) → Stands given len hart memory → (word rd number : ℕ) (reads is_written : Bool) (seen value : ℕ) → seen < 2 ^ 64 → FitOutcome n hart memory (with_memory (accesses len word rd number reads is_written seen value hart) memory)
accesses_fit given n len hart memory s word rd number reads is_written seen value small =
    let before : Hart = record hart { csrs = with_csr is_written number value hart.csrs } in
    let changed : HartFits hart before = csr_fits is_written number value hart s.formed in
    let fits : HartFits before (with_write before rd (view hart.csrs number seen) (pc_after hart len)) = wrote before rd (view hart.csrs number seen) (pc_after hart len) changed.formed (view_below hart.csrs number seen s.formed.registers small) (after_fits hart len s.formed s.len_even) in
    csr_effect n hart memory s.ram (may_access hart.csrs hart.mode number is_written) _ _
    (record { formed = fits.formed; number = fits.number ∙ changed.number; outside = λ out. fits.outside (changed.outside out) })

pub writes_csr_fit : (given : Given) (n len : ℕ) (hart : Hart) (memory : MemoryState) → Stands given len hart memory → (word rd number value : ℕ) → FitOutcome n hart memory (with_memory (writes_csr given len word rd number value hart) memory)
writes_csr_fit given n len hart memory s word rd number value =
    accesses_fit given n len hart memory s word rd number (not (rd == 0)) true (given_word given (not (rd == 0)) number) value (word_below given len hart memory s (not (rd == 0)) number)

pub sets_csr_fit : (given : Given) (n len : ℕ) (hart : Hart) (memory : MemoryState) → Stands given len hart memory → (word rd number : ℕ) (is_written : Bool) (value : ℕ) → FitOutcome n hart memory (with_memory (sets_csr given len word rd number is_written value hart) memory)
sets_csr_fit given n len hart memory s word rd number is_written value =
    accesses_fit given n len hart memory s word rd number true is_written (given_word given true number) (bit_or (base hart.csrs number (given_word given true number)) value) (word_below given len hart memory s true number)

pub clears_csr_fit : (given : Given) (n len : ℕ) (hart : Hart) (memory : MemoryState) → Stands given len hart memory → (word rd number : ℕ) (is_written : Bool) (value : ℕ) → FitOutcome n hart memory (with_memory (clears_csr given len word rd number is_written value hart) memory)
clears_csr_fit given n len hart memory s word rd number is_written value =
    accesses_fit given n len hart memory s word rd number true is_written (given_word given true number) (bit_and (base hart.csrs number (given_word given true number)) (all_bits - value)) (word_below given len hart memory s true number)
