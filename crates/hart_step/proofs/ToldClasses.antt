-- Each class of instructions does the same again where it is told what it showed, also with one reservation more.
use Rattle.std.proofs.Common.{◌≡◌, ℕ, ◌^◌, ◌<◌, ◌==◌, ℤ, Bool, true, false, not, ◌&&◌, if◌then◌else◌, Option, Some, None, refl, sym, ap, subst, ◌∙◌}
use Rattle.std.proofs.lemmas.Bool.{false≢true}
use Rattle.std.proofs.Math.Nat.{mod-eq_of_lt}
use Rattle.std.specs.Prelude.{Result, Ok, Err, ◌-◌, bit_and, bit_or}
use Rattle.rv_alu.specs.Bits.{low_bytes}
use Rattle.rv_alu.specs.declared.AmoOp.{AmoOp}
use Rattle.csr_file.specs.View.{IsGiven, base, is_volatile_number, view}
use Rattle.csr_file.specs.Bits.{all_bits}
use Rattle.csr_file.specs.Access.{may_access}
use Rattle.csr_file.specs.declared.registers.Registers.{Registers}
use Rattle.guest_ram.specs.Bytes.{has_part, number_at}
use Rattle.board_bus.specs.Listed.{is_listed}
use Rattle.sv39_walk.specs.declared.Kind.{Kind}
use Rattle.hart_step.specs.declared.hart.Hart.{Hart}
use Rattle.hart_step.specs.declared.access.Extension.{Extension}
use Rattle.hart_step.specs.Answers.{Access, Given, Loads, Untouched}
use Rattle.hart_step.specs.Effects as effects
use Rattle.hart_step.specs.Effects.{CsrEffect, CsrOutcome, Effect, Outcome, at_pc, clears_csr, gives, gives_loaded, goes_on, has_reserved, loads, pc_after, reserves, sets_csr, stores, stores_conditionally, stores_if, stores_in, updates, updates_at, with_csr, with_memory, with_write, writes, writes_csr}
use Rattle.hart_step.specs.Harts.{register, shown_register}
use Rattle.hart_step.specs.Memory.{◌>>=◌, Exception, Loaded, MemoryState, data_address, exception, from_device, from_memory, answered, loaded, ram_address}
use Rattle.hart_step.specs.Done.{Done}
use Rattle.hart_step.specs.Told.{Covers, Follows, OutcomeFollows, reserved, told_of}
use Rattle.hart_step.proofs.ToldWrites.{covers_itself, write_keeps, write_reserved}

-- ---- instructions that ask nothing

pub goes_follow : (r : Option ℕ) (hart : Hart) (memory : MemoryState) → Covers r hart.reservation → Follows (goes_on (reserved r hart) memory) (goes_on hart memory)
goes_follow r hart memory covers = record { reservation = r; is = refl; covers = covers }

pub goes_to : (r : Option ℕ) (hart : Hart) (memory : MemoryState) → Covers r hart.reservation → (next : ℕ) → Follows (goes_on (at_pc (reserved r hart) next) memory) (goes_on (at_pc hart next) memory)
goes_to r hart memory covers next = record { reservation = r; is = refl; covers = covers }

pub writes_follow : (r : Option ℕ) (hart : Hart) (memory : MemoryState) → Covers r hart.reservation → (rd value next : ℕ) → Follows (writes rd value next (reserved r hart) memory) (writes rd value next hart memory)
writes_follow r hart memory covers rd value next = record {
  reservation = r;
  is = ap (λ (x : Hart). record (writes rd value next hart memory) { hart = x }) (write_reserved r hart rd value next);
  covers = subst (λ (own : Option ℕ). Covers r own) (sym (write_keeps hart rd value next)) covers;
}

-- ---- loads

loaded_follows : (r : Option ℕ) (hart : Hart) (memory : MemoryState) → Covers r hart.reservation → (size : ℕ) (extension : Extension) (len rd : ℕ) (l : Result Loaded Exception) → OutcomeFollows (l >>= λ x. Ok (gives_loaded extension size len rd (reserved r hart) memory x)) (l >>= λ x. Ok (gives_loaded extension size len rd hart memory x))
loaded_follows r hart memory covers size extension len rd (Err e) = refl
loaded_follows r hart memory covers size extension len rd (Ok l) = record {
  reservation = r;
  is = ap (λ (x : Hart). record (gives_loaded extension size len rd hart memory l) { hart = x }) (write_reserved r hart rd (effects.extended_by extension size l.value) (pc_after hart len));
  covers = subst (λ (own : Option ℕ). Covers r own) (sym (write_keeps hart rd (effects.extended_by extension size l.value) (pc_after hart len))) covers;
}

-- what is told after a load
abbrev told_loaded : ℕ → Extension → ℕ → ℕ → Hart → MemoryState → Result Loaded Exception → Given
told_loaded size extension len rd hart memory l = told_of (l >>= λ x. Ok (gives_loaded extension size len rd hart memory x))

-- a device's answer is told as it was
device_told : (given : Given) (at size : ℕ) → given.device at size < 256 ^ size → low_bytes size (given.device at size) ≡ given.device at size
device_told given at size fits = mod-eq_of_lt fits

abbrev placed : Bool → Bool → Bool → ℕ → ℕ → Exception → ℕ → ℕ → Given → Result Loaded Exception
placed is_ram is_device is_rom in_ram in_rom e at size given =
    if is_ram then Ok (from_memory in_ram)
    else if is_device then Ok (from_device given at size)
    else if is_rom then Ok (from_memory in_rom)
    else Err e

place_cases : (given : Given) (at size : ℕ) → given.device at size < 256 ^ size → (extension : Extension) (len rd : ℕ) (hart : Hart) (memory : MemoryState) (is_ram is_device is_rom : Bool) (in_ram in_rom : ℕ) (e : Exception) → placed is_ram is_device is_rom in_ram in_rom e at size (told_loaded size extension len rd hart memory (placed is_ram is_device is_rom in_ram in_rom e at size given)) ≡ placed is_ram is_device is_rom in_ram in_rom e at size given
place_cases given at size fits extension len rd hart memory true is_device is_rom in_ram in_rom e = refl
place_cases given at size fits extension len rd hart memory false true is_rom in_ram in_rom e = ap (λ (v : ℕ). Ok (record { value = v; access = Loads at size; device = Some v })) (device_told given at size fits)
place_cases given at size fits extension len rd hart memory false false true in_ram in_rom e = refl
place_cases given at size fits extension len rd hart memory false false false in_ram in_rom e = refl

-- what was loaded is loaded again under what the load shows
address_cases : (given : Given) (n : ℕ) (hart : Hart) (memory : MemoryState) (size va : ℕ) → ((at : ℕ) → given.device at size < 256 ^ size) → (extension : Extension) (len rd : ℕ) (a : Result ℕ Exception) → (a >>= answered (told_loaded size extension len rd hart memory (a >>= answered given n hart memory size va)) n hart memory size va) ≡ (a >>= answered given n hart memory size va)
address_cases given n hart memory size va fits extension len rd (Err e) = refl
address_cases given n hart memory size va fits extension len rd (Ok at) =
    place_cases given at size (fits at) extension len rd hart memory (has_part memory.ram at size) (is_listed n at size) _ _ _ _

pub loads_follow : (given : Given) (r : Option ℕ) (hart : Hart) (memory : MemoryState) → Covers r hart.reservation → (n size : ℕ) → ((at : ℕ) → given.device at size < 256 ^ size) → (extension : Extension) (len rd rs1 : ℕ) (imm : ℤ) → OutcomeFollows (loads (told_of (loads given n size extension len rd rs1 imm hart memory)) n size extension len rd rs1 imm (reserved r hart) memory) (loads given n size extension len rd rs1 imm hart memory)
loads_follow given r hart memory covers n size fits extension len rd rs1 imm =
    let va : ℕ = effects.offset_by (register hart rs1) imm in
    let same = address_cases given n hart memory size va fits extension len rd (data_address Kind.Load size hart memory.ram va) in
    subst (λ (l : Result Loaded Exception). OutcomeFollows (l >>= λ x. Ok (gives_loaded extension size len rd (reserved r hart) memory x)) (loaded given n hart memory size va >>= λ x. Ok (gives_loaded extension size len rd hart memory x))) (sym same)
    (loaded_follows r hart memory covers size extension len rd (loaded given n hart memory size va))

-- ---- stores

stored_cases : (is_ram is_device : Bool) (x y x2 y2 : Effect) (e : Exception) → Follows x y → Follows x2 y2 → OutcomeFollows (if is_ram then Ok x else if is_device then Ok x2 else Err e) (if is_ram then Ok y else if is_device then Ok y2 else Err e)
stored_cases true is_device x y x2 y2 e first second = first
stored_cases false true x y x2 y2 e first second = second
stored_cases false false x y x2 y2 e first second = refl

stored_from : (r : Option ℕ) (hart : Hart) (memory : MemoryState) → Covers r hart.reservation → (n size value len va : ℕ) (a : Result ℕ Exception) → OutcomeFollows (a >>= λ at. stores_in n size value len va at (reserved r hart) memory) (a >>= λ at. stores_in n size value len va at hart memory)
stored_from r hart memory covers n size value len va (Err e) = refl
stored_from r hart memory covers n size value len va (Ok at) =
    stored_cases (has_part memory.ram at size) (is_listed n at size) _ _ _ _ _ (record { reservation = r; is = refl; covers = covers }) (record { reservation = r; is = refl; covers = covers })

pub stores_follow : (r : Option ℕ) (hart : Hart) (memory : MemoryState) → Covers r hart.reservation → (n size len rs1 rs2 : ℕ) (imm : ℤ) → OutcomeFollows (stores n size len rs1 rs2 imm (reserved r hart) memory) (stores n size len rs1 rs2 imm hart memory)
stores_follow r hart memory covers n size len rs1 rs2 imm =
    stored_from r hart memory covers n size (register hart rs2) len (effects.offset_by (register hart rs1) imm) (data_address Kind.Store size hart memory.ram (effects.offset_by (register hart rs1) imm))

-- ---- atomics

has_covered : (r own : Option ℕ) (at : ℕ) → Covers r own → has_reserved own at ≡ true → has_reserved r at ≡ true
has_covered r None at covers has = absurd (false≢true has)
has_covered r (Some reserved) at covers has = ap (λ (o : Option ℕ). has_reserved o at) covers ∙ has

-- the hart without a reservation writes
fresh_follows : (r : Option ℕ) (hart : Hart) (rd value next : ℕ) (memory : MemoryState) (done : Done) (access : Access) → Follows (record { hart = with_write (reserved r hart) rd value next; memory = memory; done = done; access = access }) (record { hart = with_write (reserved r hart) rd value next; memory = memory; done = done; access = access })
fresh_follows r hart rd value next memory done access = record {
  reservation = r;
  is = ap (λ (x : Hart). record { hart = x; memory = memory; done = done; access = access }) (write_reserved r hart rd value next ∙ ap (reserved r) (sym (write_reserved r hart rd value next)));
  covers = subst (λ (own : Option ℕ). Covers r own) (sym (write_keeps (reserved r hart) rd value next)) (covers_itself r);
}

sc_cases : (r : Option ℕ) (hart : Hart) (memory : MemoryState) (size value len rd at : ℕ) (own other wins : Bool) → (own ≡ true → other ≡ true) → Follows (stores_if (other && (told_of (Ok (stores_if (own && wins) size value len rd at hart memory))).may_win) size value len rd at (reserved r hart) memory) (stores_if (own && wins) size value len rd at hart memory)
sc_cases r hart memory size value len rd at true other true covers =
    subst (λ (b : Bool). Follows (stores_if (b && true) size value len rd at (reserved r hart) memory) (stores_if true size value len rd at hart memory)) (sym (covers refl))
    (fresh_follows None hart rd 0 (pc_after hart len) _ _ _)
sc_cases r hart memory size value len rd at true true false covers = fresh_follows None hart rd 1 (pc_after hart len) _ _ _
sc_cases r hart memory size value len rd at true false false covers = fresh_follows None hart rd 1 (pc_after hart len) _ _ _
sc_cases r hart memory size value len rd at false true wins covers = fresh_follows None hart rd 1 (pc_after hart len) _ _ _
sc_cases r hart memory size value len rd at false false wins covers = fresh_follows None hart rd 1 (pc_after hart len) _ _ _

conditional_cases : (given : Given) (r : Option ℕ) (hart : Hart) (memory : MemoryState) → Covers r hart.reservation → (size value len rd : ℕ) (a : Result ℕ Exception) → OutcomeFollows (a >>= λ at. Ok (stores_if (has_reserved r at && (told_of (a >>= λ at. Ok (stores_if (has_reserved hart.reservation at && given.may_win) size value len rd at hart memory))).may_win) size value len rd at (reserved r hart) memory)) (a >>= λ at. Ok (stores_if (has_reserved hart.reservation at && given.may_win) size value len rd at hart memory))
conditional_cases given r hart memory covers size value len rd (Err e) = refl
conditional_cases given r hart memory covers size value len rd (Ok at) =
    sc_cases r hart memory size value len rd at (has_reserved hart.reservation at) (has_reserved r at) given.may_win (has_covered r hart.reservation at covers)

pub conditional_follows : (given : Given) (r : Option ℕ) (hart : Hart) (memory : MemoryState) → Covers r hart.reservation → (size len rd rs1 rs2 : ℕ) → OutcomeFollows (stores_conditionally (told_of (stores_conditionally given size len rd rs1 rs2 hart memory)) size len rd rs1 rs2 (reserved r hart) memory) (stores_conditionally given size len rd rs1 rs2 hart memory)
conditional_follows given r hart memory covers size len rd rs1 rs2 =
    conditional_cases given r hart memory covers size (register hart rs2) len rd (ram_address Kind.Store size hart memory.ram (register hart rs1))

reserves_cases : (r : Option ℕ) (hart : Hart) (memory : MemoryState) → Covers r hart.reservation → (size len rd : ℕ) (a : Result ℕ Exception) → OutcomeFollows (a >>= λ at. Ok (gives (effects.extended_by Extension.Signed size (number_at memory.ram at size)) len rd (record (reserved r hart) { reservation = Some (effects.reserved_at at) }) memory)) (a >>= λ at. Ok (gives (effects.extended_by Extension.Signed size (number_at memory.ram at size)) len rd (record hart { reservation = Some (effects.reserved_at at) }) memory))
reserves_cases r hart memory covers size len rd (Err e) = refl
reserves_cases r hart memory covers size len rd (Ok at) = fresh_follows (Some (effects.reserved_at at)) hart rd _ (pc_after hart len) _ _ _

pub reserves_follow : (r : Option ℕ) (hart : Hart) (memory : MemoryState) → Covers r hart.reservation → (size len rd rs1 : ℕ) → OutcomeFollows (reserves size len rd rs1 (reserved r hart) memory) (reserves size len rd rs1 hart memory)
reserves_follow r hart memory covers size len rd rs1 = reserves_cases r hart memory covers size len rd (ram_address Kind.Load size hart memory.ram (register hart rs1))

updates_cases : (r : Option ℕ) (hart : Hart) (memory : MemoryState) → Covers r hart.reservation → (op : AmoOp) (size value len rd : ℕ) (a : Result ℕ Exception) → OutcomeFollows (a >>= λ at. Ok (updates_at op size value len rd at (number_at memory.ram at size) (reserved r hart) memory)) (a >>= λ at. Ok (updates_at op size value len rd at (number_at memory.ram at size) hart memory))
updates_cases r hart memory covers op size value len rd (Err e) = refl
updates_cases r hart memory covers op size value len rd (Ok at) = record {
  reservation = r;
  is = ap (λ (x : Hart). record (updates_at op size value len rd at (number_at memory.ram at size) hart memory) { hart = x }) (write_reserved r hart rd _ (pc_after hart len));
  covers = subst (λ (own : Option ℕ). Covers r own) (sym (write_keeps hart rd _ (pc_after hart len))) covers;
}

pub updates_follow : (r : Option ℕ) (hart : Hart) (memory : MemoryState) → Covers r hart.reservation → (op : AmoOp) (size len rd rs1 rs2 : ℕ) → OutcomeFollows (updates op size len rd rs1 rs2 (reserved r hart) memory) (updates op size len rd rs1 rs2 hart memory)
updates_follow r hart memory covers op size len rd rs1 rs2 = updates_cases r hart memory covers op size (register hart rs2) len rd (ram_address Kind.Store size hart memory.ram (register hart rs1))

-- ---- control and status registers

abbrev accessed_done : Bool → ℕ → ℕ → Bool → ℕ → Hart → Done
accessed_done volatile rd number is_written seen hart = record {
  rd = shown_register rd (view hart.csrs number seen);
  st = None;
  dv = None;
  vl = if volatile then Some seen else None;
  wrote = if is_written then Some number else None;
}

abbrev accessed : Bool → Bool → ℕ → ℕ → ℕ → ℕ → Bool → ℕ → ℕ → Hart → CsrOutcome
accessed may volatile len word rd number is_written seen value hart =
    if may
    then Ok (record {
      hart = with_write (record hart { csrs = with_csr is_written number value hart.csrs }) rd (view hart.csrs number seen) (pc_after hart len);
      done = accessed_done volatile rd number is_written seen hart;
    })
    else Err (exception 2 word)

-- the same value is read
read_follows : (r : Option ℕ) (hart : Hart) (memory : MemoryState) → Covers r hart.reservation → (volatile : Bool) (len word rd number : ℕ) (is_written : Bool) (seen value : ℕ) → OutcomeFollows (with_memory (accessed true volatile len word rd number is_written seen value (reserved r hart)) memory) (with_memory (accessed true volatile len word rd number is_written seen value hart) memory)
read_follows r hart memory covers volatile len word rd number is_written seen value =
    let csrs : Registers = with_csr is_written number value hart.csrs in
    record {
      reservation = r;
      is = ap (λ (x : Hart). record { hart = x; memory = memory; done = accessed_done volatile rd number is_written seen hart; access = Untouched }) (write_reserved r (record hart { csrs = csrs }) rd _ (pc_after hart len));
      covers = subst (λ (own : Option ℕ). Covers r own) (sym (write_keeps (record hart { csrs = csrs }) rd _ (pc_after hart len))) covers;
    }

csr_cases : (given : Given) (r : Option ℕ) (hart : Hart) (memory : MemoryState) → Covers r hart.reservation → (number : ℕ) → IsGiven number (given.volatile number) → (may volatile : Bool) (len word rd : ℕ) (is_written : Bool) (value : ℕ → ℕ) → OutcomeFollows (with_memory (accessed may volatile len word rd number is_written (if volatile then (told_of (with_memory (accessed may volatile len word rd number is_written (if volatile then given.volatile number else 0) (value (if volatile then given.volatile number else 0)) hart) memory)).volatile number else 0) (value (if volatile then (told_of (with_memory (accessed may volatile len word rd number is_written (if volatile then given.volatile number else 0) (value (if volatile then given.volatile number else 0)) hart) memory)).volatile number else 0)) (reserved r hart)) memory) (with_memory (accessed may volatile len word rd number is_written (if volatile then given.volatile number else 0) (value (if volatile then given.volatile number else 0)) hart) memory)
csr_cases given r hart memory covers number is_given false volatile len word rd is_written value = refl
csr_cases given r hart memory covers number is_given true false len word rd is_written value = read_follows r hart memory covers false len word rd number is_written 0 (value 0)
csr_cases given r hart memory covers number is_given true true len word rd is_written value =
    subst (λ (seen : ℕ). OutcomeFollows (with_memory (accessed true true len word rd number is_written seen (value seen) (reserved r hart)) memory) (with_memory (accessed true true len word rd number is_written (given.volatile number) (value (given.volatile number)) hart) memory)) (sym is_given)
    (read_follows r hart memory covers true len word rd number is_written (given.volatile number) (value (given.volatile number)))

pub writes_csr_follow : (given : Given) (r : Option ℕ) (hart : Hart) (memory : MemoryState) → Covers r hart.reservation → ((number : ℕ) → IsGiven number (given.volatile number)) → (len word rd number value : ℕ) → OutcomeFollows (with_memory (writes_csr (told_of (with_memory (writes_csr given len word rd number value hart) memory)) len word rd number value (reserved r hart)) memory) (with_memory (writes_csr given len word rd number value hart) memory)
writes_csr_follow given r hart memory covers is_given len word rd number value =
    csr_cases given r hart memory covers number (is_given number) (may_access hart.csrs hart.mode number true) (not (rd == 0) && is_volatile_number number) len word rd true (λ _. value)

pub sets_csr_follow : (given : Given) (r : Option ℕ) (hart : Hart) (memory : MemoryState) → Covers r hart.reservation → ((number : ℕ) → IsGiven number (given.volatile number)) → (len word rd number : ℕ) (is_written : Bool) (value : ℕ) → OutcomeFollows (with_memory (sets_csr (told_of (with_memory (sets_csr given len word rd number is_written value hart) memory)) len word rd number is_written value (reserved r hart)) memory) (with_memory (sets_csr given len word rd number is_written value hart) memory)
sets_csr_follow given r hart memory covers is_given len word rd number is_written value =
    csr_cases given r hart memory covers number (is_given number) (may_access hart.csrs hart.mode number is_written) (true && is_volatile_number number) len word rd is_written (λ seen. bit_or (base hart.csrs number seen) value)

pub clears_csr_follow : (given : Given) (r : Option ℕ) (hart : Hart) (memory : MemoryState) → Covers r hart.reservation → ((number : ℕ) → IsGiven number (given.volatile number)) → (len word rd number : ℕ) (is_written : Bool) (value : ℕ) → OutcomeFollows (with_memory (clears_csr (told_of (with_memory (clears_csr given len word rd number is_written value hart) memory)) len word rd number is_written value (reserved r hart)) memory) (with_memory (clears_csr given len word rd number is_written value hart) memory)
clears_csr_follow given r hart memory covers is_given len word rd number is_written value =
    csr_cases given r hart memory covers number (is_given number) (may_access hart.csrs hart.mode number is_written) (true && is_volatile_number number) len word rd is_written (λ seen. bit_and (base hart.csrs number seen) (all_bits - value))

-- ---- privileged instructions

pub either_follows : (b : Bool) (x y x2 y2 : Outcome) → OutcomeFollows x y → OutcomeFollows x2 y2 → OutcomeFollows (if b then x else x2) (if b then y else y2)
either_follows true x y x2 y2 first second = first
either_follows false x y x2 y2 first second = second
