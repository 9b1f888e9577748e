-- What the instructions of each class show has a spelling: the register that was written has in the hart the value that
-- is shown, what was stored has the size of an access and goes to RAM or to a device register, and every word that was
-- answered has the width of a register. So it is with the exceptions that they raise.
use Rattle.std.proofs.Common.{◌≡◌, ◌≢◌, ◌⊎◌, inl, inr, ℕ, ◌+◌, ◌*◌, ◌%◌, ◌^◌, ◌<◌, ◌≤◌, ◌==◌, ◌&&◌, Bool, true, false, if◌then◌else◌, ℤ, List, length, Option, Some, None, refl, sym, ◌∙◌, arith, lit<, lit≤, get_or-set_same}
use Rattle.std.specs.Prelude.{Result, Ok, Err, slice_set}
use Rattle.std.proofs.lemmas.Bool.{eqb-false, false≢true}
use Rattle.std.proofs.lemmas.Bool.Decides.{nat_tests}
use Rattle.guest_ram.specs.Bytes.{IsSize, has_part, most_bytes, number_at}
use Rattle.rv_alu.specs.declared.AmoOp.{AmoOp}
use Rattle.rv_alu.specs.declared.Mode.{Mode}
use Rattle.rv_alu.specs.Arithmetic.{sign_extended}
use Rattle.rv_alu.proofs.Bytes.{bytes_fit}
use Rattle.csr_file.specs.Access.{may_access}
use Rattle.csr_file.specs.View.{is_volatile_number, view}
use Rattle.csr_file.specs.declared.registers.Registers.{Registers}
use Rattle.sv39_walk.specs.declared.Kind.{Kind}
use Rattle.sv39_walk.specs.declared.WalkFault.{WalkFault}
use Rattle.board_bus.specs.Listed.{clint_base, clint_length, console_base, console_length, is_listed, is_listed_in, is_within, place_of, plic_base, plic_length}
use Rattle.hart_step.specs.declared.hart.Hart.{Hart}
use Rattle.hart_step.specs.Allowed.{IsAllowed}
use Rattle.hart_step.specs.Answers.{Access, Given, Stores, Untouched}
use Rattle.hart_step.specs.Effects.{Effect, Outcome, Situation, accesses, cause_of_call, given_word, gives, goes_on, has_reserved, illegal, offset_by, pc_after, reserved_at, reserves, shows_write, stored, stores, stores_conditionally, stores_if, stores_in, updates, updates_at, with_csr, with_memory, with_stored, with_write, writes}
use Rattle.hart_step.specs.Events.{IsStored}
use Rattle.hart_step.specs.Fit.{IsWellFormed}
use Rattle.hart_step.specs.Harts.{is_in_debug, register, shown_register}
use Rattle.hart_step.specs.Memory.{◌>>=◌, Exception, Loaded, MemoryState, access_cause, answered, data_address, data_mode, exception, from_device, from_memory, loaded, misaligned_cause, or_exception, page_cause, physical, ram_address, rom_holds, rom_number}
use Rattle.hart_step.proofs.FitHarts.{register_below}
use Rattle.hart_step.proofs.FitValues.{either_below, given_below, modulo_below}
use Rattle.commit_log.specs.Spelling.{IsOptionalWord, IsStoredAt, IsWord}

-- where an instruction begins whose word is shown
pub record Begins (here : Situation) (hart : Hart) (memory : MemoryState) : Type 0 where
  pub formed : IsWellFormed hart
  pub allowed : IsAllowed hart here.given
  pub word : IsWord here.word
  pub room : length memory.ram ≤ most_bytes

-- ---- what is shown

-- an exception: its cause is below 16, and its trap value is a word
abbrev pub IsRaised : Exception → Type 0
IsRaised x = (x.cause < 16) × IsWord x.tval

-- a register that is shown as written is one of x1 to x31, and the hart has the value in it
abbrev pub HasWritten : Hart → Option (ℕ × ℕ) → Type 0
HasWritten hart None = Unit {0}
HasWritten hart (Some rd) = (1 ≤ rd.0) × (rd.0 ≤ 31) × (register hart rd.0 ≡ rd.1)

-- an effect
pub record IsShown (e : Effect) : Type 0 where
  pub rd : HasWritten e.hart e.done.rd
  pub st : IsStored e.done.st
  pub at : IsStoredAt e.done.st
  pub dv : IsOptionalWord e.done.dv
  pub vl : IsOptionalWord e.done.vl

abbrev pub OutcomeShown : Outcome → Type 0
OutcomeShown (Ok e) = IsShown e
OutcomeShown (Err x) = IsRaised x

-- ---- registers

written_by : (b : Bool) (hart : Hart) (rd value next : ℕ) → (rd == 0) ≡ b → length hart.x ≡ 32 → rd < 32 → HasWritten (record (if b then hart else record hart { x = slice_set hart.x rd value }) { pc = next }) (if b then None else Some (rd, value))
written_by true hart rd value next is long small = tt
written_by false hart rd value next is long small =
    let other : rd ≢ 0 = eqb-false rd 0 is in
    (omega arith, omega arith, get_or-set_same hart.x rd value 0 (omega arith))

has_written : (hart : Hart) (rd value next : ℕ) → length hart.x ≡ 32 → rd < 32 → HasWritten (with_write hart rd value next) (shown_register rd value)
has_written hart rd value next = written_by (rd == 0) hart rd value next refl

pub nothing_shown : (hart : Hart) (memory : MemoryState) → IsShown (goes_on hart memory)
nothing_shown hart memory = record { rd = tt; st = tt; at = tt; dv = tt; vl = tt }

pub writes_shown : (here : Situation) (hart : Hart) (memory : MemoryState) → Begins here hart memory → (rd value next : ℕ) → rd < 32 → IsShown (writes rd value next hart memory)
writes_shown here hart memory b rd value next small = record { rd = has_written hart rd value next b.formed.count small; st = tt; at = tt; dv = tt; vl = tt }

pub or_illegal_shown : (b : Bool) (hart : Hart) (memory : MemoryState) (word : ℕ) → IsWord word → OutcomeShown (if b then Ok (goes_on hart memory) else illegal word)
or_illegal_shown true hart memory word is = nothing_shown hart memory
or_illegal_shown false hart memory word is = (lit< tt, is)

pub call_small : (mode : Mode) → cause_of_call mode < 16
call_small Mode.U = lit< tt
call_small Mode.S = lit< tt
call_small Mode.M = lit< tt

-- ---- addresses

-- what ends without a value is an exception
abbrev pub Raises : {A : Type 0} → Result A Exception → Type 0
Raises (Ok a) = Unit {0}
Raises (Err x) = IsRaised x

page_small : (kind : Kind) → page_cause kind < 16
page_small Kind.Fetch = lit< tt
page_small Kind.Load = lit< tt
page_small Kind.Store = lit< tt

pub access_small : (kind : Kind) → access_cause kind < 16
access_small Kind.Fetch = lit< tt
access_small Kind.Load = lit< tt
access_small Kind.Store = lit< tt

misaligned_small : (kind : Kind) → misaligned_cause kind < 16
misaligned_small Kind.Fetch = lit< tt
misaligned_small Kind.Load = lit< tt
misaligned_small Kind.Store = lit< tt

walk_raises : (kind : Kind) (va : ℕ) → IsWord va → (r : Result ℕ WalkFault) → Raises (or_exception kind va r)
walk_raises kind va is (Ok at) = tt
walk_raises kind va is (Err WalkFault.Page) = (page_small kind, is)
walk_raises kind va is (Err WalkFault.Access) = (access_small kind, is)

pub physical_raises : (mode : Mode) (kind : Kind) (hart : Hart) (ram : List ℕ) (va : ℕ) → IsWord va → Raises (physical mode kind hart ram va)
physical_raises mode kind hart ram va is = walk_raises kind va is _

either_raises : (b : Bool) (x y : Result ℕ Exception) → Raises x → Raises y → Raises (if b then x else y)
either_raises true x y first second = first
either_raises false x y first second = second

data_raises : (kind : Kind) (size : ℕ) (hart : Hart) (ram : List ℕ) (va : ℕ) → IsWord va → Raises (data_address kind size hart ram va)
data_raises kind size hart ram va is =
    either_raises (va % size == 0) (physical (data_mode hart) kind hart ram va) (Err (exception (misaligned_cause kind) va)) (physical_raises (data_mode hart) kind hart ram va is) (misaligned_small kind, is)

-- where bytes are held, their address is a word
in_ram_below : (ram : List ℕ) (at size : ℕ) → length ram ≤ most_bytes → has_part ram at size ≡ true → at < 2 ^ 64
in_ram_below ram at size room is = grind (arith, nat_tests)

-- the last of four that a test refuses is not chosen
chosen : {P : Type 0} (test : P → Bool) (x y z w : P) (b c d : Bool) → test w ≡ false → test (if b then x else if c then y else if d then z else w) ≡ true → (b ≡ true) ⊎ (c ≡ true) ⊎ (d ≡ true)
chosen test x y z w true c d none is = inl refl
chosen test x y z w false true d none is = inr (inl refl)
chosen test x y z w false false true none is = inr (inr refl)
chosen test x y z w false false false none is = absurd (false≢true (sym none ∙ is))

within_below : (first long at : ℕ) → first + long ≤ 2 ^ 64 → is_within first long at ≡ true → at < 2 ^ 64
within_below first long at room is = grind (arith, nat_tests)

-- and so it is where a device has a register
listed_below : (n at size : ℕ) → is_listed n at size ≡ true → at < 2 ^ 64
unfolding is_listed place_of
listed_below n at size is = elim (chosen (is_listed_in n size) _ _ _ _ (is_within clint_base clint_length at) (is_within plic_base plic_length at) (is_within console_base console_length at) refl is) [
  | inl in_clint ↦ within_below clint_base clint_length at (lit≤ tt) in_clint
  | inr rest ↦ elim rest [
    | inl in_plic ↦ within_below plic_base plic_length at (lit≤ tt) in_plic
    | inr in_console ↦ within_below console_base console_length at (lit≤ tt) in_console
  ]
]

-- ---- loads

-- what a load gives
abbrev LoadShown : Result Loaded Exception → Type 0
LoadShown (Ok l) = IsOptionalWord l.device
LoadShown (Err x) = IsRaised x

answered_by : (given : Given) (at size va in_ram in_rom : ℕ) (is_ram is_device is_rom : Bool) → given.device at size < 2 ^ 64 → IsWord va → LoadShown (if is_ram then Ok (from_memory in_ram) else if is_device then Ok (from_device given at size) else if is_rom then Ok (from_memory in_rom) else Err (exception (access_cause Kind.Load) va))
answered_by given at size va in_ram in_rom true is_device is_rom small is = tt
answered_by given at size va in_ram in_rom false true is_rom small is = small
answered_by given at size va in_ram in_rom false false true small is = tt
answered_by given at size va in_ram in_rom false false false small is = (lit< tt, is)

loaded_shown : (here : Situation) (hart : Hart) (memory : MemoryState) → Begins here hart memory → (size : ℕ) → 256 ^ size ≤ 2 ^ 64 → (va : ℕ) → IsWord va → (a : Result ℕ Exception) → Raises a → LoadShown (a >>= answered here.given here.harts hart memory size va)
loaded_shown here hart memory b size most va is (Err x) raises = raises
loaded_shown here hart memory b size most va is (Ok at) raises =
    let device = b.allowed.device at size in
    answered_by here.given at size va (number_at memory.ram at size) (rom_number memory.rom at size) (has_part memory.ram at size) (is_listed here.harts at size) (is_in_debug hart && rom_holds memory.rom at size) (omega (arith, device, most)) is

-- the effect of a load that extends what was loaded
abbrev extends : (ℕ → ℕ) → ℕ → ℕ → Hart → MemoryState → Loaded → Effect
extends extended rd next hart memory l = record {
  hart = with_write hart rd (extended l.value) next;
  memory = memory;
  done = record (shows_write rd (extended l.value)) { dv = l.device };
  access = l.access;
}

extends_shown : (extended : ℕ → ℕ) (rd next : ℕ) (hart : Hart) (memory : MemoryState) → length hart.x ≡ 32 → rd < 32 → (l : Result Loaded Exception) → LoadShown l → OutcomeShown (l >>= λ x. Ok (extends extended rd next hart memory x))
extends_shown extended rd next hart memory long small (Err x) shown = shown
extends_shown extended rd next hart memory long small (Ok l) shown = record { rd = has_written hart rd (extended l.value) next long small; st = tt; at = tt; dv = shown; vl = tt }

pub loads_shown : (here : Situation) (hart : Hart) (memory : MemoryState) → Begins here hart memory → (size : ℕ) → 256 ^ size ≤ 2 ^ 64 → (extended : ℕ → ℕ) (rd rs1 : ℕ) (imm : ℤ) → rd < 32 → OutcomeShown (loaded here.given here.harts hart memory size (offset_by (register hart rs1) imm) >>= λ l. Ok (extends extended rd (pc_after hart here.len) hart memory l))
loads_shown here hart memory b size most extended rd rs1 imm small =
    let va : ℕ = offset_by (register hart rs1) imm in
    extends_shown extended rd (pc_after hart here.len) hart memory b.formed.count small (loaded here.given here.harts hart memory size va)
    (loaded_shown here hart memory b size most va (modulo_below _) (data_address Kind.Load size hart memory.ram va) (data_raises Kind.Load size hart memory.ram va (modulo_below _)))

-- ---- stores

pub size_1 : IsSize 1
size_1 = inl refl

pub size_2 : IsSize 2
size_2 = inr (inl refl)

pub size_4 : IsSize 4
size_4 = inr (inr (inl refl))

pub size_8 : IsSize 8
size_8 = inr (inr (inr refl))

stored_shown : (at size value len : ℕ) (hart : Hart) (memory : MemoryState) (access : Access) → IsSize size → at < 2 ^ 64 → IsShown (stored at size value len hart memory access)
stored_shown at size value len hart memory access is_size below = record { rd = tt; st = (is_size, bytes_fit size value); at = below; dv = tt; vl = tt }

stored_in : (n at size value len va : ℕ) (hart : Hart) (memory : MemoryState) → IsSize size → length memory.ram ≤ most_bytes → IsWord va → (is_ram is_device : Bool) → has_part memory.ram at size ≡ is_ram → is_listed n at size ≡ is_device → OutcomeShown (if is_ram then Ok (stored at size value len hart (with_stored memory at size value) Untouched) else if is_device then Ok (stored at size value len hart memory (Stores at size (value % 256 ^ size))) else Err (exception (access_cause Kind.Store) va))
stored_in n at size value len va hart memory is_size room is true is_device in_ram in_device = stored_shown at size value len hart _ _ is_size (in_ram_below memory.ram at size room in_ram)
stored_in n at size value len va hart memory is_size room is false true in_ram in_device = stored_shown at size value len hart _ _ is_size (listed_below n at size in_device)
stored_in n at size value len va hart memory is_size room is false false in_ram in_device = (lit< tt, is)

stored_from : (n size value len va : ℕ) (hart : Hart) (memory : MemoryState) → IsSize size → length memory.ram ≤ most_bytes → IsWord va → (a : Result ℕ Exception) → Raises a → OutcomeShown (a >>= λ at. stores_in n size value len va at hart memory)
stored_from n size value len va hart memory is_size room is (Err x) raises = raises
stored_from n size value len va hart memory is_size room is (Ok at) raises = stored_in n at size value len va hart memory is_size room is (has_part memory.ram at size) (is_listed n at size) refl refl

pub stores_shown : (here : Situation) (hart : Hart) (memory : MemoryState) → Begins here hart memory → (size : ℕ) → IsSize size → (rs1 rs2 : ℕ) (imm : ℤ) → OutcomeShown (stores here.harts size here.len rs1 rs2 imm hart memory)
stores_shown here hart memory b size is_size rs1 rs2 imm =
    let va : ℕ = offset_by (register hart rs1) imm in
    stored_from here.harts size (register hart rs2) here.len va hart memory is_size b.room (modulo_below _) (data_address Kind.Store size hart memory.ram va) (data_raises Kind.Store size hart memory.ram va (modulo_below _))

-- ---- atomics

-- an address in RAM
abbrev AddressShown : Result ℕ Exception → Type 0
AddressShown (Ok at) = IsWord at
AddressShown (Err x) = IsRaised x

address_in : (kind : Kind) (ram : List ℕ) (size va at : ℕ) → length ram ≤ most_bytes → IsWord va → (b : Bool) → has_part ram at size ≡ b → AddressShown (if b then Ok at else Err (exception (access_cause kind) va))
address_in kind ram size va at room is true in_ram = in_ram_below ram at size room in_ram
address_in kind ram size va at room is false in_ram = (access_small kind, is)

address_from : (kind : Kind) (ram : List ℕ) (size va : ℕ) → length ram ≤ most_bytes → IsWord va → (a : Result ℕ Exception) → Raises a → AddressShown (a >>= λ at. if has_part ram at size then Ok at else Err (exception (access_cause kind) va))
address_from kind ram size va room is (Err x) raises = raises
address_from kind ram size va room is (Ok at) raises = address_in kind ram size va at room is (has_part ram at size) refl

address_shown : (here : Situation) (hart : Hart) (memory : MemoryState) → Begins here hart memory → (kind : Kind) (size rs1 : ℕ) → AddressShown (ram_address kind size hart memory.ram (register hart rs1))
address_shown here hart memory b kind size rs1 =
    let va : ℕ = register hart rs1 in
    address_from kind memory.ram size va b.room (register_below hart rs1 b.formed) (data_address kind size hart memory.ram va) (data_raises kind size hart memory.ram va (register_below hart rs1 b.formed))

reserved_from : (size rd len : ℕ) (hart : Hart) (memory : MemoryState) → length hart.x ≡ 32 → rd < 32 → (a : Result ℕ Exception) → AddressShown a → OutcomeShown (a >>= λ at. Ok (gives (sign_extended (number_at memory.ram at size) (8 * size)) len rd (record hart { reservation = Some (reserved_at at) }) memory))
reserved_from size rd len hart memory long small (Err x) shown = shown
reserved_from size rd len hart memory long small (Ok at) shown =
    record { rd = has_written (record hart { reservation = Some (reserved_at at) }) rd _ (pc_after hart len) long small; st = tt; at = tt; dv = tt; vl = tt }

pub reserves_shown : (here : Situation) (hart : Hart) (memory : MemoryState) → Begins here hart memory → (size rd rs1 : ℕ) → rd < 32 → OutcomeShown (reserves size here.len rd rs1 hart memory)
reserves_shown here hart memory b size rd rs1 small =
    reserved_from size rd here.len hart memory b.formed.count small (ram_address Kind.Load size hart memory.ram (register hart rs1)) (address_shown here hart memory b Kind.Load size rs1)

stored_if : (wins : Bool) (size value len rd at : ℕ) (hart : Hart) (memory : MemoryState) → IsSize size → IsWord at → length hart.x ≡ 32 → rd < 32 → IsShown (stores_if wins size value len rd at hart memory)
stored_if true size value len rd at hart memory is_size below long small =
    record { rd = has_written (record hart { reservation = None }) rd 0 (pc_after hart len) long small; st = (is_size, bytes_fit size value); at = below; dv = tt; vl = tt }
stored_if false size value len rd at hart memory is_size below long small =
    record { rd = has_written (record hart { reservation = None }) rd 1 (pc_after hart len) long small; st = tt; at = tt; dv = tt; vl = tt }

conditional_from : (given : Given) (size value len rd : ℕ) (hart : Hart) (memory : MemoryState) → IsSize size → length hart.x ≡ 32 → rd < 32 → (a : Result ℕ Exception) → AddressShown a → OutcomeShown (a >>= λ at. Ok (stores_if (has_reserved hart.reservation at && given.may_win) size value len rd at hart memory))
conditional_from given size value len rd hart memory is_size long small (Err x) shown = shown
conditional_from given size value len rd hart memory is_size long small (Ok at) shown = stored_if (has_reserved hart.reservation at && given.may_win) size value len rd at hart memory is_size shown long small

pub conditional_shown : (here : Situation) (hart : Hart) (memory : MemoryState) → Begins here hart memory → (size : ℕ) → IsSize size → (rd rs1 rs2 : ℕ) → rd < 32 → OutcomeShown (stores_conditionally here.given size here.len rd rs1 rs2 hart memory)
conditional_shown here hart memory b size is_size rd rs1 rs2 small =
    conditional_from here.given size (register hart rs2) here.len rd hart memory is_size b.formed.count small (ram_address Kind.Store size hart memory.ram (register hart rs1)) (address_shown here hart memory b Kind.Store size rs1)

updated_from : (op : AmoOp) (size value len rd : ℕ) (hart : Hart) (memory : MemoryState) → IsSize size → length hart.x ≡ 32 → rd < 32 → (a : Result ℕ Exception) → AddressShown a → OutcomeShown (a >>= λ at. Ok (updates_at op size value len rd at (number_at memory.ram at size) hart memory))
updated_from op size value len rd hart memory is_size long small (Err x) shown = shown
updated_from op size value len rd hart memory is_size long small (Ok at) shown =
    record { rd = has_written hart rd _ (pc_after hart len) long small; st = (is_size, bytes_fit size _); at = shown; dv = tt; vl = tt }

pub updates_shown : (here : Situation) (hart : Hart) (memory : MemoryState) → Begins here hart memory → (op : AmoOp) (size : ℕ) → IsSize size → (rd rs1 rs2 : ℕ) → rd < 32 → OutcomeShown (updates op size here.len rd rs1 rs2 hart memory)
updates_shown here hart memory b op size is_size rd rs1 rs2 small =
    updated_from op size (register hart rs2) here.len rd hart memory is_size b.formed.count small (ram_address Kind.Store size hart memory.ram (register hart rs1)) (address_shown here hart memory b Kind.Store size rs1)

-- ---- control and status registers

seen_shown : (b : Bool) (seen : ℕ) → IsWord seen → IsOptionalWord (if b then Some seen else None)
seen_shown true seen is = is
seen_shown false seen is = tt

accessed_by : (may reads : Bool) (word rd value next seen : ℕ) (wrote : Option ℕ) (csrs : Registers) (hart : Hart) (memory : MemoryState) → IsWord word → IsWord seen → length hart.x ≡ 32 → rd < 32 → OutcomeShown (with_memory (if may then Ok (record { hart = with_write (record hart { csrs = csrs }) rd value next; done = record { rd = shown_register rd value; st = None; dv = None; vl = if reads then Some seen else None; wrote = wrote } }) else illegal word) memory)
accessed_by true reads word rd value next seen wrote csrs hart memory is_word is_seen long small =
    record { rd = has_written (record hart { csrs = csrs }) rd value next long small; st = tt; at = tt; dv = tt; vl = seen_shown reads seen is_seen }
accessed_by false reads word rd value next seen wrote csrs hart memory is_word is_seen long small = (lit< tt, is_word)

pub accesses_shown : (here : Situation) (hart : Hart) (memory : MemoryState) → Begins here hart memory → (rd number : ℕ) (reads is_written : Bool) (value : ℕ) → rd < 32 → OutcomeShown (with_memory (accesses here.len here.word rd number reads is_written (given_word here.given reads number) value hart) memory)
accesses_shown here hart memory b rd number reads is_written value small =
    let seen : ℕ = given_word here.given reads number in
    accessed_by (may_access hart.csrs hart.mode number is_written) (reads && is_volatile_number number) here.word rd (view hart.csrs number seen) (pc_after hart here.len) seen _ (with_csr is_written number value hart.csrs) hart memory b.word
    (either_below (reads && is_volatile_number number) _ 0 (given_below number _ (b.allowed.volatile number)) (lit< tt)) b.formed.count small
