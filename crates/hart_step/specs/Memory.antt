-- Where the accesses of a hart go (Privileged ISA, "Virtual Address Translation Process" and "Machine Cause
-- Register"): the translation of an address, what answers it, and the exception where nothing does.
use Rattle.std.specs.Prelude.{ℕ, ◌+◌, ◌-◌, ◌%◌, ◌==◌, ◌&&◌, Bool, List, length, take, drop, nat_le, Option, Some, None, Result, Ok, Err, if◌then◌else◌}
use Rattle.byteorder.specs.Endian.{little_number}
use Rattle.rv_alu.specs.declared.Mode.{Mode}
use Rattle.guest_ram.specs.Bytes.{has_part, number_at}
use Rattle.csr_file.specs.Bits.{mstatus_mprv, mstatus_mxr, mstatus_sum}
use Rattle.csr_file.specs.Access.{effective_mode}
use Rattle.trap_rules.specs.Status.{has_any, machine_previous}
use Rattle.sv39_walk.specs.declared.Kind.{Kind}
use Rattle.sv39_walk.specs.declared.WalkFault.{WalkFault}
use Rattle.sv39_walk.specs.Plain.{translated}
use Rattle.board_bus.specs.Listed.{is_listed}
use Rattle.hart_step.specs.declared.hart.Hart.{Hart}
use Rattle.hart_step.specs.Answers.{Access, Given, Loads, Untouched}
use Rattle.hart_step.specs.Harts.{is_in_debug}

-- memory as a step reaches it: the RAM, and the boot ROM
pub record MemoryState : Type 0 where
  pub ram : List ℕ
  pub rom : List ℕ

-- the boot ROM begins at 0x10000
abbrev pub rom_base : ℕ
rom_base = 0x10000

-- the greatest length of the ROM
abbrev pub most_rom : ℕ
most_rom = 131072

-- whether the n bytes from an address all lie in the ROM, and the number that they hold, the lowest byte first
abbrev pub rom_holds : List ℕ → ℕ → ℕ → Bool
rom_holds rom at n = nat_le rom_base at && nat_le (at + n) (rom_base + length rom)

abbrev pub rom_number : List ℕ → ℕ → ℕ → ℕ
rom_number rom at size = little_number size (take size (drop (at - rom_base) rom))

-- ---- exceptions

-- an exception: the number of its cause, and its trap value
-- (Privileged ISA, "Machine Cause Register", "Machine Trap Value Register")
pub record Exception : Type 0 where
  pub cause : ℕ
  pub tval : ℕ

-- the causes of an access that is not aligned, of an access fault and of a page fault, each with the address as
-- the trap value
abbrev pub misaligned_cause : Kind → ℕ
misaligned_cause Kind.Fetch = 0
misaligned_cause Kind.Load = 4
misaligned_cause Kind.Store = 6

abbrev pub access_cause : Kind → ℕ
access_cause Kind.Fetch = 1
access_cause Kind.Load = 5
access_cause Kind.Store = 7

abbrev pub page_cause : Kind → ℕ
page_cause Kind.Fetch = 12
page_cause Kind.Load = 13
page_cause Kind.Store = 15

abbrev pub exception : ℕ → ℕ → Exception
exception cause tval = record { cause = cause; tval = tval }

-- an exception ends what raises it, and a value goes on to what comes next
infixl 10 ◌>>=◌
abbrev pub ◌>>=◌ : {A B : Type 0} → Result A Exception → (A → Result B Exception) → Result B Exception
(Ok a) >>= next = next a
(Err e) >>= next = Err e

abbrev pub walk_exception : Kind → ℕ → WalkFault → Exception
walk_exception kind va WalkFault.Page = exception (page_cause kind) va
walk_exception kind va WalkFault.Access = exception (access_cause kind) va

-- ---- translation

-- the mode in which a hart fetches and carries out instructions; debug mode counts as machine mode
-- (External Debug Support, "Debug Mode")
abbrev pub acting_mode : Hart → Mode
acting_mode hart = effective_mode hart.csrs hart.mode

-- the mode in which it loads and stores: that in MPP where MPRV is set, and in debug mode machine mode
-- (Privileged ISA, "Memory Privilege in mstatus Register")
abbrev pub data_mode : Hart → Mode
data_mode hart =
    effective_mode hart.csrs (if has_any hart.csrs.kept.mstatus mstatus_mprv then machine_previous hart.csrs.kept.mstatus else hart.mode)

-- what a walk for an access finds, with the exception of its fault
abbrev pub or_exception : Kind → ℕ → Result ℕ WalkFault → Result ℕ Exception
or_exception kind va (Ok pa) = Ok pa
or_exception kind va (Err fault) = Err (walk_exception kind va fault)

-- the physical address of an access to an address in a mode, or its exception
abbrev pub physical : Mode → Kind → Hart → List ℕ → ℕ → Result ℕ Exception
physical mode kind hart ram va =
    or_exception kind va (translated ram hart.csrs.kept.satp mode (has_any hart.csrs.kept.mstatus mstatus_sum) (has_any hart.csrs.kept.mstatus mstatus_mxr) kind va)

-- data are naturally aligned, and that comes before any other exception of a data access
abbrev pub data_address : Kind → ℕ → Hart → List ℕ → ℕ → Result ℕ Exception
data_address kind size hart ram va =
    if va % size == 0 then physical (data_mode hart) kind hart ram va else Err (exception (misaligned_cause kind) va)

-- ---- loads

-- what a load gives: the number in its bytes, the device access that it is, and what a device answered
pub record Loaded : Type 0 where
  pub value : ℕ
  pub access : Access
  pub device : Option ℕ

abbrev pub from_memory : ℕ → Loaded
from_memory value = record { value = value; access = Untouched; device = None }

abbrev pub from_device : Given → ℕ → ℕ → Loaded
from_device given at size = record { value = given.device at size; access = Loads at size; device = Some (given.device at size) }

-- a load of `va` of so many bytes at a physical address is answered by RAM, by the device register there, and
-- in debug mode by the ROM; it is an access fault elsewhere. The board has n harts
abbrev pub answered : Given → ℕ → Hart → MemoryState → ℕ → ℕ → ℕ → Result Loaded Exception
answered given n hart memory size va at =
    if has_part memory.ram at size then Ok (from_memory (number_at memory.ram at size))
    else if is_listed n at size then Ok (from_device given at size)
    else if is_in_debug hart && rom_holds memory.rom at size then Ok (from_memory (rom_number memory.rom at size))
    else Err (exception (access_cause Kind.Load) va)

abbrev pub loaded : Given → ℕ → Hart → MemoryState → ℕ → ℕ → Result Loaded Exception
loaded given n hart memory size va = do
  at ← data_address Kind.Load size hart memory.ram va
  answered given n hart memory size va at

-- the physical address of an access that RAM alone answers
abbrev pub ram_address : Kind → ℕ → Hart → List ℕ → ℕ → Result ℕ Exception
ram_address kind size hart ram va = do
  at ← data_address kind size hart ram va
  if has_part ram at size then Ok at else Err (exception (access_cause kind) va)
