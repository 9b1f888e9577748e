-- One step of a hart: an interrupt that is given, or else what is fetched, what it decodes to, what the instruction
-- does, and what the step then shows and leaves. An exception on the way ends it.
use Rattle.std.specs.Prelude.{◌≡◌, ℕ, ◌+◌, ◌*◌, ◌%◌, ◌^◌, ◌==◌, ◌&&◌, not, Bool, true, false, List, [], Option, Some, None, Result, Ok, Err, length, map, nat_lt, slice_set, if◌then◌else◌}
use Rattle.std.specs.List.{list_any}
use Rattle.guest_ram.specs.Bytes.{has_part, number_at, with_part}
use Rattle.byteorder.specs.Endian.{little_bytes}
use Rattle.rv_decode.specs.declared.Insn.{Insn}
use Rattle.rv_decode.specs.Compressed.{expanded}
use Rattle.rv_decode.specs.Words.{decoded as word_decoded}
use Rattle.csr_file.specs.Count.{counted}
use Rattle.trap_rules.specs.declared.Cause.{Cause}
use Rattle.trap_rules.specs.Entry.{entered, handler_pc, handling_mode}
use Rattle.sv39_walk.specs.declared.Kind.{Kind}
use Rattle.hart_step.specs.declared.event.Event.{Event}
use Rattle.hart_step.specs.declared.event.Put.{Put}
use Rattle.hart_step.specs.declared.event.Event.TheVariants.{Commit, Exception as Raised, Interrupt}
use Rattle.hart_step.specs.declared.hart.Hart.{Hart}
use Rattle.hart_step.specs.Events.{IsEvent}
use Rattle.hart_step.specs.Answers.{Access, Given, Untouched, after_access}
use Rattle.hart_step.specs.Harts.{CoreState, hart_of, is_in_debug, privilege_of}
use Rattle.hart_step.specs.Memory.{◌>>=◌, Exception, MemoryState, access_cause, acting_mode, exception, physical, rom_holds, rom_number}
use Rattle.hart_step.specs.Effects.{Effect, effect, illegal}

-- ---- fetch

-- the 16-bit parcel at an address, each translated by itself: it is answered by RAM, and in debug mode by the ROM too
abbrev pub parcel : Hart → MemoryState → ℕ → Result ℕ Exception
parcel hart memory va = do
  at ← physical (acting_mode hart) Kind.Fetch hart memory.ram va
  if has_part memory.ram at 2 then Ok (number_at memory.ram at 2)
      else if is_in_debug hart && rom_holds memory.rom at 2 then Ok (rom_number memory.rom at 2)
      else Err (exception (access_cause Kind.Fetch) va)

-- an instruction's word, a 16-bit one with zeros above, and its length in bytes
pub record Fetched : Type 0 where
  pub word : ℕ
  pub len : ℕ

-- the instruction that a first parcel begins: one that ends in 11 is the low half of a 32-bit word (Unprivileged ISA,
-- "Expanded Instruction-Length Encoding"); any other is a 16-bit instruction
abbrev pub completed : Hart → MemoryState → ℕ → Result Fetched Exception
completed hart memory low =
    if low % 4 == 3
    then (do
      high ← parcel hart memory ((hart.pc + 2) % 2 ^ 64)
      Ok (record { word = low + 0x10000 * high; len = 4 }))
    else Ok (record { word = low; len = 2 })

-- what is fetched at the pc: the word, a 16-bit one with zeros above, and its length in bytes; or the exception of
-- the parcel that cannot be fetched, whose trap value is that parcel's address
abbrev pub fetched : Hart → MemoryState → Result Fetched Exception
fetched hart memory = do
  low ← parcel hart memory hart.pc
  completed hart memory low

-- the instruction that two parcels begin with, the first one in the low half
abbrev pub first_of : ℕ → Fetched
first_of parcels =
    if parcels % 4 == 3 then record { word = parcels; len = 4 } else record { word = parcels % 0x10000; len = 2 }

abbrev pub begun_by : Result ℕ Exception → Result Fetched Exception
begun_by read = do
  parcels ← read
  Ok (first_of parcels)

-- ---- decoding

-- the instruction of a fetched word, by its length in bytes: a word of two is a compressed form
abbrev pub decoded : ℕ → ℕ → Option Insn
decoded word len = if len == 2 then expanded word else word_decoded word

-- a word that stands for no instruction is an illegal one
abbrev pub or_illegal : ℕ → Option Insn → Result Insn Exception
or_illegal word (Some insn) = Ok insn
or_illegal word None = illegal word

-- ---- the step of one hart

-- a hart after a trap: an interrupt has the trap value 0, and the step is counted as one that retired nothing
abbrev pub enters : Cause → ℕ → Hart → Hart
enters cause tval hart = record hart {
  csrs = counted false None (entered hart.mode cause tval hart.pc hart.csrs);
  mode = handling_mode hart.csrs hart.mode cause;
  pc = handler_pc hart.csrs hart.mode cause;
}

-- a hart after an exception: in debug mode it stays as it is (External Debug Support, "Debug Mode")
abbrev pub traps : Exception → Hart → Hart
traps e hart = if is_in_debug hart then hart else enters (Cause.Exception e.cause) e.tval hart

-- a hart after an instruction that retired: a step that began in debug mode is not counted
abbrev pub retired : Bool → Option ℕ → Hart → Hart
retired was_in_debug wrote hart = if was_in_debug then hart else record hart { csrs = counted true wrote hart.csrs }

-- what a step of a hart shows, what it stored, and what it leaves
pub record HartAnswer : Type 0 where
  pub event : Event
  pub stored : Option Put
  pub hart : Hart
  pub memory : MemoryState
  pub access : Access

-- the step of hart h, which was `before`, by the effect of its instruction
abbrev pub commits : ℕ → Hart → ℕ → Effect → HartAnswer
commits h before word e = record {
  event = Commit h (privilege_of before) before.pc word e.done.rd e.done.st e.done.dv e.done.vl;
  stored = e.done.st;
  hart = retired (is_in_debug before) e.done.wrote e.hart;
  memory = e.memory;
  access = e.access;
}

-- the step of hart h by an exception, which leaves all else as it was
abbrev pub raises : ℕ → Hart → MemoryState → Exception → HartAnswer
raises h hart memory x = record {
  event = Raised h (privilege_of hart) hart.pc x.cause x.tval;
  stored = None;
  hart = traps x hart;
  memory = memory;
  access = Untouched;
}

abbrev pub or_raises : ℕ → Hart → MemoryState → Result HartAnswer Exception → HartAnswer
or_raises h hart memory (Ok a) = a
or_raises h hart memory (Err x) = raises h hart memory x

-- the instruction of a fetched word is decoded and carried out, on a board of n harts
abbrev pub carried_out : Given → ℕ → ℕ → Hart → MemoryState → Fetched → Result HartAnswer Exception
carried_out given n h hart memory f = do
  insn ← or_illegal f.word (decoded f.word f.len)
  e ← effect (record { given = given; harts = n; word = f.word; len = f.len }) insn hart memory
  Ok (commits h hart f.word e)

-- the step of an instruction
abbrev pub instruction_step : Given → ℕ → ℕ → Hart → MemoryState → HartAnswer
instruction_step given n h hart memory = or_raises h hart memory (do
  f ← fetched hart memory
  carried_out given n h hart memory f)

-- an interrupt is the whole step
abbrev pub interrupted : ℕ → ℕ → Hart → MemoryState → HartAnswer
interrupted cause h hart memory = record {
  event = Interrupt h cause;
  stored = None;
  hart = enters (Cause.Interrupt cause) 0 hart;
  memory = memory;
  access = Untouched;
}

-- an interrupt that is given is taken before the fetch
abbrev pub step_after : Option ℕ → Given → ℕ → ℕ → Hart → MemoryState → HartAnswer
step_after (Some cause) given n h hart memory = interrupted cause h hart memory
step_after None given n h hart memory = instruction_step given n h hart memory

-- one step of a hart with number h, on a board of n harts
unfoldable pub hart_step : Given → ℕ → ℕ → Hart → MemoryState → HartAnswer
hart_step given n h hart memory = step_after given.interrupt given n h hart memory

-- the hart, memory, the event that is shown, what was stored and the surroundings are what a step of hart h says, and
-- the event is well formed
pub record StepLeaves {A : Type 0} (after : A → ℕ → List ℕ → Access → A) (old new : A) (h : ℕ) (hart : Hart) (memory : MemoryState) (shows : Event → Type 0) (put : Option Put) (a : HartAnswer) : Type 0 where
  pub hart_is : hart ≡ a.hart
  pub memory_is : memory ≡ a.memory
  pub shown : shows a.event
  pub formed : IsEvent a.event
  pub stored_is : put ≡ a.stored
  pub outside : new ≡ after_access after old h a.memory.ram a.access

-- ---- the step of a core

-- whether one of the size bytes from an address is among the eight that are reserved
-- (Unprivileged ISA, "Load-Reserved/Store-Conditional Instructions")
abbrev pub is_touched : ℕ → ℕ → Option ℕ → Bool
is_touched at size None = false
is_touched at size (Some reserved) = nat_lt reserved (at + size) && nat_lt at (reserved + 8)

-- a hart that loses a reservation which is touched
abbrev pub without_reservation : ℕ → ℕ → Hart → Hart
without_reservation at size hart = if is_touched at size hart.reservation then record hart { reservation = None } else hart

-- the harts after something was stored, or nothing
abbrev pub after_store : Option Put → List Hart → List Hart
after_store None harts = harts
after_store (Some put) harts = map (without_reservation put.at put.size) harts

-- the ROM is empty from the step on in which the last hart leaves debug mode
abbrev pub rom_after : Hart → Hart → List Hart → List ℕ → List ℕ
rom_after before after harts rom =
    if (is_in_debug before && not (is_in_debug after)) && not (list_any is_in_debug harts) then [] else rom

pub record Answer : Type 0 where
  pub event : Event
  pub access : Access
  pub core : CoreState

-- the harts of a core after hart h made a step: a store takes the reservations of the others that it touches
abbrev pub harts_after : CoreState → ℕ → HartAnswer → List Hart
harts_after core h a = slice_set (after_store a.stored core.harts) h a.hart

abbrev pub core_after : CoreState → ℕ → Hart → HartAnswer → Answer
core_after core h before a = record {
  event = a.event;
  access = a.access;
  core = record {
    harts = harts_after core h a;
    ram = a.memory.ram;
    rom = rom_after before a.hart (harts_after core h a) a.memory.rom;
  };
}

-- memory as the harts of a core reach it
abbrev pub memory_of : CoreState → MemoryState
memory_of core = record { ram = core.ram; rom = core.rom }

-- one step of hart h of a core, on a board of as many harts
unfoldable pub step : Given → CoreState → ℕ → Answer
step given core h = core_after core h (hart_of core h) (hart_step given (length core.harts) h (hart_of core h) (memory_of core))

-- ---- what is done to a core beside its steps

-- a core after the host cleared the eight bytes at an address, as a device stores them
abbrev pub host_cleared : CoreState → ℕ → CoreState
host_cleared core at = record core {
  harts = map (without_reservation at 8) core.harts;
  ram = with_part core.ram at (little_bytes 8 0);
}

-- a core without any reservation
abbrev pub unreserved_hart : Hart → Hart
unreserved_hart hart = record hart { reservation = None }

abbrev pub unreserved : CoreState → CoreState
unreserved core = record core { harts = map unreserved_hart core.harts }
