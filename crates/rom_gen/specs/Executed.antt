-- What is promised of a boot ROM and of its parts: what executing them does to a machine on its way through a boot.
use Rattle.std.specs.Prelude.{◌≡◌, ◌≢◌, None, ℕ, ◌+◌, ◌*◌, ◌%◌, ◌<◌, ◌≤◌, List, [], length, slice_index, slice_index_or, slice_set}
use Rattle.csr_file.specs.declared.registers.Registers.{Registers}
use Rattle.board_bus.specs.Board.{BoardState, hart_count, reset_board}
use Rattle.hart_step.specs.declared.hart.Hart.{Hart}
use Rattle.hart_step.specs.DebugReset.{debug_registers}
use Rattle.hart_step.specs.Effects.{even_part}
use Rattle.hart_step.specs.Harts.{hart_of, register, reset_hart}
use Rattle.hart_step.specs.Memory.{most_rom, rom_base}
use Rattle.hart_step.specs.Step.{memory_of, unreserved_hart}
use Rattle.hart_turns.specs.Boot.{Booting, Boots, Frees, Leads, most_steps}
use Rattle.hart_turns.specs.Machine.{MachineState, cleared, debug_machine}
use Rattle.rom_gen.specs.Items.{StandAt, Stands}
use Rattle.rom_gen.specs.ItemEffects.{becomes, freed, moved}

-- ---- the whole

-- booting a machine at reset in debug mode, with the shape and the memory of m, as many input bytes taken and this ROM,
-- leads to m without its reservations, and sends nothing
abbrev pub Restores : MachineState → List ℕ → Type 0
Restores m rom = (steps : ℕ) × Boots (debug_machine m.shape m.taken m.core.ram rom) steps (cleared m) []

-- ---- its parts

-- an address in the ROM's range at which a block may begin
pub record IsBlockAddress (at : ℕ) : Type 0 where
  pub low : rom_base ≤ at
  pub high : at < rom_base + most_rom
  pub aligned : at % 8 ≡ 0

-- hart h has come to a block, which begins at a place of the ROM that is a multiple of 8: x1 has its address, and its
-- control and status registers are these
pub record HasCome (b : Booting) (h place : ℕ) (csrs : Registers) : Type 0 where
  pub inside : h < length b.core.harts
  pub stands : Stands (memory_of b.core) (hart_of b.core h) place
  pub csrs_are : (hart_of b.core h).csrs ≡ csrs
  pub at : register (hart_of b.core h) 1 ≡ rom_base + place
  pub aligned : place % 8 ≡ 0

-- what the stores of hart h to devices leave of all harts: its own reservation stays, and the others lose theirs at most
pub record Stay (h : ℕ) (before after : List Hart) : Type 0 where
  pub count : length after ≡ length before
  pub own : (slice_index_or after h (reset_hart 0 0)).reservation ≡ (slice_index_or before h (reset_hart 0 0)).reservation
  pub others : (i : ℕ) (d : Hart) → i ≢ h → i < length before → unreserved_hart (slice_index_or after i d) ≡ unreserved_hart (slice_index_or before i d)
  pub free : (i : ℕ) (d : Hart) → i ≢ h → i < length before → (slice_index_or before i d).reservation ≡ None → (slice_index_or after i d).reservation ≡ None

-- hart h, whose number that is, is about to execute the first word of the ROM
pub record HasBegun (b : Booting) (h : ℕ) : Type 0 where
  pub inside : h < length b.core.harts
  pub stands : Stands (memory_of b.core) (hart_of b.core h) 0
  pub number : (hart_of b.core h).csrs.hart ≡ h

-- hart h behind the dispatch: at its start, which x1 has, and with 8 h in x2
abbrev pub sent_on : ℕ → ℕ → Hart → Hart
sent_on h start hart = record hart { x = slice_set (slice_set hart.x 1 start) 2 (8 * h); pc = even_part start }

-- these first bytes of a ROM send each hart to its start, in six steps
abbrev pub Dispatches : List ℕ → List ℕ → Type 0
Dispatches starts bytes =
    (b : Booting) (h : ℕ) → h < length starts → HasBegun b h → StandAt bytes 0 b.core.rom →
    Leads h 6 b (becomes h 6 (sent_on h (slice_index starts h) (hart_of b.core h)) b)

-- executing this block makes the devices of this board out of devices at reset, sends nothing and leads on to `next`,
-- whose address x1 then has. The other harts stay as they are, but for reservations that the stores take
abbrev pub RestoresDevices : BoardState → ℕ → ℕ → List ℕ → Type 0
RestoresDevices board at next bytes =
    (b : Booting) (h place after : ℕ) (csrs : Registers) → at ≡ rom_base + place → next ≡ rom_base + after → HasCome b h place csrs →
    StandAt bytes place b.core.rom → length b.core.harts ≡ hart_count board → b.board ≡ reset_board (hart_count board) →
    (n : ℕ) × (harts : List Hart) × (n < most_steps) × Leads h n b (moved n harts board b) × HasCome (moved n harts board b) h after csrs × Stay h b.core.harts harts

-- executing this block makes this hart, without a reservation, out of one with its number at reset in debug mode, and
-- frees it
abbrev pub RestoresHart : Hart → ℕ → List ℕ → Type 0
RestoresHart target at bytes =
    (b : Booting) (h place : ℕ) → at ≡ rom_base + place → HasCome b h place (debug_registers target.csrs.hart) → (hart_of b.core h).reservation ≡ None → StandAt bytes place b.core.rom →
    (n : ℕ) × (n ≤ most_steps) × Frees h n b (freed h n (unreserved_hart target) b.board b)
