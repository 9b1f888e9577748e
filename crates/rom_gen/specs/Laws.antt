-- What follows from the definitions: the steps of an item, of a list of items, of the two kinds of blocks, and that
-- every well-formed running machine is restored by the ROM of its devices and harts.
use Rattle.std.specs.Prelude.{◌≡◌, Some, None, ℕ, ◌+◌, ◌<◌, ◌≤◌, ◌++◌, IsTrue, List, length}
use Rattle.rv_alu.specs.Modes.{level}
use Rattle.rv_decode.specs.declared.Insn.{Insn}
use Rattle.csr_file.specs.Bits.{dcsr_fixed}
use Rattle.csr_file.specs.Kept.{reset_debug_registers}
use Rattle.csr_file.specs.declared.registers.Registers.{Registers}
use Rattle.board_bus.specs.Board as board
use Rattle.board_bus.specs.Board.{BoardState, hart_count, reset_board}
use Rattle.hart_step.specs.declared.hart.Hart.{Hart}
use Rattle.hart_step.specs.DebugReset.{debug_registers}
use Rattle.hart_step.specs.Fit.{AreBytes, IsWellFormed}
use Rattle.hart_step.specs.Harts.{hart_of}
use Rattle.hart_step.specs.Memory.{most_rom}
use Rattle.hart_step.specs.Step.{memory_of}
use Rattle.hart_turns.specs.Boot.{Booting}
use Rattle.hart_turns.specs.Fit.{IsFit}
use Rattle.hart_turns.specs.Machine.{MachineState, is_running}
use Rattle.rom_gen.specs.Items.{Item, Spelled, Spelling, StandAt, Stands, all_insns, code, word_count}
use Rattle.rom_gen.specs.ItemEffects.{AllSpelled, ButLastFollowed, Moves, all_do, all_sent, bytes_sent, does, ends_in_leave, is_leave}
use Rattle.rom_gen.specs.Wants.{Pooled, hart_all, placed, want_items, want_values}
use Rattle.rom_gen.specs.HartWants.{controls}
use Rattle.rom_gen.specs.Deeds.{all_deed_values, placed_deeds}
use Rattle.rom_gen.specs.DeviceBlock.{device_deeds}
use Rattle.rom_gen.specs.Rom.{rom_bytes}
use Rattle.rom_gen.specs.Executed.{HasCome, Restores}

-- where a hart in debug mode stands at a spelling of an item, as many steps as it has words do what the item does, none
-- of them an exception, and send its bytes
abbrev pub ItemSteps : Type 0
ItemSteps =
    (b : Booting) (h place block : ℕ) (item : Item) (insns : List Insn) → h < length b.core.harts →
    Stands (memory_of b.core) (hart_of b.core h) place → Spelled (length b.core.harts) (memory_of b.core) (hart_of b.core h) block item insns → StandAt (code insns) place b.core.rom →
    Moves (is_leave item) h (length insns) b (does h (length insns) item b) × ((does h (length insns) item b).console ≡ b.console ++ bytes_sent h item b)

-- so do the steps of a list of items that are spelled one after another, of which the last alone may go elsewhere or
-- leave debug mode
abbrev pub ItemsJoin : Type 0
ItemsJoin =
    (b : Booting) (h place block : ℕ) (items : List Spelling) → h < length b.core.harts →
    Stands (memory_of b.core) (hart_of b.core h) place → AllSpelled h block items b → ButLastFollowed items → StandAt (code (all_insns items)) place b.core.rom →
    Moves (ends_in_leave items) h (word_count items) b (all_do h items b) × ((all_do h items b).console ≡ b.console ++ all_sent h items b)

-- the items of the control and status registers of a hart out of debug mode make those registers out of the ones at
-- reset in debug mode, with the hart's mode and pc in dcsr and dpc
abbrev pub RegistersRestored : Type 0
RegistersRestored =
    (target hart : Hart) (off : ℕ) → IsWellFormed target → target.csrs.debug ≡ None → hart.csrs ≡ debug_registers target.csrs.hart → length hart.x ≡ 32 →
    (hart_all (placed want_items want_values off (controls target)) hart).csrs
    ≡ record target.csrs { debug = Some (record reset_debug_registers { dcsr = dcsr_fixed + level target.mode; dpc = target.pc }) }

-- the items of the devices of a board make them out of devices at reset and send nothing; each is spelled where the
-- hart has come to their block and their pool stands in it
abbrev pub DevicesRestored : Type 0
DevicesRestored =
    (b : Booting) (h place off : ℕ) (csrs : Registers) (target : BoardState) → board.IsFit target → HasCome b h place csrs → Pooled place off (all_deed_values (device_deeds target)) b.core.rom →
    length b.core.harts ≡ hart_count target → b.board ≡ reset_board (hart_count target) →
    AllSpelled h place (placed_deeds off (device_deeds target)) b
    × ((all_do h (placed_deeds off (device_deeds target)) b).board ≡ target)
    × ((all_do h (placed_deeds off (device_deeds target)) b).console ≡ b.console)

-- every well-formed running machine is restored by the ROM of its devices and harts, which fits and is made of bytes
abbrev pub RomsRestore : Type 0
RomsRestore =
    (m : MachineState) → IsFit m → IsTrue (is_running m) →
    (length (rom_bytes m.board m.core.harts) ≤ most_rom) × AreBytes (rom_bytes m.board m.core.harts) × Restores m (rom_bytes m.board m.core.harts)
