-- The blocks of the ROM, executed where their bytes stand.
use Rattle.std.specs.Prelude.{pos, None}
use Rattle.std.proofs.Common.{◌≡◌, ℕ, ◌+◌, ◌%◌, ◌≤◌, List, length, arith}
use Rattle.rv_decode.specs.declared.Insn.{Insn}
use Rattle.csr_file.specs.declared.registers.Registers.{Registers}
use Rattle.clint.specs.State.{hart_count}
use Rattle.board_bus.specs.Board.{BoardState, IsFit as IsFitBoard, reset_board}
use Rattle.hart_step.specs.declared.hart.Hart.{Hart}
use Rattle.hart_step.specs.Memory.{most_rom, rom_base}
use Rattle.hart_step.specs.Step.{unreserved_hart}
use Rattle.hart_step.specs.DebugReset.{debug_registers}
use Rattle.hart_step.specs.Harts.{hart_of}
use Rattle.hart_turns.specs.Boot.{Booting, Frees}
use Rattle.rom_gen.specs.Items.{Spelling, StandAt, word_count}
use Rattle.rom_gen.specs.ItemEffects.{freed}
use Rattle.rom_gen.specs.Rom.{device_bytes, device_items, device_size, device_values, hart_bytes, hart_items, hart_values, pool_place}
use Rattle.rom_gen.specs.Executed.{HasCome}
use Rattle.rom_gen.proofs.DeviceEnd.{device_block, Led}
use Rattle.rom_gen.proofs.HartBlock.{IsTarget, hart_block}
use Rattle.rom_gen.proofs.RomParts.{Laid, device_count, device_fixed, device_small, hart_few, hart_fixed, hart_short, laid}
use Rattle.rom_gen.proofs.WantLayout.{want_layout}

-- ---- the block of a hart

abbrev pub hart_steps : Hart → ℕ
hart_steps target = word_count (hart_items target (pool_place (hart_items target))) + 1

-- the block of a hart frees it
pub hart_part : (b : Booting) (h block : ℕ) (target : Hart) → IsTarget target → HasCome b h block (debug_registers target.csrs.hart) →
    (hart_of b.core h).reservation ≡ None → StandAt (hart_bytes target) block b.core.rom →
    Frees h (hart_steps target) b (freed h (hart_steps target) (unreserved_hart target) b.board b)
unfolding hart_bytes
hart_part b h block target fit come none there =
    let k : ℕ = pool_place (hart_items target) in
    let stands : Laid (hart_items target) Insn.Dret (hart_values target) block b.core.rom = laid (hart_items target) Insn.Dret (hart_values target) block b.core.rom (hart_fixed target) there in
    let n : ℕ = word_count (hart_items target 0) in
    let short : n ≤ 165 = hart_short target in
    let few : length (hart_values target) ≤ 55 = hart_few target in
    hart_block want_layout b h block k target fit come none (record { aligned = come.aligned; even = omega arith; room = omega arith; there = stands.pools }) stands.codes

-- ---- the block of the devices

abbrev pub device_steps : BoardState → ℕ → ℕ
device_steps board next = word_count (device_items (pool_place (λ k. device_items k board (rom_base + next))) board (rom_base + next)) + 1

-- the block of the devices puts them back, and leads on
pub device_part : (b : Booting) (h block next : ℕ) (board : BoardState) (csrs : Registers) → IsFitBoard board → length b.core.harts ≡ hart_count board.clint →
    b.board ≡ reset_board (hart_count board.clint) → HasCome b h block csrs → next % 8 ≡ 0 → next ≤ most_rom →
    StandAt (device_bytes board (rom_base + next)) block b.core.rom → Led b h (device_steps board next) next csrs board
unfolding device_bytes device_size
device_part b h block next board csrs fit count fresh come even within there =
    let items : ℕ → List Spelling = λ k. device_items k board (rom_base + next) in
    let k : ℕ = pool_place items in
    let stands : Laid items (Insn.Jalr 0 1 (pos 0)) (device_values board) block b.core.rom = laid items (Insn.Jalr 0 1 (pos 0)) (device_values board) block b.core.rom (device_fixed board (rom_base + next)) there in
    let n : ℕ = word_count (device_items 0 board (rom_base + next)) in
    let size : device_size board ≤ 1616 = device_small board fit in
    let same : n ≡ word_count (device_items 0 board 0) = device_count board (rom_base + next) in
    device_block b h block k next board csrs fit count fresh come even within (record { aligned = come.aligned; even = omega arith; room = omega arith; there = stands.pools }) stands.codes
