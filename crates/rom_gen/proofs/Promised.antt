-- What executing each part of the ROM does, and the laws of the registers, the devices and the whole.
use Rattle.std.specs.Prelude.{None}
use Rattle.std.proofs.Common.{◌≡◌, ℕ, ◌+◌, ◌%◌, ◌<◌, ◌≤◌, ap, ◌∙◌, arith, subst}
use Rattle.board_bus.specs.Board.{BoardState, IsFit}
use Rattle.hart_step.specs.declared.hart.Hart.{Hart}
use Rattle.hart_step.specs.Fit.{IsWellFormed}
use Rattle.hart_step.specs.Memory.{most_rom, rom_base}
use Rattle.hart_turns.specs.Boot.{Booting, most_steps}
use Rattle.rom_gen.specs.Items.{StandAt}
use Rattle.rom_gen.specs.HartWants.{controls}
use Rattle.rom_gen.specs.Rom.{device_bytes, device_items, hart_bytes, hart_items, pool_place}
use Rattle.rom_gen.specs.Executed.{IsBlockAddress, RestoresDevices, RestoresHart}
use Rattle.rom_gen.specs.Laws.{DevicesRestored, RegistersRestored, RomsRestore}
use Rattle.rom_gen.proofs.Layouts.{all_csrs}
use Rattle.rom_gen.proofs.Assembly.{rom_restores}
use Rattle.rom_gen.proofs.Deeds.{Did}
use Rattle.rom_gen.proofs.DeviceEnd.{devices_done, Led}
use Rattle.rom_gen.proofs.HartBlock.{IsTarget}
use Rattle.rom_gen.proofs.HartWants.{controls_restore}
use Rattle.rom_gen.proofs.Placed.{placed_csrs}
use Rattle.rom_gen.proofs.BlockRuns.{device_part, device_steps, hart_part, hart_steps}
use Rattle.rom_gen.proofs.RomBytes.{rom_bytes_fit}
use Rattle.rom_gen.proofs.RomParts.{device_fixed, device_words, hart_fixed, hart_short}
use Rattle.rom_gen.proofs.Targets.{is_target}
use Rattle.rom_gen.proofs.WantLayout.{want_layout}

-- ---- the blocks

-- that of a hart
pub hart_restored : (target : Hart) (at : ℕ) → IsWellFormed target → target.csrs.debug ≡ None → RestoresHart target at (hart_bytes target)
hart_restored target at form out b h place at_is come none there =
    let few : hart_steps target ≤ most_steps = omega (arith, hart_fixed target (pool_place (hart_items target)), hart_short target) in
    (hart_steps target, few, hart_part b h place target (is_target target form out) come none there)

-- that of the devices
pub board_restored : (board : BoardState) (at next : ℕ) → IsFit board → IsBlockAddress next → RestoresDevices board at next (device_bytes board next)
board_restored board at next fit is_place b h place after csrs at_is next_is come there count fresh =
    let even : after % 8 ≡ 0 = omega (arith, is_place.aligned) in
    let near : after ≤ most_rom = omega (arith, is_place.high) in
    let few : device_steps board after < most_steps = omega (arith, device_fixed board (rom_base + after) (pool_place (λ off. device_items off board (rom_base + after))), device_words board (rom_base + after) fit) in
    let part : Led b h (device_steps board after) after csrs board = device_part b h place after board csrs fit count fresh come even near (subst (λ v. StandAt (device_bytes board v) place b.core.rom) next_is there) in
    (device_steps board after, part.harts, few, part.leads, part.come, part.stay)

-- ---- the laws

pub registers_restored_lem : RegistersRestored
registers_restored_lem target hart off form out csrs_are count =
    let good : IsTarget target = is_target target form out in
    placed_csrs want_layout off (controls target) hart good.good_controls count
    ∙ ap (all_csrs (controls target)) csrs_are
    ∙ controls_restore target good.csrs good.pc

pub devices_restored_lem : DevicesRestored
devices_restored_lem b h place off csrs target fit come pooled count fresh =
    let did : Did b h place _ _ csrs target = devices_done b h place off target csrs fit count fresh come pooled in
    (did.spelled, ap (λ (x : Booting). x.board) did.is, ap (λ (x : Booting). x.console) did.is)

pub roms_restore_lem : RomsRestore
roms_restore_lem m fit running =
    let whole = rom_restores m fit running in
    (whole.0, rom_bytes_fit m.board m.core.harts, whole.1)
