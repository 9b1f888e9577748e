use Rattle.std.proofs.Common.{◌≡◌, ◌*◌, ℕ, length, ◌∙◌, arith}
use Rattle.std.proofs.lemmas.Result.{IfOk-weaker}
use Rattle.board_bus.specs.Board.{BoardState}
use Rattle.rom_gen.specs.Items.{all_insns, word_count}
use Rattle.rom_gen.specs.Rom.{device_items, device_values, pool_place}
use Rattle.rom_gen.specs.Writing.{Adds, offset_of}
use Rattle.rom_gen.proofs.RomParts.{device_fixed}
use Rattle.rom_gen.proofs.Dealings.{device_adds, device_bytes_written, device_drafted}
use Rattle.rom_gen.proofs.Writings.{drafted, offset_begun, place_drafted}
use Rattle.rom_gen.proofs.device_block.device_block.Goals as goal

pub pool_place-requires : goal.pool_place-requires
pool_place-requires c =
    let board : BoardState = c.args.board.now in
    let e = device_drafted board c.args.next c.new-draft.result c.far.new.self c.see_fit.ensures c.new-draft.ensures.code (device_adds board c.args.next c.new-draft.result c.devices.new.self c.far.new.self c.in_ok-devices.ensures c.in_ok-far.ensures) in omega arith

pub devices-requires-2-clause-room : goal.devices-requires-2-clause-room
devices-requires-2-clause-room c =
    let board : BoardState = c.args.board.now in
    let e = device_drafted board c.args.next c.new-draft.result c.far.new.self c.see_fit.ensures c.new-draft.ensures.code (device_adds board c.args.next c.new-draft.result c.devices.new.self c.far.new.self c.in_ok-devices.ensures c.in_ok-far.ensures) in
    let p = c.pool_place.ensures in
    let a = offset_begun c.new-writer.result c.pool_place.result c.new-writer.ensures.pool c.new-writer.ensures.place in
    omega arith

pub end-requires : goal.end-requires
end-requires c =
    let board : BoardState = c.args.board.now in
    let e = device_drafted board c.args.next c.new-writer.result c.far-2.new.self c.see_fit.ensures c.new-writer.ensures.code (device_adds board c.args.next c.new-writer.result c.devices-2.new.self c.far-2.new.self c.in_ok-devices-2.ensures c.in_ok-far-2.ensures) in omega arith

pub returns : goal.returns
returns c =
    let board : BoardState = c.args.board.now in
    let next : ℕ = c.args.next in
    let one : Adds c.new-draft.result c.far.new.self (all_insns (device_items (offset_of c.new-draft.result) board next)) (device_values board) = device_adds board next c.new-draft.result c.devices.new.self c.far.new.self c.in_ok-devices.ensures c.in_ok-far.ensures in
    let two : Adds c.new-writer.result c.far-2.new.self (all_insns (device_items (offset_of c.new-writer.result) board next)) (device_values board) = device_adds board next c.new-writer.result c.devices-2.new.self c.far-2.new.self c.in_ok-devices-2.ensures c.in_ok-far-2.ensures in
    let length_is : length c.far.new.self.code.items ≡ 4 * word_count (device_items 0 board next) = drafted (λ k. device_items k board next) (device_values board) c.new-draft.result c.far.new.self (device_fixed board next) c.new-draft.ensures.code one in
    let place : c.new-writer.result.place ≡ pool_place (λ k. device_items k board next) = c.new-writer.ensures.place ∙ c.pool_place.ensures ∙ place_drafted (λ k. device_items k board next) (length c.far.new.self.code.items) length_is in
    IfOk-weaker c.end.result _ _ (λ v e. e ∙ device_bytes_written board next c.new-writer.result c.far-2.new.self c.go.result c.new-writer.ensures.code c.new-writer.ensures.pool place c.go.ensures two) c.end.ensures
