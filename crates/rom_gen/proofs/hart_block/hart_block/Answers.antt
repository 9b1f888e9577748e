use Rattle.std.proofs.Common.{◌≡◌, ◌*◌, length, ◌∙◌, arith}
use Rattle.std.proofs.lemmas.Result.{IfOk-weaker}
use Rattle.rom_gen.specs.Items.{word_count}
use Rattle.rom_gen.specs.Rom.{hart_items, hart_values, pool_place}
use Rattle.rom_gen.proofs.RomParts.{hart_fixed}
use Rattle.rom_gen.proofs.Writings.{drafted, hart_bytes_written, hart_drafted, offset_begun, place_drafted}
use Rattle.rom_gen.proofs.hart_block.hart_block.Goals as goal

pub pool_place-requires : goal.pool_place-requires
pool_place-requires c = let e = hart_drafted c.args.hart.now c.new-draft.result c.hart.new.self c.new-draft.ensures.code c.in_ok-hart.ensures in omega arith

pub hart-requires-2 : goal.hart-requires-2
hart-requires-2 c = record { room = (let e = hart_drafted c.args.hart.now c.new-draft.result c.hart.new.self c.new-draft.ensures.code c.in_ok-hart.ensures in let p = c.pool_place.ensures in let a = offset_begun c.new-writer.result c.pool_place.result c.new-writer.ensures.pool c.new-writer.ensures.place in omega arith) }

pub end-requires : goal.end-requires
end-requires c = let e = hart_drafted c.args.hart.now c.new-writer.result c.hart-2.new.self c.new-writer.ensures.code c.in_ok-hart-2.ensures in omega arith

pub returns : goal.returns
returns c =
    let target = c.args.hart.now in
    let length_is : length c.hart.new.self.code.items ≡ 4 * word_count (hart_items target 0) = drafted (hart_items target) (hart_values target) c.new-draft.result c.hart.new.self (hart_fixed target) c.new-draft.ensures.code c.in_ok-hart.ensures in
    let place : c.new-writer.result.place ≡ pool_place (hart_items target) = c.new-writer.ensures.place ∙ c.pool_place.ensures ∙ place_drafted (hart_items target) (length c.hart.new.self.code.items) length_is in
    IfOk-weaker c.end.result _ _ (λ v e. e ∙ hart_bytes_written target c.new-writer.result c.hart-2.new.self c.dret.result c.new-writer.ensures.code c.new-writer.ensures.pool place c.dret.ensures c.in_ok-hart-2.ensures) c.end.ensures
