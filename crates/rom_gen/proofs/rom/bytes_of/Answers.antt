use Rattle.std.proofs.Common.{◌≡◌, ◌+◌, ◌*◌, ◌<◌, ◌++◌, ℕ, List, length, take, ap, ◌∙◌, arith}
use Rattle.board_bus.specs.Board.{BoardState}
use Rattle.hart_step.specs.declared.hart.Hart.{Hart}
use Rattle.rom_gen.specs.Rom.{addresses, all_blocks, dispatch_bytes, start_places}
use Rattle.rom_gen.proofs.Assembly.{blocks_go_on, blocks_grow, rom_assembled, start_added, starts_count}
use Rattle.rom_gen.proofs.rom.bytes_of.Goals as goal

pub loop-h-init : goal.loop-h-init
unfolding all_blocks
loop-h-init c = record { starts = c.new-starts.ensures.items; blocks = c.new-blocks.ensures.items; room = (let e = ap length c.new-blocks.ensures.items in omega arith) }

pub loop-h-preserved : goal.loop-h-preserved
loop-h-preserved c =
    let board : BoardState = c.args.board.now in
    let harts : List Hart = c.args.core.now.harts in
    let h : ℕ = c.loop-h.h in
    let within : h < length harts = (let a = c.loop-h-test.true in let b = c.requires.harts in omega arith) in
    let old : List ℕ = c.loop-h.blocks.items in
    let new_is : c.extend_from_slice.new.self.items ≡ old ++ c.in_ok-block.block.items = c.in_ok-extend_from_slice.ensures.items ∙ ap (λ x. old ++ x) c.deref.ensures.value in
    record {
      starts = start_added board harts h c.start_of.result c.args.harts (65560 + 8 * c.from.result + c.from-2.result) (length c.as_slice.result.now) c.loop-h.starts.items c.push.new.self.items within c.requires.harts (let a = c.from.ensures in let b = c.from-2.ensures in let d = c.in_ok-device_length.ensures.size in let e = c.requires.harts in omega arith) (ap length (c.as_slice.ensures.value ∙ c.loop-h.invariant.blocks)) c.start_of.ensures c.loop-h.invariant.starts c.in_ok-push.ensures.items;
      blocks = blocks_go_on harts h c.hart.result.now old c.in_ok-block.block.items c.extend_from_slice.new.self.items within c.hart.ensures c.loop-h.invariant.blocks c.in_ok-block.ensures new_is;
      room = blocks_grow h c.hart.result.now old c.in_ok-block.block.items c.extend_from_slice.new.self.items c.in_ok-block.ensures new_is c.loop-h.invariant.room;
    }

pub dispatch-requires-clause-some : goal.dispatch-requires-clause-some
dispatch-requires-clause-some c =
    let end : c.loop-h.h ≡ length c.args.core.now.harts = (let a = c.loop-h-test.false in let b = c.requires.harts in let d = c.loop-h.auto.h-end in omega arith) in
    omega (arith, starts_count c.args.board.now c.args.core.now.harts c.deref-2.result.now c.loop-h.h end (c.deref-2.ensures.value ∙ c.loop-h.invariant.starts), c.see_fit.ensures.kept.some)

pub dispatch-requires-clause-most : goal.dispatch-requires-clause-most
dispatch-requires-clause-most c =
    let end : c.loop-h.h ≡ length c.args.core.now.harts = (let a = c.loop-h-test.false in let b = c.requires.harts in let d = c.loop-h.auto.h-end in omega arith) in
    omega (arith, starts_count c.args.board.now c.args.core.now.harts c.deref-2.result.now c.loop-h.h end (c.deref-2.ensures.value ∙ c.loop-h.invariant.starts), c.see_fit.ensures.kept.most)

pub returns : goal.returns
returns c =
    let board : BoardState = c.args.board.now in
    let harts : List Hart = c.args.core.now.harts in
    let first : ℕ = 65560 + 8 * c.from.result + c.from-2.result in
    let end : c.loop-h.h ≡ length harts = (let a = c.loop-h-test.false in let b = c.requires.harts in let d = c.loop-h.auto.h-end in omega arith) in
    rom_assembled board harts first c.loop-h.starts.items c.in_ok-rom.rom.items c.in_ok-device.device.items c.loop-h.blocks.items c.extend_from_slice-2.new.self.items c.extend_from_slice-3.new.self.items
    (let a = c.from.ensures in let b = c.from-2.ensures in let d = c.in_ok-device_length.ensures.size in let e = c.requires.harts in omega arith)
    (c.loop-h.invariant.starts ∙ ap (λ n. take n (addresses (start_places board harts))) end)
    (c.in_ok-rom.ensures.bytes ∙ ap dispatch_bytes c.deref-2.ensures.value)
    c.in_ok-device.ensures
    (c.loop-h.invariant.blocks ∙ ap (λ n. all_blocks (take n harts)) end)
    (c.in_ok-extend_from_slice-2.ensures.items ∙ ap (λ x. c.in_ok-rom.rom.items ++ x) c.deref-3.ensures.value)
    (c.in_ok-extend_from_slice-3.ensures.items ∙ ap (λ x. c.extend_from_slice-2.new.self.items ++ x) c.deref-4.ensures.value)
