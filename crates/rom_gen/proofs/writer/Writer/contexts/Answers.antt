use Rattle.std.proofs.Common.{◌+◌, ◌*◌, ℕ, ◌∙◌, arith}
use Rattle.rom_gen.specs.DeviceBlock.{context_deeds}
use Rattle.rom_gen.proofs.Dealings.{aim_room, context_dealt, dealt_none}
use Rattle.rom_gen.proofs.writer.Writer.contexts.Goals as goal

pub loop-c-init : goal.loop-c-init
unfolding context_deeds
loop-c-init c = record { dealt = dealt_none c.args.self.now; room = omega arith }

pub loop-c-preserved : goal.loop-c-preserved
loop-c-preserved c =
    let i : ℕ = c.loop-c.c in
    let q : ℕ = c.from-place.result in
    record {
      dealt = context_dealt c.args.self.now c.loop-c.self c.save_up.new.self c.aim.new.self c.save_up-in-loop-c.new.self c.args.plic.now.enable c.args.plic.now.threshold i q c.from.result c.from-in-loop-c.result c.from-place.ensures (c.from.ensures ∙ c.enabled.ensures) (c.from-in-loop-c.ensures ∙ c.threshold.ensures) c.loop-c.invariant.dealt c.in_ok-save_up.ensures.code c.in_ok-aim.ensures c.in_ok-save_up-2.ensures.code;
      room = omega (arith, c.loop-c.invariant.room, c.in_ok-save_up.ensures.room, aim_room c.save_up.new.self c.aim.new.self 5 (0xc200000 + 4096 * q) c.in_ok-aim.ensures, c.in_ok-save_up-2.ensures.room);
    }
