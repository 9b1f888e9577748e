use Rattle.std.proofs.Common.{◌∙◌, arith}
use Rattle.rom_gen.specs.DeviceBlock.{queue_deeds}
use Rattle.rom_gen.proofs.Dealings.{byte_dealt, dealt_none}
use Rattle.rom_gen.proofs.writer.Writer.queue.Goals as goal

pub loop-i-init : goal.loop-i-init
unfolding queue_deeds
loop-i-init c = record { dealt = dealt_none c.args.self.now; room = omega arith }

pub loop-i-preserved : goal.loop-i-preserved
loop-i-preserved c = record {
  dealt = byte_dealt c.args.self.now c.loop-i.self c.save_up.new.self c.args.console.now.queue c.loop-i.i c.from.result (let a = c.loop-i-test.true in let b = c.waiting-i-end.ensures in omega arith) (c.from.ensures ∙ c.byte.ensures) c.loop-i.invariant.dealt c.in_ok-save_up.ensures.code;
  room = omega (arith, c.loop-i.invariant.room, c.in_ok-save_up.ensures.room);
}
