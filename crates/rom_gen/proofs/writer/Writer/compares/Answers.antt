use Rattle.std.proofs.Common.{arith}
use Rattle.rom_gen.specs.DeviceBlock.{compare_deeds}
use Rattle.rom_gen.proofs.Dealings.{compare_dealt, dealt_none}
use Rattle.rom_gen.proofs.writer.Writer.compares.Goals as goal

pub loop-h-init : goal.loop-h-init
unfolding compare_deeds
loop-h-init c = record { dealt = dealt_none c.args.self.now; room = omega arith }

pub loop-h-preserved : goal.loop-h-preserved
loop-h-preserved c = record {
  dealt = compare_dealt c.args.self.now c.loop-h.self c.save_up.new.self c.args.clint.now.mtimecmp c.loop-h.h c.from.result c.compare.result c.from.ensures c.compare.ensures c.loop-h.invariant.dealt c.in_ok-save_up.ensures.code;
  room = omega (arith, c.loop-h.invariant.room, c.in_ok-save_up.ensures.room);
}
