use Rattle.std.proofs.Common.{◌+◌, ◌*◌, ◌≤◌, [], take}
use Rattle.rom_gen.specs.DeviceBlock.{queue_deeds}
use Rattle.rom_gen.specs.Writing.{Dealt, offset_of}
use Rattle.rom_gen.proofs.writer.Writer.queue.Given as goal

-- as many as were gone over are written, and each added a value at most
abbrev pub invariant-loop-i : goal.invariant-loop-i
invariant-loop-i l = record {
  dealt : Dealt l.fn.self l.self (queue_deeds (take l.i l.console.queue) []);
  room : offset_of l.self ≤ offset_of l.fn.self + 8 * l.i;
}
