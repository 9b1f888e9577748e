use Rattle.std.proofs.Common.{◌+◌, ◌*◌, ◌≤◌, []}
use Rattle.rom_gen.specs.DeviceBlock.{context_deeds}
use Rattle.rom_gen.specs.Writing.{Dealt, offset_of}
use Rattle.rom_gen.proofs.writer.Writer.contexts.Given as goal

-- as many as were gone over are written, and each added two values at most
abbrev pub invariant-loop-c : goal.invariant-loop-c
invariant-loop-c l = record {
  dealt : Dealt l.fn.self l.self (context_deeds l.c 0 l.plic.enable l.plic.threshold []);
  room : offset_of l.self ≤ offset_of l.fn.self + 16 * l.c;
}
