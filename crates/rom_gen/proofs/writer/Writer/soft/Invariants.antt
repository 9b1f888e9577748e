use Rattle.std.proofs.Common.{◌+◌, ◌*◌, ◌≤◌, []}
use Rattle.rom_gen.specs.DeviceBlock.{soft_deeds}
use Rattle.rom_gen.specs.Writing.{Dealt, offset_of}
use Rattle.rom_gen.proofs.writer.Writer.soft.Given as goal

-- as many as were gone over are written, and each added a value at most
abbrev pub invariant-loop-h : goal.invariant-loop-h
invariant-loop-h l = record {
  dealt : Dealt l.fn.self l.self (soft_deeds l.h 0 l.clint.msip []);
  room : offset_of l.self ≤ offset_of l.fn.self + 8 * l.h;
}
