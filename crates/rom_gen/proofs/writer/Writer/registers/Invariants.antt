use Rattle.std.proofs.Common.{◌+◌, ◌*◌, ◌≤◌}
use Rattle.rom_gen.specs.HartWants.{numbered}
use Rattle.rom_gen.specs.Writing.{Wrote, offset_of}
use Rattle.rom_gen.proofs.writer.Writer.registers.Given as goal

-- as many as were gone over are written, and each added a value at most
abbrev pub invariant-loop-i : goal.invariant-loop-i
invariant-loop-i l = record {
  wrote : Wrote l.fn.self l.self (numbered l.i 2 l.hart.x);
  room : offset_of l.self ≤ offset_of l.fn.self + 8 * l.i;
}
