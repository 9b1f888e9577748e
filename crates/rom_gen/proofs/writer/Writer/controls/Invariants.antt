use Rattle.std.proofs.Common.{◌+◌, ◌*◌, ◌≤◌, take}
use Rattle.rom_gen.specs.HartWants.{number_wants}
use Rattle.rom_gen.specs.Writing.{Wrote, offset_of}
use Rattle.rom_gen.proofs.writer.Writer.controls.Given as goal

-- as many as were gone over are written, and each added a value at most
abbrev pub invariant-loop-number : goal.invariant-loop-number
invariant-loop-number l = record {
  wrote : Wrote l.fn.self l.self (number_wants l.csrs (take l.number-index l.numbers));
  room : offset_of l.self ≤ offset_of l.fn.self + 8 * l.number-index;
}
