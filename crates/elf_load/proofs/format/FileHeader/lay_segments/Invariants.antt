-- Memory has the segments so far.
use Rattle.std.proofs.Common.{◌≡◌, length}
use Rattle.elf_load.specs.Loading.{memory_with}
use Rattle.elf_load.proofs.format.FileHeader.lay_segments.Given as goal

abbrev pub invariant-loop-i : goal.invariant-loop-i
invariant-loop-i l = l.ram ≡ memory_with l.bytes l.i (length l.initial.ram)
