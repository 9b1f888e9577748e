-- No segment so far has a fault.
use Rattle.std.proofs.Common.{◌≡◌, None, length}
use Rattle.elf_load.specs.First.{first_of}
use Rattle.elf_load.specs.Format.{segment_of}
use Rattle.elf_load.specs.Loading.{segment_fault}
use Rattle.elf_load.proofs.checks.check_segments.Given as goal

abbrev pub invariant-loop-i : goal.invariant-loop-i
invariant-loop-i l =
    first_of (λ k. segment_fault (length l.bytes) l.ram_len k (segment_of l.bytes k)) l.i ≡ None
