-- No symbol so far is a defined one of the name.
use Rattle.std.proofs.Common.{◌≡◌, None}
use Rattle.elf_load.specs.First.{first_of}
use Rattle.elf_load.specs.Format.{symbol_of}
use Rattle.elf_load.specs.Symbols.{named_value}
use Rattle.elf_load.proofs.naming.value_in.Given as goal

abbrev pub invariant-loop-k : goal.invariant-loop-k
invariant-loop-k l = first_of (λ j. named_value l.names l.name (symbol_of l.bytes l.table j)) l.k ≡ None
