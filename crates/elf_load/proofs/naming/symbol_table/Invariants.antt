-- No section so far is a symbol table.
use Rattle.std.proofs.Common.{◌≡◌, None}
use Rattle.elf_load.specs.First.{first_of}
use Rattle.elf_load.specs.Format.{section_of}
use Rattle.elf_load.specs.Symbols.{if_symbol_table}
use Rattle.elf_load.proofs.naming.symbol_table.Given as goal

abbrev pub invariant-loop-i : goal.invariant-loop-i
invariant-loop-i l = first_of (λ k. if_symbol_table (section_of l.bytes k)) l.i ≡ None
