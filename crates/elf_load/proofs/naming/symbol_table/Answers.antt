use Rattle.std.proofs.Common.{◌≡◌, Some, rules}
use Rattle.elf_load.specs.Symbols.{if_symbol_table}
use Rattle.elf_load.proofs.SymbolLemmas.{symbol_table-found}
use Rattle.elf_load.proofs.naming.symbol_table.Goals as goal

pub returns-then-section-eq-SHT_SYMTAB : goal.returns-then-section-eq-SHT_SYMTAB
returns-then-section-eq-SHT_SYMTAB c =
    let here : if_symbol_table c.section-section.result ≡ Some c.section-section.result = search rules in
    symbol_table-found c.args.bytes.now c.args.header.now c.loop-i.i c.section-section.result c.requires.header c.loop-i-test.true c.loop-i.invariant c.section-section.ensures here
