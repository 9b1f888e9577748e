use Rattle.std.proofs.Common.{sym, ◌∙◌}
use Rattle.elf_load.proofs.SymbolLemmas.{value_in-found}
use Rattle.elf_load.proofs.naming.value_in.Goals as goal

pub returns-then-is_some : goal.returns-then-is_some
returns-then-is_some c =
    value_in-found c.args.bytes.now c.args.name.now c.bytes-names.result.now c.args.table.now c.args.names.now c.loop-k.k c.symbol-symbol.result c.named_value-value.result c.bytes-names.ensures c.loop-k-test.true c.loop-k.invariant c.symbol-symbol.ensures c.named_value-value.ensures (sym c.is_some.ensures ∙ c.if-is_some.true)
