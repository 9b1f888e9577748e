use Rattle.std.proofs.Common.{sym}
use Rattle.elf_load.proofs.NameLemmas.{named_value-past}
use Rattle.elf_load.proofs.format.Symbol.named_value.Goals as goal

pub returns-then-at-names : goal.returns-then-at-names
returns-then-at-names c = sym (named_value-past c.args.names.now c.args.name.now c.args.self.now c.if-at-names.true)
