use Rattle.std.proofs.Common.{sym}
use Rattle.elf_load.proofs.NameLemmas.{begins_with_name-short, begins_with_name-tests}
use Rattle.elf_load.proofs.naming.begins_with_name.Goals as goal

pub returns-then-name-bytes : goal.returns-then-name-bytes
returns-then-name-bytes c = sym (begins_with_name-short c.args.bytes.now c.args.name.now c.if-name-bytes.true)

pub returns : goal.returns
returns c =
    begins_with_name-tests c.args.bytes.now c.args.name.now c.split_at.result.0.now c.split_at.result.1.now c.eq-is_same.result c.contains-has_zero.result c.if-name-bytes.false c.split_at.ensures.front c.split_at.ensures.back c.eq-is_same.ensures c.contains-has_zero.ensures.value
