use Rattle.elf_load.proofs.HeaderLemmas.{whole_file}
use Rattle.elf_load.proofs.naming.symbol.Goals as goal

pub read-header-requires : goal.read-header-requires
read-header-requires c = (whole_file c.args.bytes.now c.requires).header
