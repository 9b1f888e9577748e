use Rattle.rom_gen.proofs.ItemLaws.{items_join_lem}
use Rattle.rom_gen.proofs.laws.items_join.Goals as goal

pub returns : goal.returns
returns c = items_join_lem
