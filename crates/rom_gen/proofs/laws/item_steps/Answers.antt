use Rattle.rom_gen.proofs.ItemLaws.{item_steps_lem}
use Rattle.rom_gen.proofs.laws.item_steps.Goals as goal

pub returns : goal.returns
returns c = item_steps_lem
