use Rattle.rom_gen.proofs.Promised.{registers_restored_lem}
use Rattle.rom_gen.proofs.laws.registers_restored.Goals as goal

pub returns : goal.returns
returns c = registers_restored_lem
