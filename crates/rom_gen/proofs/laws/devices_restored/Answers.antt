use Rattle.rom_gen.proofs.Promised.{devices_restored_lem}
use Rattle.rom_gen.proofs.laws.devices_restored.Goals as goal

pub returns : goal.returns
returns c = devices_restored_lem
