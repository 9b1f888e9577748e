use Rattle.rom_gen.proofs.Promised.{roms_restore_lem}
use Rattle.rom_gen.proofs.laws.roms_restore.Goals as goal

pub returns : goal.returns
returns c = roms_restore_lem
