use Rattle.rom_gen.proofs.Assembly.{bytes_named, bytes_restore}
use Rattle.rom_gen.proofs.rom.rom_of.Goals as goal

pub returns-clause-room : goal.returns-clause-room
returns-clause-room c = (bytes_restore c.args.m.now.machine c.board.result.now c.core.result.now c.in_ok-bytes.bytes.items c.see_fit.ensures c.requires.running c.board.ensures c.core.ensures c.in_ok-bytes.ensures).0

pub returns-clause-bytes : goal.returns-clause-bytes
returns-clause-bytes c = bytes_named c.args.m.now.machine c.board.result.now c.core.result.now c.in_ok-bytes.bytes.items c.board.ensures c.core.ensures c.in_ok-bytes.ensures

pub returns-clause-restores : goal.returns-clause-restores
returns-clause-restores c = (bytes_restore c.args.m.now.machine c.board.result.now c.core.result.now c.in_ok-bytes.bytes.items c.see_fit.ensures c.requires.running c.board.ensures c.core.ensures c.in_ok-bytes.ensures).1
