use Rattle.std.proofs.Common.{sym, subst, ap, ◌∙◌, arith, length}
use Rattle.std.proofs.lemmas.Result.{IfOk-weaker}
use Rattle.rom_gen.specs.Executed.{RestoresDevices}
use Rattle.rom_gen.proofs.Promised.{board_restored}
use Rattle.rom_gen.proofs.RomParts.{device_even, device_length, device_small}
use Rattle.rom_gen.proofs.device_block.device_stub.Goals as goal

pub returns-clause-size : goal.returns-clause-size
returns-clause-size c = IfOk-weaker c.device_block.result _ _ (λ v e. ap length e ∙ device_length c.args.board.now c.args.next) c.device_block.ensures

pub returns-clause-aligned : goal.returns-clause-aligned
returns-clause-aligned c = IfOk-weaker c.device_block.result _ _ (λ v e. omega (arith, ap length e, device_length c.args.board.now c.args.next, device_even c.args.board.now)) c.device_block.ensures

pub returns-clause-short : goal.returns-clause-short
returns-clause-short c = IfOk-weaker c.device_block.result _ _ (λ v e. omega (arith, ap length e, device_length c.args.board.now c.args.next, device_small c.args.board.now c.see_fit.ensures)) c.device_block.ensures

pub returns-clause-executed : goal.returns-clause-executed
returns-clause-executed c = IfOk-weaker c.device_block.result _ _ (λ v e. subst (λ bytes. RestoresDevices c.args.board.now c.args.at c.args.next bytes) (sym e) (board_restored c.args.board.now c.args.at c.args.next c.see_fit.ensures c.requires.next)) c.device_block.ensures
