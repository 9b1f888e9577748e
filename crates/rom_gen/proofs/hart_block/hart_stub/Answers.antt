use Rattle.std.proofs.Common.{sym, subst, ap, ◌∙◌, arith, length}
use Rattle.std.proofs.lemmas.Result.{IfOk-weaker}
use Rattle.rom_gen.specs.Executed.{RestoresHart}
use Rattle.rom_gen.proofs.Promised.{hart_restored}
use Rattle.rom_gen.proofs.RomParts.{hart_even, hart_length, hart_small}
use Rattle.rom_gen.proofs.hart_block.hart_stub.Goals as goal

pub returns-clause-size : goal.returns-clause-size
returns-clause-size c = IfOk-weaker c.hart_block.result _ _ (λ v e. ap length e ∙ hart_length c.args.hart.now) c.hart_block.ensures

pub returns-clause-aligned : goal.returns-clause-aligned
returns-clause-aligned c = IfOk-weaker c.hart_block.result _ _ (λ v e. omega (arith, ap length e, hart_length c.args.hart.now, hart_even c.args.hart.now)) c.hart_block.ensures

pub returns-clause-short : goal.returns-clause-short
returns-clause-short c = IfOk-weaker c.hart_block.result _ _ (λ v e. omega (arith, ap length e, hart_length c.args.hart.now, hart_small c.args.hart.now)) c.hart_block.ensures

pub returns-clause-executed : goal.returns-clause-executed
returns-clause-executed c = IfOk-weaker c.hart_block.result _ _ (λ v e. subst (λ bytes. RestoresHart c.args.hart.now c.args.at bytes) (sym e) (hart_restored c.args.hart.now c.args.at c.requires.form c.requires.outside)) c.hart_block.ensures
