use Rattle.sv39_walk.proofs.Reckoned.{is_fault, is_mapped}
use Rattle.sv39_walk.proofs.walker.Walker.translate.Goals as goal

pub returns-clause-mapped : goal.returns-clause-mapped
returns-clause-mapped c = is_mapped c.args.table.now.ram c.args.ctx.satp c.args.ctx.mode c.args.ctx.sum c.args.ctx.mxr c.args.kind c.args.va c.answer.result c.answer.ensures.reckoned

pub returns-clause-faulted : goal.returns-clause-faulted
returns-clause-faulted c = is_fault c.args.table.now.ram c.args.ctx.satp c.args.ctx.mode c.args.ctx.sum c.args.ctx.mxr c.args.kind c.args.va c.answer.result c.answer.ensures.reckoned
