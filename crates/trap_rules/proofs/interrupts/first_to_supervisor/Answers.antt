use Rattle.std.proofs.Common.{sym, ◌∙◌}
use Rattle.trap_rules.proofs.PickLaws.{supervisor_set-first}
use Rattle.trap_rules.proofs.interrupts.first_to_supervisor.Goals as goal

pub returns-then-is_supervisor_open : goal.returns-then-is_supervisor_open
returns-then-is_supervisor_open c =
    supervisor_set-first c.args.csrs.now c.args.mode c.args.live c.mip.result c.mie.result c.mideleg.result c.first.result (sym c.is_supervisor_open.ensures ∙ c.if-is_supervisor_open.true) c.mip.ensures c.mie.ensures c.mideleg.ensures c.first.ensures
