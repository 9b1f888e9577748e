use Rattle.std.proofs.Common.{sym, ◌∙◌}
use Rattle.trap_rules.proofs.PickLaws.{machine_set-first}
use Rattle.trap_rules.proofs.interrupts.first_to_machine.Goals as goal

pub returns-then-is_machine_open : goal.returns-then-is_machine_open
returns-then-is_machine_open c =
    machine_set-first c.args.csrs.now c.args.mode c.args.live c.mip.result c.mie.result c.mideleg.result c.first.result (sym c.is_machine_open.ensures ∙ c.if-is_machine_open.true) c.mip.ensures c.mie.ensures c.mideleg.ensures c.mideleg.type_inv c.first.ensures
