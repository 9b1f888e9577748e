use Rattle.std.proofs.Common.{subst}
use Rattle.trap_rules.specs.Interrupt.{MayCome}
use Rattle.trap_rules.proofs.PickLaws.{may_be_taken-within}
use Rattle.trap_rules.proofs.entry.goes_to_supervisor.Goals as goal

pub has_bit-delegated-requires-in-Interrupt : goal.has_bit-delegated-requires-in-Interrupt
has_bit-delegated-requires-in-Interrupt c =
    may_be_taken-within c.args.csrs.now c.args.mode c.in-Interrupt.n (subst (MayCome c.args.csrs.now c.args.mode) c.in-Interrupt.is c.requires)
