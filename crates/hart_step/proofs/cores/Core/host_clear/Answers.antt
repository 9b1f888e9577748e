use Rattle.hart_step.proofs.Kept.{kept_lost}
use Rattle.hart_step.proofs.cores.Core.host_clear.Goals as goal

pub invariant_of-self : goal.invariant_of-self
invariant_of-self c = kept_lost _ _ c.args.at 8 c.self.invariant c.lose_touched.ensures.fit c.lose_touched.ensures.harts c.write.ensures.rom
