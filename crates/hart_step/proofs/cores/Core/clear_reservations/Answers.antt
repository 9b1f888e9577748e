use Rattle.std.proofs.Common.{refl}
use Rattle.hart_step.proofs.Kept.{kept_unreserved}
use Rattle.hart_step.proofs.cores.Core.clear_reservations.Goals as goal

pub invariant_of-self : goal.invariant_of-self
invariant_of-self c = kept_unreserved _ _ c.self.invariant c.drop_reservations.ensures.fit c.drop_reservations.ensures.harts refl
