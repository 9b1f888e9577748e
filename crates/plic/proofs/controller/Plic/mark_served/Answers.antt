use Rattle.plic.proofs.Within.{kept_marks, within_or_first, within_or_second}
use Rattle.plic.proofs.controller.Plic.mark_served.Goals as goal

pub invariant_of-self : goal.invariant_of-self
invariant_of-self c =
    kept_marks _ _ _ _ _ _ c.self.invariant (within_or_first c.self.inside.served c.self.invariant.marks)

pub invariant_of-self-in-2 : goal.invariant_of-self-in-2
invariant_of-self-in-2 c =
    kept_marks _ _ _ _ _ _ c.self.invariant (within_or_second c.self.inside.served c.self.invariant.marks)
