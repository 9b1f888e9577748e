use Rattle.std.proofs.Common.{refl}
use Rattle.plic.proofs.Within.{kept_marks, within_and}
use Rattle.plic.proofs.controller.Plic.complete.Goals as goal

pub invariant_of-self-then-has_bit-2 : goal.invariant_of-self-then-has_bit-2
invariant_of-self-then-has_bit-2 c =
    kept_marks _ _ _ _ _ _ c.self.invariant (within_and c.self.inside.served 2 refl)
