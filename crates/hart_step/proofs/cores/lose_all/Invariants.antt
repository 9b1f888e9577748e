use Rattle.std.proofs.Common.{◌≡◌}
use Rattle.hart_step.specs.Step.{without_reservation}
use Rattle.hart_step.proofs.Lists.{mapped}
use Rattle.hart_step.proofs.cores.lose_all.Given as goal

-- the harts before the index have dropped what is touched
abbrev pub invariant-loop-hart : goal.invariant-loop-hart
invariant-loop-hart l = l.harts ≡ mapped (without_reservation l.at l.size) l.hart-index l.fn.harts
