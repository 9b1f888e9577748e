use Rattle.std.proofs.Common.{◌≡◌}
use Rattle.hart_step.specs.Step.{unreserved_hart}
use Rattle.hart_step.proofs.Lists.{mapped}
use Rattle.hart_step.proofs.cores.drop_all.Given as goal

-- the harts before the index have dropped their reservations
abbrev pub invariant-loop-hart : goal.invariant-loop-hart
invariant-loop-hart l = l.harts ≡ mapped unreserved_hart l.hart-index l.fn.harts
