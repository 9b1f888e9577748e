-- The steps of a turn are no more than those of a boot.
use Rattle.std.proofs.Common.{◌*◌, ℕ, ◌≤◌}
use Rattle.std.proofs.Math.Nat.{mul-le-mul_left}
use Rattle.hart_turns.specs.Boot.{most_steps}

pub steps_of_turn : (harts slice : ℕ) → slice ≤ most_steps → harts * slice ≤ harts * most_steps
steps_of_turn harts slice most = mul-le-mul_left harts most
