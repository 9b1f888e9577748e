use Rattle.std.proofs.Common.{◌≤◌, ◌*◌, ℕ, arith}
use Rattle.std.proofs.lemmas.List.{take-replicate}
use Rattle.plic.specs.State.{reset_registers}
use Rattle.plic.proofs.controller.Plic.reset.Goals as goal

pub returns-clause-value : goal.returns-clause-value
unfolding reset_registers
returns-clause-value c =
    let most : 2 * c.args.harts ≤ 16 = omega arith in
    rw (← take-replicate {X = ℕ} (2 * c.args.harts) 16 0 most)
