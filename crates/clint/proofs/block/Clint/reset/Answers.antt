use Rattle.std.proofs.Common.{◌≤◌, ◌-◌, ◌^◌, ℕ}
use Rattle.std.proofs.lemmas.List.{take-replicate}
use Rattle.clint.specs.State.{reset_registers}
use Rattle.clint.proofs.block.Clint.reset.Goals as goal

pub returns-clause-value : goal.returns-clause-value
unfolding reset_registers
returns-clause-value c =
    let most : c.args.harts ≤ 8 = c.requires.most in
    rw (← take-replicate {X = ℕ} c.args.harts 8 0 most, ← take-replicate {X = ℕ} c.args.harts 8 (2 ^ 64 - 1) most)
