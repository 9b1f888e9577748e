use Rattle.std.proofs.Common.{◌≡◌, All}
use Rattle.hart_step.specs.DebugReset.{debug_harts}
use Rattle.hart_step.specs.Fit.{IsWellFormed}
use Rattle.hart_step.proofs.cores.Core.new_debug.Given as goal

-- as many harts at reset in debug mode as were made, each well formed
abbrev pub invariant-loop-h : goal.invariant-loop-h
invariant-loop-h l = record { items : l.list.items ≡ debug_harts l.h; fit : All IsWellFormed l.list.items }
