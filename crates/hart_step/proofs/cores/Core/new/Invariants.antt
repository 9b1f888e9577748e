use Rattle.std.proofs.Common.{◌≡◌, All}
use Rattle.hart_step.specs.Fit.{IsWellFormed}
use Rattle.hart_step.specs.Harts.{reset_harts}
use Rattle.hart_step.proofs.cores.Core.new.Given as goal

-- as many harts at reset as were made, each well formed
abbrev pub invariant-loop-h : goal.invariant-loop-h
invariant-loop-h l = record { items : l.list.items ≡ reset_harts l.h l.entry; fit : All IsWellFormed l.list.items }
