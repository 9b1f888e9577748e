-- What the controller keeps, in arrays for the most contexts.
use Rattle.std.specs.Prelude.{◌≤◌, ℕ, List, All}
use Rattle.plic.specs.State.{IsWithinSources}

-- the values that are kept are well formed
pub record IsKept (contexts : ℕ) (priority enable threshold : List ℕ) (served : ℕ) : Type 0 where
  pub some : 2 ≤ contexts
  pub most : contexts ≤ 16
  pub priorities : All (λ x. x ≤ 7) priority
  pub enables : All IsWithinSources enable
  pub thresholds : All (λ x. x ≤ 7) threshold
  pub marks : IsWithinSources served
