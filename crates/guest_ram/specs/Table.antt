-- What contracts see of a `PageTable`: the memory that it reads, and how many entries it has read.
use Rattle.std.specs.Prelude.{ℕ, List}

pub record Table : Type 0 where
  pub ram : List ℕ
  pub reads : ℕ
