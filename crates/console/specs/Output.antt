-- What contracts see of the output buffer.
use Rattle.std.specs.Prelude.{◌-◌, ℕ, List, length}

-- the bytes that it holds, and how many it can hold
pub record Output : Type 0 where
  pub bytes : List ℕ
  pub room : ℕ

-- how many more bytes it can take
abbrev pub spare_of : Output → ℕ
spare_of out = out.room - length out.bytes
