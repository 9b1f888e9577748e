-- The ranges of the values, as facts.
use Rattle.std.specs.Prelude.{◌≡◌, ◌≢◌, ℕ, ◌%◌, ◌≤◌, ◌⊎◌, [], IfSome}
use Rattle.guest_ram.specs.Bytes.{IsInRam, most_bytes}
use Rattle.sim_config.specs.declared.values.Shape.{Shape}
use Rattle.sim_config.specs.declared.values.Config.{Config}
use Rattle.sim_config.specs.declared.values.Meta.{Meta}

-- 64 KiB to 256 MiB in whole pages of 4 KiB
pub record IsRamLength (ram : ℕ) : Type 0 where
  pub least : 65536 ≤ ram
  pub most : ram ≤ most_bytes
  pub pages : ram % 4096 ≡ 0

-- a multiple of 8 whose 8 bytes lie in RAM of so many bytes
pub record IsHostWord (ram at : ℕ) : Type 0 where
  pub aligned : at % 8 ≡ 0
  pub inside : IsInRam ram at 8

-- no host window, or one in RAM
abbrev pub IsWindow : ℕ → ℕ → Type 0
IsWindow ram at = (at ≡ 0) ⊎ IsHostWord ram at

-- the ranges of a configuration's values
pub record IsConfig (config : Config) : Type 0 where
  pub harts_least : 1 ≤ config.harts
  pub harts_most : config.harts ≤ 8
  pub ram : IsRamLength config.ram
  pub slice_least : 1 ≤ config.slice
  pub slice_most : config.slice ≤ 1024
  pub program : config.program ≢ []
  pub tohost : IfSome config.tohost (IsWindow config.ram)

-- the ranges of a machine's shape
pub record IsShape (shape : Shape) : Type 0 where
  pub harts_least : 1 ≤ shape.harts
  pub harts_most : shape.harts ≤ 8
  pub ram : IsRamLength shape.ram
  pub slice_least : 1 ≤ shape.slice
  pub slice_most : shape.slice ≤ 1024
  pub tohost : IsWindow shape.ram shape.tohost

-- the ranges of a meta text's values
pub record IsMeta (meta : Meta) : Type 0 where
  pub shape : IsShape meta.shape
  pub rom : meta.rom ≤ 131072
  pub taken : meta.taken ≤ 1000000000000
  pub version : meta.version ≡ 1
