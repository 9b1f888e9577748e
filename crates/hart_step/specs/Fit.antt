-- Which harts and cores are well formed: each number has the width of its register, and each register keeps a value
-- that it can keep.
use Rattle.std.specs.Prelude.{◌≡◌, ◌^◌, ◌<◌, ◌≤◌, ℕ, [], All, IfSome, IsFalse, List, length}
use Rattle.std.specs.List.{list_any}
use Rattle.csr_file.specs.Kept as registers
use Rattle.hart_step.specs.declared.hart.Hart.{Hart}
use Rattle.hart_step.specs.Harts.{CoreState, IsFitHart, hart_of, is_in_debug}
use Rattle.hart_step.specs.Memory.{most_rom}

-- a hart: its numbers have their widths, its control and status registers keep legal values, x0 is 0, the pc is even,
-- and a reservation is of eight aligned bytes
pub record IsWellFormed (hart : Hart) : Type 0 where
  pub fit : IsFitHart hart
  pub pc : hart.pc < 2 ^ 64
  pub count : length hart.x ≡ 32
  pub values : All (λ v. v < 2 ^ 64) hart.x
  pub registers : registers.IsFit hart.csrs
  pub reservation : IfSome hart.reservation (λ at. at < 2 ^ 64)

-- what every core keeps: one to eight harts, each well formed and with its number, and a boot ROM of bounded length
-- that is empty while no hart is in debug mode
pub record IsKept (core : CoreState) : Type 0 where
  pub some : 0 < length core.harts
  pub most : length core.harts ≤ 8
  pub harts : All IsWellFormed core.harts
  pub numbers : (h : ℕ) → h < length core.harts → (hart_of core h).csrs.hart ≡ h
  pub room : length core.rom ≤ most_rom
  pub closed : IsFalse (list_any is_in_debug core.harts) → core.rom ≡ []

-- every byte is below 256
abbrev pub AreBytes : List ℕ → Type 0
AreBytes bytes = All (λ b. b < 256) bytes

-- which cores are well formed
pub record IsFit (core : CoreState) : Type 0 where
  pub kept : IsKept core
  pub ram : AreBytes core.ram
  pub rom : AreBytes core.rom
