-- Where the registers stand in the block (SiFive FU540-C000 Manual, "Core-Local Interruptor (CLINT)").
use Rattle.std.specs.Prelude.{◌<◌, ℕ, Bool, ◌==◌, if◌then◌else◌, Option, None, Some, is_some}
use Rattle.std.specs.Option.{option_map}
use Rattle.device_rows.specs.Rows.{row_at}
use Rattle.clint.specs.declared.registers.Register.{Register}
use Rattle.clint.specs.declared.registers.Register.TheVariants.{Msip, Mtimecmp, Mtime}

-- the register of `size` bytes at offset `off` of a block for this many harts: msip from 0 on, 4 bytes for each
-- hart, mtimecmp from 0x4000 on, 8 bytes for each hart, and mtime at 0xbff8, 8 bytes
unfoldable pub register_at : ℕ → ℕ → ℕ → Option Register
register_at harts off size =
    if size == 4 then option_map (λ h. Msip h) (row_at 0 4 harts off)
    else if size == 8 then (if off == 0xbff8 then Some Mtime else option_map (λ h. Mtimecmp h) (row_at 0x4000 8 harts off))
    else None

-- a register with this offset and size is listed
abbrev pub is_listed : ℕ → ℕ → ℕ → Bool
is_listed harts off size = is_some (register_at harts off size)

-- the register is that of a hart of the block
abbrev pub IsOfHart : ℕ → Register → Type 0
IsOfHart harts (Msip h) = h < harts
IsOfHart harts (Mtimecmp h) = h < harts
IsOfHart harts Mtime = Unit {0}

-- how many bytes a register has
abbrev pub size_of : Register → ℕ
size_of (Msip h) = 4
size_of (Mtimecmp h) = 8
size_of Mtime = 8
