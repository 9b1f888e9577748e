-- Which device registers there are, by physical address. The first two blocks stand where SiFive's FU540-C000 has
-- them (FU540-C000 Manual, "Memory Map"), and the console's where the board `virt` of QEMU has its UART.
use Rattle.std.specs.Prelude.{◌+◌, ◌-◌, ◌*◌, ℕ, Bool, false, ◌&&◌, nat_le, nat_lt, if◌then◌else◌}
use Rattle.clint.specs.Layout as clint
use Rattle.plic.specs.Layout as plic
use Rattle.console.specs.Layout as console
use Rattle.board_bus.specs.declared.place.Place.{Place}
use Rattle.board_bus.specs.declared.place.Place.TheVariants.{Clint, Plic, Console, Nowhere}

-- the first address and the length of the block of each device
abbrev pub clint_base : ℕ
clint_base = 0x2000000

abbrev pub clint_length : ℕ
clint_length = 0x10000

abbrev pub plic_base : ℕ
plic_base = 0x0c000000

abbrev pub plic_length : ℕ
plic_length = 0x4000000

abbrev pub console_base : ℕ
console_base = 0x10000000

abbrev pub console_length : ℕ
console_length = 0x1000

-- the address lies in the block of this first address and length
abbrev pub is_within : ℕ → ℕ → ℕ → Bool
is_within base length at = nat_le base at && nat_lt at (base + length)

-- the block in which a physical address lies, with the offset from its first address
unfoldable pub place_of : ℕ → Place
place_of at =
    if is_within clint_base clint_length at then Clint (at - clint_base)
    else if is_within plic_base plic_length at then Plic (at - plic_base)
    else if is_within console_base console_length at then Console (at - console_base)
    else Nowhere

-- a device of a board of this many harts lists a register of `size` bytes at this place; the interrupt controller
-- has two contexts for each hart
abbrev pub is_listed_in : ℕ → ℕ → Place → Bool
is_listed_in harts size (Clint off) = clint.is_listed harts off size
is_listed_in harts size (Plic off) = plic.is_listed (2 * harts) off size
is_listed_in harts size (Console off) = console.is_listed off size
is_listed_in harts size Nowhere = false

-- a board of this many harts has a device register of `size` bytes at the physical address `at`
unfoldable pub is_listed : ℕ → ℕ → ℕ → Bool
is_listed harts at size = is_listed_in harts size (place_of at)
