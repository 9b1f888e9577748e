-- What loads give and what stores leave.
use Rattle.std.specs.Prelude.{◌%◌, ℕ, Option, slice_index, slice_set}
use Rattle.std.specs.Option.{option_map, option_map_or}
use Rattle.rv_alu.specs.Bits.{low_bytes}
use Rattle.clint.specs.State.{ClintRegisters, hart_count}
use Rattle.clint.specs.Layout.{register_at}
use Rattle.clint.specs.declared.registers.Register.{Register}
use Rattle.clint.specs.declared.registers.Register.TheVariants.{Msip, Mtimecmp, Mtime}

-- the value of a register
abbrev pub value_of : ClintRegisters → Register → ℕ
value_of r (Msip h) = slice_index r.msip h
value_of r (Mtimecmp h) = slice_index r.mtimecmp h
value_of r Mtime = r.mtime

-- the registers after v was written to one of them: msip keeps bit 0 alone
abbrev pub written : ClintRegisters → ℕ → Register → ClintRegisters
written r v (Msip h) = record r { msip = slice_set r.msip h (v % 2) }
written r v (Mtimecmp h) = record r { mtimecmp = slice_set r.mtimecmp h v }
written r v Mtime = record r { mtime = v }

-- what a load gives, and nothing where no such register is listed
unfoldable pub loaded : ClintRegisters → ℕ → ℕ → Option ℕ
loaded r off size = option_map (value_of r) (register_at (hart_count r) off size)

-- what a store leaves, which takes the low `size` bytes of the value; the same registers where none is listed
unfoldable pub stored : ClintRegisters → ℕ → ℕ → ℕ → ClintRegisters
stored r off size value =
    option_map_or (written r (low_bytes size value)) (register_at (hart_count r) off size) r
