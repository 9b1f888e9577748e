-- What loads give and leave, and what stores leave.
use Rattle.std.specs.Prelude.{◌-◌, ◌%◌, ℕ, Option, bit_and, slice_index, slice_set}
use Rattle.std.specs.Option.{option_map, option_map_or}
use Rattle.rv_alu.specs.Bits.{low_bytes}
use Rattle.plic.specs.State.{PlicRegisters, context_count, source_bits}
use Rattle.plic.specs.Layout.{register_at}
use Rattle.plic.specs.Claims.{claimed, completed, pending_word, priority_of, with_served}
use Rattle.plic.specs.declared.registers.Register.{Register}
use Rattle.plic.specs.declared.registers.Register.TheVariants.{Priority, Pending, Enable, Threshold, Claim}

-- what is read of a register under these levels of the sources
abbrev pub value_of : PlicRegisters → ℕ → Register → ℕ
value_of r levels (Priority s) = priority_of r s
value_of r levels Pending = pending_word r levels
value_of r levels (Enable c) = slice_index r.enable c
value_of r levels (Threshold c) = slice_index r.threshold c
value_of r levels (Claim c) = claimed r c levels

-- what reading a register leaves: a claim marks its source served
abbrev pub after_reading : PlicRegisters → ℕ → Register → PlicRegisters
after_reading r levels (Priority s) = r
after_reading r levels Pending = r
after_reading r levels (Enable c) = r
after_reading r levels (Threshold c) = r
after_reading r levels (Claim c) = with_served (claimed r c levels) r

-- the registers after v was written to one of them: priorities and thresholds keep the low three bits, enables the
-- bits of the sources, and the pending word ignores it
abbrev pub written : PlicRegisters → ℕ → Register → PlicRegisters
written r v (Priority s) = record r { priority = slice_set r.priority (s - 1) (v % 8) }
written r v Pending = r
written r v (Enable c) = record r { enable = slice_set r.enable c (bit_and v source_bits) }
written r v (Threshold c) = record r { threshold = slice_set r.threshold c (v % 8) }
written r v (Claim c) = completed c v r

-- what a load gives, and nothing where no such register is listed
unfoldable pub loaded : PlicRegisters → ℕ → ℕ → ℕ → Option ℕ
loaded r off size levels = option_map (value_of r levels) (register_at (context_count r) off size)

-- what a load leaves; the same registers where none is listed
unfoldable pub after_load : PlicRegisters → ℕ → ℕ → ℕ → PlicRegisters
after_load r off size levels =
    option_map_or (after_reading r levels) (register_at (context_count r) off size) r

-- what a store leaves, which takes the low `size` bytes of the value; the same registers where none is listed
unfoldable pub stored : PlicRegisters → ℕ → ℕ → ℕ → PlicRegisters
stored r off size value =
    option_map_or (written r (low_bytes size value)) (register_at (context_count r) off size) r
