-- What a writer of a block has written: its code, and its pool, which will stand at a place behind the code.
use Rattle.std.specs.Prelude.{◌≡◌, ◌+◌, ℕ, List, ◌++◌, length}
use Rattle.rv_decode.specs.declared.Insn.{Insn}
use Rattle.rom_gen.specs.Items.{Width, Byte, Word, Double, all_insns, code}
use Rattle.rom_gen.specs.Deeds.{Deed, all_deed_values, placed_deeds}
use Rattle.rom_gen.specs.Wants.{Want, all_values, placed, pool, want_items, want_values}
use Rattle.rom_gen.specs.declared.writer.Writer.{Writer}

-- these instructions and these values of the pool were added
pub record Adds (old new : Writer) (insns : List Insn) (values : List ℕ) : Type 0 where
  pub code : new.code.items ≡ old.code.items ++ code insns
  pub pool : new.pool.items ≡ old.pool.items ++ pool values
  pub place : new.place ≡ old.place

-- where the next value of the pool will stand
abbrev pub offset_of : Writer → ℕ
offset_of w = w.place + length w.pool.items

-- the code and the pool of these wants were added
abbrev pub Wrote : Writer → Writer → List Want → Type 0
Wrote old new ws = Adds old new (all_insns (placed want_items want_values (offset_of old) ws)) (all_values want_values ws)

-- the values of the rows of stores, and of the loads of the device block
abbrev pub store_value : Width → ℕ
store_value Byte = 0x23
store_value Word = 0x2023
store_value Double = 0x3023

abbrev pub load_value : Width → ℕ
load_value Byte = 0x4003
load_value Word = 0x2003
load_value Double = 0x3003

-- the code and the pool of these deeds were added
abbrev pub Dealt : Writer → Writer → List Deed → Type 0
Dealt old new ds = Adds old new (all_insns (placed_deeds (offset_of old) ds)) (all_deed_values ds)
