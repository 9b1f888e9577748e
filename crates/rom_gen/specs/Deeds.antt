-- The deeds of the block of the devices: what it does to them one after another, and how each deed is spelled.
use Rattle.std.specs.Prelude.{ℕ, ℤ, pos, ◌+◌, ◌*◌, ◌==◌, if◌then◌else◌, List, [], ◌∷◌, ◌++◌, length}
use Rattle.rv_decode.specs.declared.Insn.{Insn}
use Rattle.rom_gen.specs.Items.{Put, Store, Load, Spelling, Width, load_insn, size_of, store_insn}
use Rattle.rom_gen.specs.Wants.{put_insns, put_values}

-- Aim r v: the base register r gets the address v. Save width v by off at: the value v goes through x6 to the device
-- register at the address at, which is reached from the base register by with the offset off; 0 goes there from x0.
-- Again: what x6 has, which is v, goes there. Read width by off at: x6 gets what is read there. The at of Save,
-- Again and Read, and the v of Again, stand in no word: they say for the proofs which device register is reached, and
-- what x6 has
pub data Deed : Type 0 where
  Aim : ℕ → ℕ → Deed
  Save : Width → ℕ → ℕ → ℤ → ℕ → Deed
  Again : Width → ℕ → ℕ → ℤ → ℕ → Deed
  Read : Width → ℕ → ℤ → ℕ → Deed

-- the items of a deed where the next value of the pool has the offset k
abbrev pub deed_items : ℕ → Deed → List Spelling
deed_items k (Aim r v) = record { item = Put r v; insns = Insn.Lui r (pos v) ∷ [] } ∷ []
deed_items k (Save w v by off at) =
    if v == 0 then record { item = Store (size_of w) 0 by off; insns = store_insn w by 0 off ∷ [] } ∷ []
    else record { item = Put 6 v; insns = put_insns k 6 v } ∷ record { item = Store (size_of w) 6 by off; insns = store_insn w by 6 off ∷ [] } ∷ []
deed_items k (Again w v by off at) = record { item = Store (size_of w) 6 by off; insns = store_insn w by 6 off ∷ [] } ∷ []
deed_items k (Read w by off at) = record { item = Load (size_of w) 6 by off; insns = load_insn w 6 by off ∷ [] } ∷ []

abbrev pub deed_values : Deed → List ℕ
deed_values (Aim r v) = []
deed_values (Save w v by off at) = if v == 0 then [] else put_values v
deed_values (Again w v by off at) = []
deed_values (Read w by off at) = []

abbrev pub placed_deeds : ℕ → List Deed → List Spelling
placed_deeds k [] = []
placed_deeds k (d ∷ ds) = deed_items k d ++ placed_deeds (k + 8 * length (deed_values d)) ds

abbrev pub all_deed_values : List Deed → List ℕ
all_deed_values [] = []
all_deed_values (d ∷ ds) = deed_values d ++ all_deed_values ds
