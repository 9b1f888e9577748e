-- The table of keys: what may stand at each key of the configuration and of the meta text.
use Rattle.std.specs.Prelude.{ℕ, List, [], ◌∷◌, codes}
use Rattle.guest_ram.specs.Bytes.{most_bytes}
use Rattle.sim_config.specs.declared.keys.Key.{Key}
use Rattle.sim_config.specs.declared.keys.Key.TheVariants.{Top, Harts, Ram, Rom, Slice, Program, Taken, Tohost, Version}
use Rattle.sim_config.specs.declared.keys.Form.{Form}
use Rattle.sim_config.specs.declared.keys.Form.TheVariants.{Configuration, MetaText}
use Rattle.sim_config.specs.declared.keys.Kind.{Kind}
use Rattle.sim_config.specs.declared.keys.Kind.TheVariants.{Number, Pages, Window, Text}
use Rattle.sim_config.specs.declared.keys.Rule.{Rule}
use Rattle.sim_config.specs.declared.keys.Rule.TheVariants.{Unlisted, Optional, Required}

-- a row of the table: the key's name, and what may stand there in each of the two texts
pub record Row : Type 0 where
  pub name : List ℕ
  pub in_configuration : Rule
  pub in_meta_text : Rule

-- RAM has 64 KiB to 256 MiB, in whole pages of 4 KiB
abbrev pub ram_kind : Kind
ram_kind = Pages 65536 most_bytes

-- a hart makes 1 to 1,024 steps in a turn
abbrev pub slice_kind : Kind
slice_kind = Number 1 1024

-- The table. The value as a whole has no name, and is listed nowhere.
abbrev pub row_of : Key → Row
row_of Harts = record { name = codes "harts"; in_configuration = Required (Number 1 8); in_meta_text = Required (Number 1 8) }
row_of Ram = record { name = codes "ram"; in_configuration = Required ram_kind; in_meta_text = Required ram_kind }
row_of Slice = record { name = codes "slice"; in_configuration = Required slice_kind; in_meta_text = Required slice_kind }
row_of Program = record { name = codes "program"; in_configuration = Required Text; in_meta_text = Unlisted }
row_of Tohost = record { name = codes "tohost"; in_configuration = Optional Window; in_meta_text = Required Window }
row_of Rom = record { name = codes "rom"; in_configuration = Unlisted; in_meta_text = Required (Number 0 131072) }
row_of Taken = record { name = codes "taken"; in_configuration = Unlisted; in_meta_text = Required (Number 0 1000000000000) }
row_of Version = record { name = codes "version"; in_configuration = Unlisted; in_meta_text = Required (Number 1 1) }
row_of Top = record { name = []; in_configuration = Unlisted; in_meta_text = Unlisted }

-- the order in which the keys' faults come
abbrev pub key_order : List Key
key_order = Harts ∷ Ram ∷ Slice ∷ Program ∷ Tohost ∷ Rom ∷ Taken ∷ Version ∷ []

-- the key's name in a text
abbrev pub name_of : Key → List ℕ
name_of key = (row_of key).name

-- what may stand at the key in a text of this form
abbrev pub rule_of : Form → Key → Rule
rule_of Configuration key = (row_of key).in_configuration
rule_of MetaText key = (row_of key).in_meta_text
