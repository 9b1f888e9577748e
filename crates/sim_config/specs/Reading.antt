-- What a text stands for: its values, or its first fault.
use Rattle.std.specs.Prelude.{ℕ, List, length, nat_lt, if◌then◌else◌, Option, Some, None, unwrap_or, Result, Ok, Err}
use Rattle.std.specs.Str.{is_utf8}
use Rattle.serde_json.specs.Data.{Data, Members, no_members}
use Rattle.serde_json.specs.Read.{read}
use Rattle.serde_json.specs.Find.{as_object}
use Rattle.sim_config.specs.declared.keys.Key.TheVariants.{Top, Harts, Ram, Rom, Slice, Program, Taken, Tohost, Version}
use Rattle.sim_config.specs.declared.keys.Form.{Form}
use Rattle.sim_config.specs.declared.keys.Form.TheVariants.{Configuration, MetaText}
use Rattle.sim_config.specs.declared.fault.ConfigFault.{ConfigFault}
use Rattle.sim_config.specs.declared.fault.ConfigFault.TheVariants.{NotJson, WrongKind, TooLong}
use Rattle.std.specs.Option.{option_map_or}
use Rattle.sim_config.specs.declared.values.Shape.{Shape}
use Rattle.sim_config.specs.declared.values.Config.{Config}
use Rattle.sim_config.specs.declared.values.Meta.{Meta}
use Rattle.sim_config.specs.Faults.{number_at, number_in, text_in, members_fault}

-- a text has at most so many bytes
abbrev pub longest_text : ℕ
longest_text = 65536

-- the JSON value (RFC 8259) that the bytes are, where they are UTF-8 and nest at most 127 deep
unfoldable pub reading : List ℕ → Option Data
reading text = if is_utf8 text then read text else None

-- the first fault of an object, where the value is one
abbrev pub object_fault : Form → Option Members → Option ConfigFault
object_fault form None = Some (WrongKind Top)
object_fault form (Some ms) = members_fault form ms

-- the first fault of the value that a text is, where it is one
abbrev pub reading_fault : Form → Option Data → Option ConfigFault
reading_fault form None = Some NotJson
reading_fault form (Some d) = object_fault form (as_object d)

-- the first fault of a text
unfoldable pub text_fault : Form → List ℕ → Option ConfigFault
text_fault form text = if nat_lt longest_text (length text) then Some (TooLong (length text)) else reading_fault form (reading text)

-- ---- the values

-- the members of a value, and none of a value that is no object
abbrev pub members_of : Data → Members
members_of d = unwrap_or (as_object d) no_members

-- the members of the object that the text is
unfoldable pub text_members : List ℕ → Members
text_members text = option_map_or members_of (reading text) no_members

abbrev pub config_values : Members → Config
config_values ms = record {
  harts = number_in Harts ms;
  ram = number_in Ram ms;
  slice = number_in Slice ms;
  program = text_in Program ms;
  tohost = number_at Tohost ms;
}

abbrev pub shape_values : Members → Shape
shape_values ms = record { harts = number_in Harts ms; ram = number_in Ram ms; slice = number_in Slice ms; tohost = number_in Tohost ms }

abbrev pub meta_values : Members → Meta
meta_values ms = record { shape = shape_values ms; rom = number_in Rom ms; taken = number_in Taken ms; version = number_in Version ms }

-- these values, unless there is a fault
abbrev pub unless_fault : {V : Type 0} → Option ConfigFault → V → Result V ConfigFault
unless_fault None values = Ok values
unless_fault (Some fault) values = Err fault

-- what a configuration stands for: its values, or its first fault
unfoldable pub config_of : List ℕ → Result Config ConfigFault
config_of text = unless_fault (text_fault Configuration text) (config_values (text_members text))

-- what a meta text stands for: its values, or its first fault
unfoldable pub meta_of : List ℕ → Result Meta ConfigFault
meta_of text = unless_fault (text_fault MetaText text) (meta_values (text_members text))
