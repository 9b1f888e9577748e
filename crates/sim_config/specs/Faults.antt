-- The first fault of an object's members: first the keys that are not listed, and then key by key.
use Rattle.std.specs.Prelude.{◌≡◌, ◌≢◌, IsSome, ℕ, ◌%◌, List, [], ◌∷◌, length, not, Bool, true, false, ◌&&◌, ◌||◌, ◌==◌, if◌then◌else◌, Option, Some, None, option_map, option_and_then, unwrap_or}
use Rattle.std.specs.List.{list_any}
use Rattle.std.specs.Option.{option_or}
use Rattle.std.specs.Str.{bytes_eq}
use Rattle.std.specs.Ordering.{nat_cmp}
use Rattle.std.specs.Cmp.Lexicographic.{slice_cmp}
use Rattle.std.specs.declared.cmp.Ordering.TheVariants.{Less}
use Rattle.rv_alu.specs.Bits.{is_between}
use Rattle.guest_ram.specs.Bytes.{is_in_ram}
use Rattle.serde_json.specs.Data.{Data, Members, no_members, member}
use Rattle.serde_json.specs.Find.{get_member, as_number, as_str, as_u64}
use Rattle.sim_config.specs.declared.keys.Key.{Key}
use Rattle.sim_config.specs.declared.keys.Key.TheVariants.{Ram}
use Rattle.sim_config.specs.declared.keys.Form.{Form}
use Rattle.sim_config.specs.declared.keys.Kind.{Kind}
use Rattle.sim_config.specs.declared.keys.Kind.TheVariants.{Number, Pages, Window, Text}
use Rattle.sim_config.specs.declared.keys.Rule.{Rule}
use Rattle.sim_config.specs.declared.keys.Rule.TheVariants.{Unlisted, Optional, Required}
use Rattle.sim_config.specs.declared.fault.ConfigFault.{ConfigFault}
use Rattle.sim_config.specs.declared.fault.ConfigFault.TheVariants.{Missing, Unknown, WrongKind, OutOfRange}
use Rattle.sim_config.specs.Keys.{key_order, name_of, rule_of}

-- ---- what stands at a key

-- the whole number from 0 to 2 ^ 64 - 1 that a value is
abbrev pub number_of : Data → Option ℕ
number_of d = option_and_then as_u64 (as_number d)

-- what stands at the key
abbrev pub value_at : Key → Members → Option Data
value_at key ms = get_member (name_of key) ms

-- the number at the key, where a number stands there
abbrev pub number_at : Key → Members → Option ℕ
number_at key ms = option_and_then number_of (value_at key ms)

-- that number, and 0 where there is none
abbrev pub number_in : Key → Members → ℕ
number_in key ms = unwrap_or (number_at key ms) 0

-- the text at the key, and the empty one where there is none
abbrev pub text_in : Key → Members → List ℕ
text_in key ms = unwrap_or (option_and_then as_str (value_at key ms)) []

-- ---- the range of a number

-- from `least` to `most`, and a multiple of 4,096
abbrev pub is_pages : ℕ → ℕ → ℕ → Bool
is_pages least most n = is_between least most n && (n % 4096 == 0)

-- a multiple of 8 whose 8 bytes lie in RAM of so many bytes
abbrev pub is_host_word : ℕ → ℕ → Bool
is_host_word ram n = (n % 8 == 0) && is_in_ram ram n 8

-- 0, or such a word
abbrev pub is_window : ℕ → ℕ → Bool
is_window ram n = (n == 0) || is_host_word ram n

-- ---- the fault at one key

-- of a value that has the wrong kind, is in its range, or is not
abbrev pub range_fault : Key → Option Bool → Option ConfigFault
range_fault key None = Some (WrongKind key)
range_fault key (Some true) = None
range_fault key (Some false) = Some (OutOfRange key)

-- the fault of a value that stands at the key, where RAM has so many bytes
abbrev pub value_fault : Key → Kind → ℕ → Data → Option ConfigFault
value_fault key (Number least most) ram d = range_fault key (option_map (is_between least most) (number_of d))
value_fault key (Pages least most) ram d = range_fault key (option_map (is_pages least most) (number_of d))
value_fault key Window ram d = range_fault key (option_map (is_window ram) (number_of d))
value_fault key Text ram d = range_fault key (option_map (λ text. not (length text == 0)) (as_str d))

-- the fault of what stands at the key, or of its absence
abbrev pub rule_fault : Key → Rule → ℕ → Option Data → Option ConfigFault
rule_fault key Unlisted ram found = None
rule_fault key (Optional kind) ram None = None
rule_fault key (Optional kind) ram (Some d) = value_fault key kind ram d
rule_fault key (Required kind) ram None = Some (Missing key)
rule_fault key (Required kind) ram (Some d) = value_fault key kind ram d

-- the fault at the key. Only the host window asks for the length of RAM that the members give.
abbrev pub key_fault : Form → Members → Key → Option ConfigFault
key_fault form ms key = rule_fault key (rule_of form key) (number_in Ram ms) (value_at key ms)

-- ---- the first fault of all

-- the first fault of these keys
unfoldable pub keys_fault : Form → Members → List Key → Option ConfigFault
keys_fault form ms [] = None
keys_fault form ms (key ∷ keys) = option_or (key_fault form ms key) (keys_fault form ms keys)

abbrev pub is_listing : Rule → Bool
is_listing Unlisted = false
is_listing (Optional kind) = true
is_listing (Required kind) = true

-- whether a text of this form may have a key of this name
abbrev pub is_listed : Form → List ℕ → Bool
is_listed form name = list_any (λ key. is_listing (rule_of form key) && bytes_eq name (name_of key)) key_order

-- the first key that is not listed, in the members' order, which is that of the keys' bytes
abbrev pub first_unlisted : Form → Members → Option (List ℕ)
first_unlisted form no_members = None
first_unlisted form (member name d ms) = if is_listed form name then first_unlisted form ms else Some name

-- of the members' keys that are not listed, none stands before this one in the order of bytes
abbrev pub IsLeastUnlisted : Form → Members → List ℕ → Type 0
IsLeastUnlisted form ms name = (other : List ℕ) → IsSome (get_member other ms) → is_listed form other ≡ false → slice_cmp nat_cmp other name ≢ Less

-- the first fault of an object
unfoldable pub members_fault : Form → Members → Option ConfigFault
members_fault form ms = option_or (option_map Unknown (first_unlisted form ms)) (keys_fault form ms key_order)
