-- A text without a fault has its values in their ranges, and values in their ranges have no fault.
use Rattle.std.proofs.Common.{◌≡◌, ◌≢◌, ◌≤◌, ℕ, List, [], ◌∷◌, length, Bool, true, false, not, cond, ◌==◌, Option, Some, None, option_map, option_and_then, unwrap_or, IfSome, true≢false, inl, inr, refl, sym, subst, arith}
use Rattle.std.proofs.lemmas.Bool.{or_cases}
use Rattle.std.proofs.lemmas.Bool.Decides.{nat_tests}
use Rattle.std.specs.Option.{option_map_or, option_or}
use Rattle.serde_json.specs.Data.{Data, Members, no_members}
use Rattle.serde_json.specs.Find.{as_object, as_str}
use Rattle.sim_config.specs.declared.keys.Key.{Key}
use Rattle.sim_config.specs.declared.keys.Key.TheVariants.{Harts, Ram, Slice, Program, Tohost, Rom, Taken, Version}
use Rattle.sim_config.specs.declared.keys.Form.{Form}
use Rattle.sim_config.specs.declared.keys.Form.TheVariants.{Configuration, MetaText}
use Rattle.sim_config.specs.declared.keys.Kind.TheVariants.{Number, Pages, Window, Text}
use Rattle.sim_config.specs.declared.keys.Rule.TheVariants.{Optional, Required}
use Rattle.sim_config.specs.declared.fault.ConfigFault.{ConfigFault}
use Rattle.sim_config.specs.declared.fault.ConfigFault.TheVariants.{TooLong}
use Rattle.sim_config.specs.Keys.{key_order}
use Rattle.rv_alu.specs.Bits.{is_between}
use Rattle.guest_ram.specs.Bytes.{most_bytes}
use Rattle.sim_config.specs.Faults.{value_at, number_of, number_at, number_in, is_pages, is_host_word, is_window, range_fault, rule_fault, key_fault, keys_fault, members_fault}
use Rattle.sim_config.specs.Reading.{reading, object_fault, reading_fault, text_fault, members_of, text_members, config_values, meta_values}
use Rattle.sim_config.specs.Ranges.{IsRamLength, IsHostWord, IsWindow, IsConfig, IsMeta}

-- ---- no fault of a text is none of each key

no_first : (a b : Option ConfigFault) → option_or a b ≡ None → a ≡ None
no_first None b none = refl
no_first (Some fault) b none = absurd (cc)

no_later : (a b : Option ConfigFault) → option_or a b ≡ None → b ≡ None
no_later None b none = none
no_later (Some fault) b none = absurd (cc)

clean_object : (form : Form) (o : Option Members) → object_fault form o ≡ None → members_fault form (unwrap_or o no_members) ≡ None
clean_object form None none = absurd (cc)
clean_object form (Some ms) none = none

clean_reading : (form : Form) (o : Option Data) → reading_fault form o ≡ None → members_fault form (option_map_or members_of o no_members) ≡ None
clean_reading form None none = absurd (cc)
clean_reading form (Some d) none = clean_object form (as_object d) none

clean_length : (long : Bool) (fault : ConfigFault) (rest : Option ConfigFault) → cond long (Some fault) rest ≡ None → rest ≡ None
clean_length true fault rest none = absurd (cc)
clean_length false fault rest none = none

clean_members : (form : Form) (text : List ℕ) → text_fault form text ≡ None → members_fault form (text_members text) ≡ None
unfolding text_fault text_members
clean_members form text none = clean_reading form (reading text) (clean_length _ (TooLong (length text)) _ none)

-- no key in the table's order has a fault
record IsClean (form : Form) (ms : Members) : Type 0 where
  harts : key_fault form ms Harts ≡ None
  ram : key_fault form ms Ram ≡ None
  slice : key_fault form ms Slice ≡ None
  program : key_fault form ms Program ≡ None
  tohost : key_fault form ms Tohost ≡ None
  rom : key_fault form ms Rom ≡ None
  taken : key_fault form ms Taken ≡ None
  version : key_fault form ms Version ≡ None

cleared : (form : Form) (ms : Members) → keys_fault form ms key_order ≡ None → IsClean form ms
unfolding keys_fault
cleared form ms none =
    let a1 = no_later _ _ none in
    let a2 = no_later _ _ a1 in
    let a3 = no_later _ _ a2 in
    let a4 = no_later _ _ a3 in
    let a5 = no_later _ _ a4 in
    let a6 = no_later _ _ a5 in
    let a7 = no_later _ _ a6 in
    record {
      harts = no_first _ _ none;
      ram = no_first _ _ a1;
      slice = no_first _ _ a2;
      program = no_first _ _ a3;
      tohost = no_first _ _ a4;
      rom = no_first _ _ a5;
      taken = no_first _ _ a6;
      version = no_first _ _ a7;
    }

clean : (form : Form) (text : List ℕ) → text_fault form text ≡ None → IsClean form (text_members text)
unfolding members_fault
clean form text none = cleared form (text_members text) (no_later _ _ (clean_members form text none))

-- ---- what no fault says of the value at a key

passed : (key : Key) (b : Bool) → range_fault key (Some b) ≡ None → b ≡ true
passed key true none = refl
passed key false none = absurd (cc)

-- a number that passes the test
number_passed : (key : Key) (test : ℕ → Bool) (o : Option ℕ) → range_fault key (option_map test o) ≡ None → test (unwrap_or o 0) ≡ true
number_passed key test None none = absurd (cc)
number_passed key test (Some n) none = passed key (test n) none

required_number : (key : Key) (least most ram : ℕ) (found : Option Data) → rule_fault key (Required (Number least most)) ram found ≡ None
    → is_between least most (unwrap_or (option_and_then number_of found) 0) ≡ true
required_number key least most ram None none = absurd (cc)
required_number key least most ram (Some d) none = number_passed key (is_between least most) (number_of d) none

required_pages : (key : Key) (least most ram : ℕ) (found : Option Data) → rule_fault key (Required (Pages least most)) ram found ≡ None
    → is_pages least most (unwrap_or (option_and_then number_of found) 0) ≡ true
required_pages key least most ram None none = absurd (cc)
required_pages key least most ram (Some d) none = number_passed key (is_pages least most) (number_of d) none

required_window : (key : Key) (ram : ℕ) (found : Option Data) → rule_fault key (Required Window) ram found ≡ None
    → is_window ram (unwrap_or (option_and_then number_of found) 0) ≡ true
required_window key ram None none = absurd (cc)
required_window key ram (Some d) none = number_passed key (is_window ram) (number_of d) none

window_number : (key : Key) (ram : ℕ) (o : Option ℕ) → range_fault key (option_map (is_window ram) o) ≡ None → IfSome o (λ n. is_window ram n ≡ true)
window_number key ram None none = absurd (cc)
window_number key ram (Some n) none = passed key (is_window ram n) none

optional_window : (key : Key) (ram : ℕ) (found : Option Data) → rule_fault key (Optional Window) ram found ≡ None
    → IfSome (option_and_then number_of found) (λ n. is_window ram n ≡ true)
optional_window key ram None none = tt
optional_window key ram (Some d) none = window_number key ram (number_of d) none

not_empty : (text : List ℕ) → not (length text == 0) ≡ true → text ≢ []
not_empty [] some e = true≢false (sym some)
not_empty (x ∷ text) some e = cc

text_passed : (key : Key) (o : Option (List ℕ)) → range_fault key (option_map (λ text. not (length text == 0)) o) ≡ None → unwrap_or o [] ≢ []
text_passed key None none = absurd (cc)
text_passed key (Some text) none = not_empty text (passed key _ none)

required_text : (key : Key) (ram : ℕ) (found : Option Data) → rule_fault key (Required Text) ram found ≡ None → unwrap_or (option_and_then as_str found) [] ≢ []
required_text key ram None none = absurd (cc)
required_text key ram (Some d) none = text_passed key (as_str d) none

-- ---- the tests as facts

least_of : (least most n : ℕ) → is_between least most n ≡ true → least ≤ n
least_of least most n within = grind (arith, nat_tests)

most_of : (least most n : ℕ) → is_between least most n ≡ true → n ≤ most
most_of least most n within = grind (arith, nat_tests)

ram_fact : (n : ℕ) → is_pages 65536 most_bytes n ≡ true → IsRamLength n
ram_fact n fits = record { least = grind (arith, nat_tests); most = grind (arith, nat_tests); pages = grind (arith, nat_tests) }

-- a word of the host lies in RAM
pub in_ram : (ram n : ℕ) → is_host_word ram n ≡ true → IsHostWord ram n
in_ram ram n fits = record {
  aligned = grind (arith, nat_tests);
  inside = record { low = grind (arith, nat_tests); high = grind (arith, nat_tests) };
}

is_zero : (n : ℕ) → (n == 0) ≡ true → n ≡ 0
is_zero n e = grind (arith, nat_tests)

pub window_fact : (ram n : ℕ) → is_window ram n ≡ true → IsWindow ram n
window_fact ram n fits = elim (or_cases (n == 0) _ fits) [ inl zero ↦ inl (is_zero n zero) | inr rest ↦ inr (in_ram ram n rest) ]

window_facts : (ram : ℕ) (o : Option ℕ) → IfSome o (λ n. is_window ram n ≡ true) → IfSome o (IsWindow ram)
window_facts ram None fits = tt
window_facts ram (Some n) fits = window_fact ram n fits

-- ---- the ranges of the values of a text without a fault

IsConfig-clean : (ms : Members) → IsClean Configuration ms → IsConfig (config_values ms)
IsConfig-clean ms keys =
    let harts = required_number Harts 1 8 (number_in Ram ms) (value_at Harts ms) keys.harts in
    let slice = required_number Slice 1 1024 (number_in Ram ms) (value_at Slice ms) keys.slice in
    record {
      harts_least = least_of 1 8 (number_in Harts ms) harts;
      harts_most = most_of 1 8 (number_in Harts ms) harts;
      ram = ram_fact (number_in Ram ms) (required_pages Ram 65536 most_bytes (number_in Ram ms) (value_at Ram ms) keys.ram);
      slice_least = least_of 1 1024 (number_in Slice ms) slice;
      slice_most = most_of 1 1024 (number_in Slice ms) slice;
      program = required_text Program (number_in Ram ms) (value_at Program ms) keys.program;
      tohost = window_facts (number_in Ram ms) (number_at Tohost ms) (optional_window Tohost (number_in Ram ms) (value_at Tohost ms) keys.tohost);
    }

IsMeta-clean : (ms : Members) → IsClean MetaText ms → IsMeta (meta_values ms)
IsMeta-clean ms keys =
    let harts = required_number Harts 1 8 (number_in Ram ms) (value_at Harts ms) keys.harts in
    let slice = required_number Slice 1 1024 (number_in Ram ms) (value_at Slice ms) keys.slice in
    let version = required_number Version 1 1 (number_in Ram ms) (value_at Version ms) keys.version in
    let version_least = least_of 1 1 (number_in Version ms) version in
    let version_most = most_of 1 1 (number_in Version ms) version in
    record {
      shape = record {
        harts_least = least_of 1 8 (number_in Harts ms) harts;
        harts_most = most_of 1 8 (number_in Harts ms) harts;
        ram = ram_fact (number_in Ram ms) (required_pages Ram 65536 most_bytes (number_in Ram ms) (value_at Ram ms) keys.ram);
        slice_least = least_of 1 1024 (number_in Slice ms) slice;
        slice_most = most_of 1 1024 (number_in Slice ms) slice;
        tohost = window_fact (number_in Ram ms) (number_in Tohost ms) (required_window Tohost (number_in Ram ms) (value_at Tohost ms) keys.tohost);
      };
      rom = most_of 0 131072 (number_in Rom ms) (required_number Rom 0 131072 (number_in Ram ms) (value_at Rom ms) keys.rom);
      taken = most_of 0 1000000000000 (number_in Taken ms) (required_number Taken 0 1000000000000 (number_in Ram ms) (value_at Taken ms) keys.taken);
      version = omega arith;
    }

pub config_in_range : (text : List ℕ) (ms : Members) → text_fault Configuration text ≡ None → text_members text ≡ ms → IsConfig (config_values ms)
config_in_range text ms none members = IsConfig-clean ms (subst (IsClean Configuration) members (clean Configuration text none))

pub meta_in_range : (text : List ℕ) (ms : Members) → text_fault MetaText text ≡ None → text_members text ≡ ms → IsMeta (meta_values ms)
meta_in_range text ms none members = IsMeta-clean ms (subst (IsClean MetaText) members (clean MetaText text none))
