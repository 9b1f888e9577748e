-- What a text reads as, by what the reader says of it.
use Rattle.std.proofs.Common.{◌≡◌, ◌↔◌, ◌<◌, ◌≤◌, ℕ, List, length, nat_lt, Bool, true, false, cond, IsTrue, Option, Some, None, Ok, Err, option_map, unwrap_or, true≢false, refl, sym, ap, ◌∙◌, arith}
use Rattle.std.proofs.lemmas.Bool.Decides.{nat_tests}
use Rattle.std.proofs.lemmas.Str.{IsUtf8-from_is_utf8, is_utf8-from_IsUtf8}
use Rattle.std.specs.Option.{option_map_or, option_or}
use Rattle.std.specs.Str.{IsUtf8, is_utf8}
use Rattle.serde_json.specs.Data.{Data, Members, no_members}
use Rattle.serde_json.specs.Find.{as_object}
use Rattle.serde_json.specs.Read.{read}
use Rattle.sim_config.specs.declared.keys.Key.TheVariants.{Harts, Ram, Slice, Program, Tohost, Rom, Taken, Version}
use Rattle.sim_config.specs.declared.keys.Form.{Form}
use Rattle.sim_config.specs.declared.keys.Form.TheVariants.{Configuration, MetaText}
use Rattle.sim_config.specs.declared.fault.ConfigFault.{ConfigFault}
use Rattle.sim_config.specs.declared.fault.ConfigFault.TheVariants.{Unknown, TooLong}
use Rattle.sim_config.specs.Faults.{number_at, number_in, text_in, first_unlisted, keys_fault, members_fault}
use Rattle.sim_config.specs.Keys.{key_order}
use Rattle.sim_config.specs.Reading.{longest_text, reading, object_fault, reading_fault, text_fault, members_of, text_members, config_values, meta_values, unless_fault, config_of, meta_of}

-- bytes that are UTF-8 and have a reading
pub reading-some : (text : List ℕ) (d : Data) → IsUtf8 text → read text ≡ Some d → reading text ≡ Some d
unfolding reading
reading-some text d utf8 reads = ap (λ test. cond test (read text) None) (is_utf8-from_IsUtf8 text utf8) ∙ reads

none_either : (test : Bool) (o : Option Data) → (test ≡ true → o ≡ None) → cond test o None ≡ None
none_either true o none = none refl
none_either false o none = refl

-- bytes that have none where they are UTF-8
pub reading-none : (text : List ℕ) → (IsUtf8 text → read text ≡ None) → reading text ≡ None
unfolding reading
reading-none text none = none_either (is_utf8 text) (read text) (λ e. none (IsUtf8-from_is_utf8 text e))

-- a test that failed shows that its fact does not hold
pub not_shown : (b : Bool) (P : Type 0) → (IsTrue b ↔ P) → b ≡ false → ¬ P
not_shown b P shows failed holds = true≢false (sym (shows.1 holds) ∙ failed)

-- ---- the first fault of a value

-- the members of a value that is an object
members_of-object : (d : Data) (ms : Members) → as_object d ≡ Some ms → members_of d ≡ ms
members_of-object d ms e = ap (λ o. unwrap_or o no_members) e

-- a key that is not listed
pub fault_of_unlisted : (form : Form) (d : Data) (ms : Members) (name : List ℕ) → as_object d ≡ Some ms → first_unlisted form ms ≡ Some name → object_fault form (as_object d) ≡ Some (Unknown name)
unfolding members_fault
fault_of_unlisted form d ms name e found = ap (object_fault form) e ∙ ap (λ o. option_or (option_map Unknown o) (keys_fault form ms key_order)) found

-- where all are listed, the first fault of the keys
pub fault_of_keys : (form : Form) (d : Data) (ms : Members) (fault : Option ConfigFault) → as_object d ≡ Some ms → first_unlisted form ms ≡ None → keys_fault form (members_of d) key_order ≡ fault
    → object_fault form (as_object d) ≡ fault
unfolding members_fault
fault_of_keys form d ms fault e listed keys =
    ap (object_fault form) e ∙ ap (λ o. option_or (option_map Unknown o) (keys_fault form ms key_order)) listed
    ∙ ap (λ members. keys_fault form members key_order) (sym (members_of-object d ms e)) ∙ keys

-- ---- the first fault of a text

long_or : (long : Bool) (fault : Option ConfigFault) (rest : Option ConfigFault) → long ≡ true → cond long fault rest ≡ fault
long_or long fault rest e = ap (λ b. cond b fault rest) e

short_or : (long : Bool) (fault : Option ConfigFault) (rest : Option ConfigFault) → long ≡ false → cond long fault rest ≡ rest
short_or long fault rest e = ap (λ b. cond b fault rest) e

-- a text that is too long
pub fault_of_length : (form : Form) (text : List ℕ) → longest_text < length text → text_fault form text ≡ Some (TooLong (length text))
unfolding text_fault
fault_of_length form text above = let long : nat_lt longest_text (length text) ≡ true = grind (arith, nat_tests) in long_or _ _ _ long

-- a text that is none
pub fault_of_reading : (form : Form) (text : List ℕ) (o : Option Data) → length text ≤ longest_text → reading text ≡ o → text_fault form text ≡ reading_fault form o
unfolding text_fault
fault_of_reading form text o within reads = let short : nat_lt longest_text (length text) ≡ false = grind (arith, nat_tests) in short_or _ _ _ short ∙ ap (reading_fault form) reads

-- the members of the value that a text is
pub members_of_reading : (text : List ℕ) (d : Data) → reading text ≡ Some d → text_members text ≡ members_of d
unfolding text_members
members_of_reading text d reads = ap (λ o. option_map_or members_of o no_members) reads

-- ---- what a text stands for

pub config_ok : (text : List ℕ) (ms : Members) → text_fault Configuration text ≡ None → text_members text ≡ ms → config_of text ≡ Ok (config_values ms)
unfolding config_of
config_ok text ms none members = ap (λ o. unless_fault o (config_values (text_members text))) none ∙ ap (λ found. Ok (config_values found)) members

pub config_err : (text : List ℕ) (fault : ConfigFault) → text_fault Configuration text ≡ Some fault → config_of text ≡ Err fault
unfolding config_of
config_err text fault some = ap (λ o. unless_fault o (config_values (text_members text))) some

pub meta_ok : (text : List ℕ) (ms : Members) → text_fault MetaText text ≡ None → text_members text ≡ ms → meta_of text ≡ Ok (meta_values ms)
unfolding meta_of
meta_ok text ms none members = ap (λ o. unless_fault o (meta_values (text_members text))) none ∙ ap (λ found. Ok (meta_values found)) members

pub meta_err : (text : List ℕ) (fault : ConfigFault) → text_fault MetaText text ≡ Some fault → meta_of text ≡ Err fault
unfolding meta_of
meta_err text fault some = ap (λ o. unless_fault o (meta_values (text_members text))) some

-- the values, one by one
pub config_of_parts : (ms : Members) (harts ram slice : ℕ) (program : List ℕ) (tohost : Option ℕ)
    → harts ≡ number_in Harts ms → ram ≡ number_in Ram ms → slice ≡ number_in Slice ms → program ≡ text_in Program ms → tohost ≡ number_at Tohost ms
    → config_values ms ≡ record { harts = harts; ram = ram; slice = slice; program = program; tohost = tohost }
config_of_parts ms harts ram slice program tohost e1 e2 e3 e4 e5 = rw (e1, e2, e3, e4, e5)

pub meta_of_parts : (ms : Members) (harts ram slice tohost rom taken version : ℕ)
    → harts ≡ number_in Harts ms → ram ≡ number_in Ram ms → slice ≡ number_in Slice ms → tohost ≡ number_in Tohost ms → rom ≡ number_in Rom ms → taken ≡ number_in Taken ms → version ≡ number_in Version ms
    → meta_values ms ≡ record { shape = record { harts = harts; ram = ram; slice = slice; tohost = tohost }; rom = rom; taken = taken; version = version }
meta_of_parts ms harts ram slice tohost rom taken version e1 e2 e3 e4 e5 e6 e7 = rw (e1, e2, e3, e4, e5, e6, e7)
