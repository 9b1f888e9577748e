-- The faults of the keys along a list, and the first key of a map that is not listed.
use Rattle.std.proofs.Common.{◌≡◌, ◌≢◌, ℕ, ◌<◌, ◌≤◌, ◌+◌, List, [], ◌∷◌, length, drop, get_or, Bool, true, false, not, cond, Option, Some, None, option_map, String, Global, string_bytes, Bor, refl, ap, ◌∙◌, add-one}
use Rattle.std.specs.Option.{option_or}
use Rattle.std.proofs.Math.Seq.{drop-cons}
use Rattle.std.proofs.lemmas.List.{drop_all}
use Rattle.std.specs.List.{find}
use Rattle.std.specs.Map.{keys_of}
use Rattle.serde_json.specs.Data.{Data, Members}
use Rattle.serde_json.specs.View.{members_view}
use Rattle.serde_json.specs.declared.value.Value.{Value}
use Rattle.sim_config.specs.declared.keys.Key.{Key}
use Rattle.sim_config.specs.declared.keys.Form.{Form}
use Rattle.sim_config.specs.declared.keys.Kind.{Kind}
use Rattle.sim_config.specs.declared.keys.Kind.TheVariants.{Number, Pages, Window, Text}
use Rattle.sim_config.specs.declared.keys.Rule.{Rule}
use Rattle.sim_config.specs.declared.keys.Rule.TheVariants.{Unlisted, Optional, Required}
use Rattle.sim_config.specs.Keys.{rule_of}
use Rattle.sim_config.specs.declared.fault.ConfigFault.{ConfigFault}
use Rattle.sim_config.specs.declared.fault.ConfigFault.TheVariants.{Unknown}
use Rattle.sim_config.specs.Faults.{range_fault, value_fault, rule_fault, key_fault, keys_fault, is_listed, first_unlisted}

-- the first of these keys, and the others
step : (form : Form) (ms : Members) (keys : List Key) (i : ℕ) (d : Key) → i < length keys
    → keys_fault form ms (drop i keys) ≡ option_or (key_fault form ms (get_or keys i d)) (keys_fault form ms (drop (i + 1) keys))
unfolding keys_fault
step form ms keys i d within = rw (add-one, drop-cons keys i d)

-- a key with no fault is passed over
pub passes : (form : Form) (ms : Members) (keys : List Key) (i : ℕ) (d : Key) → i < length keys → key_fault form ms (get_or keys i d) ≡ None
    → keys_fault form ms (drop i keys) ≡ keys_fault form ms (drop (i + 1) keys)
passes form ms keys i d within none = step form ms keys i d within ∙ ap (λ fault. option_or fault (keys_fault form ms (drop (i + 1) keys))) none

-- a key with a fault gives it
pub stops : (form : Form) (ms : Members) (keys : List Key) (i : ℕ) (d : Key) (fault : ConfigFault) → i < length keys → key_fault form ms (get_or keys i d) ≡ Some fault
    → keys_fault form ms (drop i keys) ≡ Some fault
stops form ms keys i d fault within some = step form ms keys i d within ∙ ap (λ found. option_or found (keys_fault form ms (drop (i + 1) keys))) some

-- past the last key there is no fault
pub ends : (form : Form) (ms : Members) (keys : List Key) (i : ℕ) → length keys ≤ i → keys_fault form ms (drop i keys) ≡ None
unfolding keys_fault
ends form ms keys i past = ap (keys_fault form ms) (drop_all i keys past)

-- ---- no key's fault is an unknown key

range_knows : (key : Key) (o : Option Bool) (name : List ℕ) → range_fault key o ≢ Some (Unknown name)
range_knows key None name e = cc
range_knows key (Some true) name e = cc
range_knows key (Some false) name e = cc

value_knows : (key : Key) (kind : Kind) (ram : ℕ) (d : Data) (name : List ℕ) → value_fault key kind ram d ≢ Some (Unknown name)
value_knows key (Number least most) ram d name e = range_knows key _ name e
value_knows key (Pages least most) ram d name e = range_knows key _ name e
value_knows key Window ram d name e = range_knows key _ name e
value_knows key Text ram d name e = range_knows key _ name e

rule_knows : (key : Key) (rule : Rule) (ram : ℕ) (o : Option Data) (name : List ℕ) → rule_fault key rule ram o ≢ Some (Unknown name)
rule_knows key Unlisted ram o name e = cc
rule_knows key (Optional kind) ram None name e = cc
rule_knows key (Optional kind) ram (Some d) name e = value_knows key kind ram d name e
rule_knows key (Required kind) ram None name e = cc
rule_knows key (Required kind) ram (Some d) name e = value_knows key kind ram d name e

first_knows : (a b : Option ConfigFault) (name : List ℕ) → a ≢ Some (Unknown name) → b ≢ Some (Unknown name) → option_or a b ≢ Some (Unknown name)
first_knows None b name first later e = later e
first_knows (Some fault) b name first later e = first e

pub keys_know : (form : Form) (ms : Members) (keys : List Key) (name : List ℕ) → keys_fault form ms keys ≢ Some (Unknown name)
unfolding keys_fault
keys_know form ms [] name e = cc
keys_know form ms (key ∷ keys) name e = first_knows _ _ name (rule_knows key (rule_of form key) _ _ name) (keys_know form ms keys name) e

-- ---- the keys of a map

-- what a reference points to, in two steps
pub names_of_ref : (r : Option (Bor (String Global))) → option_map (λ name. string_bytes name.now) r ≡ option_map string_bytes (option_map (λ name. name.now) r)
names_of_ref None = refl
names_of_ref (Some name) = refl

unlisted_or : (listed : Bool) (name : String Global) (rest : Option (String Global)) (found : Option (List ℕ)) → option_map string_bytes rest ≡ found
    → option_map string_bytes (cond (not listed) (Some name) rest) ≡ cond listed found (Some (string_bytes name))
unlisted_or true name rest found e = e
unlisted_or false name rest found e = refl

-- the first key that is not listed, sought among the keys of a map
pub unlisted-find : (form : Form) (es : List (String Global × Value))
    → option_map string_bytes (find (λ k. not (is_listed form (string_bytes k))) (keys_of es)) ≡ first_unlisted form (members_view es)
unlisted-find form [] = refl
unlisted-find form (e ∷ es) = unlisted_or (is_listed form (string_bytes e.0)) e.0 _ _ (unlisted-find form es)
