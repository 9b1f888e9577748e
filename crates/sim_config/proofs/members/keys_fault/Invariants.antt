use Rattle.std.proofs.Common.{◌≡◌, drop}
use Rattle.serde_json.specs.View.{view}
use Rattle.sim_config.specs.Faults.{keys_fault}
use Rattle.sim_config.specs.Keys.{key_order}
use Rattle.sim_config.specs.Reading.{members_of}
use Rattle.sim_config.proofs.members.keys_fault.Given as goal

-- the keys before have no fault
abbrev pub invariant-loop-key : goal.invariant-loop-key
invariant-loop-key l = record {
  items : l.key-items ≡ key_order;
  before : keys_fault l.form (members_of (view l.value)) key_order ≡ keys_fault l.form (members_of (view l.value)) (drop l.key-index key_order);
}
