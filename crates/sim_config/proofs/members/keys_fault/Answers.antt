use Rattle.std.proofs.Common.{refl, sym, ◌∙◌}
use Rattle.sim_config.specs.Keys.{key_order}
use Rattle.sim_config.proofs.KeyLemmas.{passes, stops, ends}
use Rattle.sim_config.proofs.members.keys_fault.Goals as goal

pub loop-key-preserved : goal.loop-key-preserved
loop-key-preserved c = record {
  items = refl;
  before = c.loop-key.invariant.before ∙ passes _ _ key_order c.loop-key.key-index _ c.loop-key-test.true (sym c.key_fault.ensures ∙ c.in_default.is);
}

pub returns-in-Some : goal.returns-in-Some
returns-in-Some c = sym (c.loop-key.invariant.before ∙ stops _ _ key_order c.loop-key.key-index _ _ c.loop-key-test.true (sym c.key_fault.ensures ∙ c.in-Some.is))

pub returns : goal.returns
returns c = sym (c.loop-key.invariant.before ∙ ends _ _ key_order c.loop-key.key-index c.loop-key-test.false)
