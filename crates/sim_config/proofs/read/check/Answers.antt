use Rattle.std.proofs.Common.{sym, ap, ◌∙◌}
use Rattle.sim_config.specs.Keys.{key_order}
use Rattle.sim_config.proofs.KeyLemmas.{keys_know}
use Rattle.sim_config.proofs.ReadLemmas.{fault_of_unlisted, fault_of_keys}
use Rattle.sim_config.proofs.read.check.Goals as goal
use Rattle.std.proofs.Common.{Some}
use Rattle.sim_config.specs.declared.fault.ConfigFault.TheVariants.{Unknown}

pub returns-in-Some-first_unlisted-clause-err : goal.returns-in-Some-first_unlisted-clause-err
returns-in-Some-first_unlisted-clause-err c = λ apart.
    fault_of_unlisted _ _ _ _ (sym c.in-Some.ensures) (sym c.in-Some-first_unlisted.ensures.first)
    ∙ ap (λ name. Some (Unknown name)) (sym (c.in_ok-copied.ensures ∙ c.as_str.ensures.value))

pub returns-in-Some-keys_fault-clause-err : goal.returns-in-Some-keys_fault-clause-err
returns-in-Some-keys_fault-clause-err c = λ apart.
    fault_of_keys _ _ _ _ (sym c.in-Some.ensures) (sym c.in_default-first_unlisted.ensures.first) (sym c.in-Some-keys_fault.ensures)

pub returns-in-None-clause-ok : goal.returns-in-None-clause-ok
returns-in-None-clause-ok c =
    fault_of_keys _ _ _ _ (sym c.in-Some.ensures) (sym c.in_default-first_unlisted.ensures.first) (sym c.in-None.ensures)

pub returns-in-Some-keys_fault-clause-least : goal.returns-in-Some-keys_fault-clause-least
returns-in-Some-keys_fault-clause-least c = λ name unknown.
    absurd (keys_know _ _ key_order name (sym c.in-Some-keys_fault.ensures ∙ ap Some unknown))
