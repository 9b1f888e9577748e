use Rattle.std.proofs.Common.{not, string_bytes, option_map, ap, ◌∙◌, rules, tests}
use Rattle.std.proofs.lemmas.Iterator.Search.{find_from_yields_List}
use Rattle.std.proofs.lemmas.Iterator.Consumers.{YieldsList-from_rest}
use Rattle.sim_config.specs.Faults.{is_listed}
use Rattle.sim_config.proofs.KeyLemmas.{names_of_ref, unlisted-find}
use Rattle.sim_config.proofs.OrderLemmas.{least_found}
use Rattle.sim_config.proofs.members.first_unlisted.Goals as goal

pub returns-clause-first : goal.returns-clause-first
returns-clause-first c =
    names_of_ref c.find.result
    ∙ ap (option_map string_bytes) (find_from_yields_List (λ k. not (is_listed c.args.form (string_bytes k))) _ _ c.find.result c.find.ensures.ran (YieldsList-from_rest _ c.keys.ensures.rest) (λ x b q k. search (rules, tests)))
    ∙ unlisted-find c.args.form c.args.members.now.entries

pub returns-clause-least : goal.returns-clause-least
returns-clause-least c = least_found c.args.form c.args.members.now.entries c.find.result c.keys.ensures.ordered (returns-clause-first c)
