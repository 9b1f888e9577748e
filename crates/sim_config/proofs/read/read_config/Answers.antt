use Rattle.std.proofs.Common.{◌≡◌, Ok, ap, subst, ◌∙◌, arith}
use Rattle.std.proofs.lemmas.Result.{err_from_is_err_and}
use Rattle.serde_json.specs.View.{view}
use Rattle.sim_config.specs.Reading.{members_of, config_values}
use Rattle.sim_config.specs.Ranges.{IsConfig}
use Rattle.sim_config.proofs.RangeLemmas.{config_in_range}
use Rattle.sim_config.proofs.ReadLemmas.{config_ok, config_err, config_of_parts}
use Rattle.sim_config.proofs.read.read_config.Goals as goal

pub returns-in_err-value-clause-err : goal.returns-in_err-value-clause-err
returns-in_err-value-clause-err c =
    let p = err_from_is_err_and c.from_residual.result c.from_residual.ensures.1 in
    rw (p.1, p.2) (λ apart. config_err _ _ (c.in_err-value.ensures.err apart))

pub overflow_cast-result : goal.overflow_cast-result
overflow_cast-result c =
    let ranges = config_in_range c.args.text.now (members_of (view c.in_ok-value.value)) c.in_ok-value.ensures.none c.in_ok-value.ensures.members in
    omega (arith, ranges.harts_most, c.number_in.ensures)

pub overflow_cast-result-2 : goal.overflow_cast-result-2
overflow_cast-result-2 c =
    let ranges = config_in_range c.args.text.now (members_of (view c.in_ok-value.value)) c.in_ok-value.ensures.none c.in_ok-value.ensures.members in
    omega (arith, ranges.slice_most)

same_parts : (c : goal.Joined-value-2) → config_values (members_of (view c.in_ok-value.value)) ≡ record {
  harts = c.number_in.result;
  ram = c.number_in-2.result;
  slice = c.number_in-3.result;
  program = c.in_ok-copied.field-0;
  tohost = c.number_at.result;
}
same_parts c =
    config_of_parts (members_of (view c.in_ok-value.value)) _ _ _ _ _ c.number_in.ensures c.number_in-2.ensures c.number_in-3.ensures (c.in_ok-copied.ensures ∙ c.text_in.ensures) c.number_at.ensures

pub returns-clause-ok : goal.returns-clause-ok
returns-clause-ok c = config_ok _ _ c.in_ok-value.ensures.none c.in_ok-value.ensures.members ∙ ap Ok (same_parts c)

pub returns-clause-ranges : goal.returns-clause-ranges
returns-clause-ranges c =
    subst IsConfig (same_parts c) (config_in_range _ _ c.in_ok-value.ensures.none c.in_ok-value.ensures.members)

pub returns-in_err-value-clause-least : goal.returns-in_err-value-clause-least
returns-in_err-value-clause-least c =
    let p = err_from_is_err_and c.from_residual.result c.from_residual.ensures.1 in
    rw (p.1, p.2) c.in_err-value.ensures.least
