use Rattle.std.proofs.Common.{subst, Some, None, sym, ap, ◌∙◌}
use Rattle.std.proofs.lemmas.Result.{err_from_is_err_and}
use Rattle.serde_json.specs.Data.{Members}
use Rattle.sim_config.specs.Faults.{IsLeastUnlisted}
use Rattle.serde_json.specs.View.{view}
use Rattle.sim_config.proofs.ReadLemmas.{fault_of_length, fault_of_reading, members_of_reading}
use Rattle.sim_config.proofs.read.read_checked.Goals as goal

pub returns-then-text-gt-LONGEST_TEXT-clause-err : goal.returns-then-text-gt-LONGEST_TEXT-clause-err
returns-then-text-gt-LONGEST_TEXT-clause-err c = λ apart. fault_of_length _ _ c.if-text-gt-LONGEST_TEXT.true

pub returns-in_err-value-clause-err : goal.returns-in_err-value-clause-err
returns-in_err-value-clause-err c =
    let p = err_from_is_err_and c.from_residual.result c.from_residual.ensures.1 in
    rw (p.1, p.2) (λ apart.
    fault_of_reading _ _ None c.if-text-gt-LONGEST_TEXT.false (c.in_err-value.ensures.err apart).1
    ∙ ap Some (sym (c.in_err-value.ensures.err apart).0))

pub returns-in_err-check-clause-err : goal.returns-in_err-check-clause-err
returns-in_err-check-clause-err c =
    let p = err_from_is_err_and c.from_residual-in_err-check.result c.from_residual-in_err-check.ensures.1 in
    rw (p.1, p.2) (λ apart.
    fault_of_reading _ _ (Some (view c.in_ok-value.value)) c.if-text-gt-LONGEST_TEXT.false c.in_ok-value.ensures.ok
    ∙ c.in_err-check.ensures.err apart)

pub returns-clause-none : goal.returns-clause-none
returns-clause-none c =
    fault_of_reading _ _ (Some (view c.in_ok-value.value)) c.if-text-gt-LONGEST_TEXT.false c.in_ok-value.ensures.ok
    ∙ c.in_ok-check.ensures.ok

pub returns-clause-members : goal.returns-clause-members
returns-clause-members c = members_of_reading _ _ c.in_ok-value.ensures.ok

pub returns-in_err-check-clause-least : goal.returns-in_err-check-clause-least
returns-in_err-check-clause-least c =
    let p = err_from_is_err_and c.from_residual-in_err-check.result c.from_residual-in_err-check.ensures.1 in
    rw (p.1, p.2) (λ name unknown.
    subst (λ (ms : Members). IsLeastUnlisted c.args.form ms name) (sym (members_of_reading _ _ c.in_ok-value.ensures.ok)) (c.in_err-check.ensures.least name unknown))
