use Rattle.std.proofs.Common.{sym, subst, ap, ◌∙◌}
use Rattle.std.specs.Prelude.{IsNone}
use Rattle.trap_rules.proofs.ReturnLaws.{status-debug}
use Rattle.trap_rules.proofs.returns.mret.Goals as goal

pub returns-clause-outside_debug : goal.returns-clause-outside_debug
returns-clause-outside_debug c =
    subst IsNone (sym (ap (λ r. r.debug) c.set_mstatus.ensures ∙ status-debug _ c.args.csrs.now)) c.requires
