use Rattle.std.proofs.Common.{sym, subst, ap, ◌∙◌}
use Rattle.csr_file.specs.Kept.{IsFit, kept_value}
use Rattle.csr_file.proofs.FitLaws.{written-fit}
use Rattle.csr_file.proofs.WriteLaws.{written-others}
use Rattle.csr_file.proofs.file.CsrFile.set.Goals as goal

pub invariant_of-self : goal.invariant_of-self
invariant_of-self c = subst IsFit (sym c.write.ensures) (written-fit _ _ _ c.self.invariant)

pub returns-clause-others : goal.returns-clause-others
returns-clause-others c = λ other apart.
    ap (kept_value other) c.write.ensures ∙ written-others c.args.num other c.args.v _ apart ∙ ap (kept_value other) c.self.view_is
