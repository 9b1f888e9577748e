use Rattle.std.proofs.Common.{sym, subst}
use Rattle.csr_file.specs.Kept.{IsFit}
use Rattle.csr_file.proofs.FitLaws.{counted-fit}
use Rattle.csr_file.proofs.file.CsrFile.count.Goals as goal

pub invariant_of-self : goal.invariant_of-self
invariant_of-self c = subst IsFit (sym c.count.ensures) (counted-fit _ _ _ c.self.invariant)
