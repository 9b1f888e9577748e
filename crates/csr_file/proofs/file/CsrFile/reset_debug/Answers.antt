use Rattle.std.proofs.Common.{sym, subst}
use Rattle.csr_file.specs.Kept.{IsFit}
use Rattle.csr_file.proofs.FitLaws.{reset_in_debug-fit}
use Rattle.csr_file.proofs.file.CsrFile.reset_debug.Goals as goal

pub invariant_of-result : goal.invariant_of-result
invariant_of-result c = subst IsFit (sym c.reset_debug.ensures) (reset_in_debug-fit _ c.requires)
