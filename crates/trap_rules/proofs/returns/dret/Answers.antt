use Rattle.std.proofs.Common.{refl, sym, ◌∙◌}
use Rattle.csr_file.specs.Kept.{debug_kept}
use Rattle.csr_file.specs.Numbers.{csr_dpc}
use Rattle.csr_file.proofs.LegalLaws.{dpc-even}
use Rattle.trap_rules.proofs.returns.dret.Goals as goal

pub returns-clause-even : goal.returns-clause-even
unfolding debug_kept
returns-clause-even c =
    dpc-even c.in-Some.debug.dpc (c.debug.ensures.fit.debug c.in-Some.debug (sym c.debug.ensures.value ∙ c.in-Some.is) csr_dpc refl)
