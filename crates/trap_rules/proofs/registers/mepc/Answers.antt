use Rattle.std.proofs.Common.{◌≡◌, ◌%◌, refl, sym, subst}
use Rattle.csr_file.specs.Kept.{kept_in, kept_value}
use Rattle.csr_file.specs.Legal.{is_kept_number, kept_numbers}
use Rattle.csr_file.specs.Numbers.{csr_mepc}
use Rattle.csr_file.proofs.LegalLaws.{mepc-even}
use Rattle.trap_rules.proofs.registers.mepc.Goals as goal

pub returns-clause-even : goal.returns-clause-even
unfolding kept_value kept_in is_kept_number kept_numbers
returns-clause-even c = subst (λ v. v % 2 ≡ 0) (sym c.kept.ensures.value) (mepc-even _ (c.kept.ensures.fit.kept csr_mepc refl))
