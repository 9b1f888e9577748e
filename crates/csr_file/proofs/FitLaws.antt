-- Every change of the registers keeps them well formed.
use Rattle.std.proofs.Common.{◌≡◌, ℕ, ◌<◌, ◌==◌, if◌then◌else◌, Bool, true, false, not, ◌||◌, IsTrue, ⊎_elim, subst, refl, sym, arith, ◌^◌, lit<}
use Rattle.std.proofs.lemmas.Bool.{cases_eq, cond_both, eqb-true}
use Rattle.std.specs.Prelude.{Option, None, Some, unwrap_or}
use Rattle.std.specs.Option.{option_map, ForSome}
use Rattle.csr_file.specs.declared.registers.DebugRegs.{DebugRegs}
use Rattle.csr_file.specs.declared.registers.Registers.{Registers}
use Rattle.csr_file.specs.Numbers.{csr_dcsr, csr_mcycle, csr_minstret, csr_mstatus, csr_satp, is_debug_number}
use Rattle.csr_file.specs.Legal.{EachNumber, IsLegal, is_kept_number, kept_bits, kept_numbers, legal, legal_debug_control, legal_status, legal_translation, reset_value}
use Rattle.csr_file.specs.Kept.{IsDebugFit, IsFit, debug_from, debug_kept, kept_from, kept_in, kept_value, replaced, reset_debug_registers, reset_registers, with_kept}
use Rattle.csr_file.specs.Write.{asked_value, changed_register, written}
use Rattle.csr_file.specs.Count.{counted, has_written, next}
use Rattle.csr_file.proofs.LegalLaws.{IsLegal-below, and_all_bits, legal-again}
use Rattle.csr_file.proofs.WriteLaws.{debug_kept-from, kept_in-from, kept_in-none}

-- registers made from legal values
AllLegal : (ℕ → ℕ) → Type 0
AllLegal value = (number : ℕ) → IsTrue (is_kept_number number) → IsLegal number (value number)

made-legal : (value : ℕ → ℕ) → AllLegal value → AllLegal (λ n. kept_in n (kept_from value))
unfolding AllLegal
made-legal value all number keeps = subst (IsLegal number) (sym (kept_in-from number value keeps)) (all number keeps)

made_debug-legal : (value : ℕ → ℕ) → ((number : ℕ) → IsTrue (is_debug_number number) → IsLegal number (value number)) → IsDebugFit (debug_from value)
made_debug-legal value all number debugs = subst (IsLegal number) (sym (debug_kept-from number value debugs)) (all number debugs)

-- a legal value replaces another
replaced-legal : (number x : ℕ) (value : ℕ → ℕ) → IsLegal number x → (other : ℕ) → IsLegal other (value other) → IsLegal other (replaced number x value other)
replaced-legal number x value is_legal other was =
    cond_both (number == other) x (value other) (IsLegal other) (λ e. subst (λ n. IsLegal n x) (eqb-true number other e) is_legal) (λ _. was)

with_debug-fit : (number x : ℕ) (debug : Option DebugRegs) → IsLegal number x → ForSome debug IsDebugFit → ForSome (option_map (λ d. debug_from (replaced number x (λ n. debug_kept n d))) debug) IsDebugFit
with_debug-fit number x None is_legal fit d is_d = absurd (cc)
with_debug-fit number x (Some before) is_legal fit d is_d =
    let same : debug_from (replaced number x (λ n. debug_kept n before)) ≡ d = cc in
    subst IsDebugFit same (made_debug-legal (replaced number x (λ n. debug_kept n before)) (λ other debugs. replaced-legal number x (λ n. debug_kept n before) is_legal other (fit before refl other debugs)))

pub with_kept-fit : (number x : ℕ) (r : Registers) → IsLegal number x → IsFit r → IsFit (with_kept number x r)
unfolding with_kept AllLegal
with_kept-fit number x r is_legal fit = record {
  hart = fit.hart;
  kept = made-legal (replaced number x (λ n. kept_in n r.kept)) (λ other keeps. replaced-legal number x (λ n. kept_in n r.kept) is_legal other (fit.kept other keeps));
  debug = with_debug-fit number x r.debug is_legal fit.debug;
}

-- a write keeps the registers well formed
pub written-fit : (number v : ℕ) (r : Registers) → IsFit r → IsFit (written number v r)
unfolding written kept_value is_kept_number kept_numbers
written-fit number v r fit =
    let changed : ℕ = changed_register number in
    let satp : changed ≡ csr_satp → IsLegal changed (kept_value changed r) = λ e. subst (λ n. IsLegal n (kept_value n r)) (sym e) (fit.kept csr_satp refl) in
    with_kept-fit changed _ r (legal-again changed (reset_value changed) (kept_value changed r) (asked_value number v r) satp) fit

-- counting keeps the registers well formed
pub counted-fit : (retired : Bool) (wrote : Option ℕ) (r : Registers) → IsFit r → IsFit (counted retired wrote r)
unfolding counted legal kept_bits is_kept_number kept_numbers kept_in kept_from AllLegal
counted-fit retired wrote r fit =
    let before : ℕ → ℕ = λ n. kept_in n r.kept in
    let cycles : ℕ = if has_written wrote csr_mcycle then r.kept.mcycle else next r.kept.mcycle in
    let retires : ℕ = if not retired || has_written wrote csr_minstret then r.kept.minstret else next r.kept.minstret in
    let cycles_legal : IsLegal csr_mcycle cycles = cond_both (has_written wrote csr_mcycle) r.kept.mcycle (next r.kept.mcycle) (IsLegal csr_mcycle) (λ _. fit.kept csr_mcycle refl) (λ _. and_all_bits (next r.kept.mcycle) (omega arith)) in
    let retires_legal : IsLegal csr_minstret retires = cond_both (not retired || has_written wrote csr_minstret) r.kept.minstret (next r.kept.minstret) (IsLegal csr_minstret) (λ _. fit.kept csr_minstret refl) (λ _. and_all_bits (next r.kept.minstret) (omega arith)) in
    let all : AllLegal (replaced csr_minstret retires (replaced csr_mcycle cycles before)) = λ other keeps.
    replaced-legal csr_minstret retires (replaced csr_mcycle cycles before) retires_legal other (replaced-legal csr_mcycle cycles before cycles_legal other (fit.kept other keeps)) in
    record { hart = fit.hart; kept = made-legal (replaced csr_minstret retires (replaced csr_mcycle cycles before)) all; debug = fit.debug }

-- the reset values are legal
pub reset_value-legal : (number : ℕ) → IsLegal number (reset_value number)
unfolding reset_value legal legal_status legal_translation legal_debug_control
reset_value-legal number =
    ⊎_elim (λ e. subst (λ n. IsLegal n (reset_value n)) (sym e) refl)
    (λ not_status. ⊎_elim (λ e. subst (λ n. IsLegal n (reset_value n)) (sym e) refl)
    (λ not_satp. ⊎_elim (λ e. subst (λ n. IsLegal n (reset_value n)) (sym e) refl) (λ not_control. grind arith) (cases_eq number csr_dcsr)) (cases_eq number csr_satp)) (cases_eq number csr_mstatus)

pub reset_registers-fit : (hart : ℕ) → hart < 8 → IsFit (reset_registers hart)
unfolding reset_registers AllLegal
reset_registers-fit hart below = record {
  hart = below;
  kept = made-legal reset_value (λ number keeps. reset_value-legal number);
  debug = λ d none. absurd (cc);
}

-- and so are those of debug mode
pub reset_debug_registers-fit : IsDebugFit reset_debug_registers
unfolding reset_debug_registers
reset_debug_registers-fit = made_debug-legal reset_value (λ number debugs. reset_value-legal number)

-- a hart that comes out of reset in debug mode is well formed
pub reset_in_debug-fit : (hart : ℕ) → hart < 8 → IsFit (record (reset_registers hart) { debug = Some reset_debug_registers })
reset_in_debug-fit hart below =
    let fit = reset_registers-fit hart below in
    let debug : ForSome (Some reset_debug_registers) IsDebugFit = λ d is_d. let same : reset_debug_registers ≡ d = cc in subst IsDebugFit same reset_debug_registers-fit in
    record { hart = fit.hart; kept = fit.kept; debug = debug }

-- of well-formed registers each that every hart keeps has a legal value
pub IsFit-numbers : (r : Registers) → IsFit r → EachNumber (λ number. IsLegal number (kept_value number r)) kept_numbers
unfolding kept_numbers is_kept_number kept_value
IsFit-numbers r fit = search (fit.kept)

-- what well-formed registers keep is below 2 ^ 64
kept_in-below : (b : Bool) (number : ℕ) (r : Registers) → is_kept_number number ≡ b → IsFit r → kept_in number r.kept < 2 ^ 64
kept_in-below true number r keeps fit = IsLegal-below number _ (fit.kept number keeps)
kept_in-below false number r none fit = let nothing = kept_in-none number r.kept none in omega (arith, nothing)

debug_kept-below : (number : ℕ) (debug : Option DebugRegs) → IsTrue (is_debug_number number) → ForSome debug IsDebugFit → unwrap_or (option_map (debug_kept number) debug) 0 < 2 ^ 64
debug_kept-below number None debugs fit = lit< tt
debug_kept-below number (Some d) debugs fit = IsLegal-below number _ (fit d refl number debugs)

pub kept_value-below : (number : ℕ) (r : Registers) → IsFit r → kept_value number r < 2 ^ 64
unfolding kept_value
kept_value-below number r fit =
    cond_both (is_debug_number number) _ _ (λ v. v < 2 ^ 64) (λ debugs. debug_kept-below number r.debug debugs fit.debug) (λ other. kept_in-below (is_kept_number number) number r refl fit)
