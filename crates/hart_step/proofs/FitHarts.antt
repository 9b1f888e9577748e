-- What a change of a hart keeps: it stays well formed, keeps its number, and stays out of debug mode.
use Rattle.std.proofs.Common.{◌≡◌, ℕ, ◌%◌, ◌^◌, ◌<◌, ◌==◌, Bool, true, false, if◌then◌else◌, Option, Some, None, IfSome, IsNone, refl, sym, subst, ◌∙◌, arith, lit<}
use Rattle.std.specs.Prelude.{slice_set}
use Rattle.std.proofs.lemmas.Bool.{cond_both, eq-eqb, false≢true}
use Rattle.std.proofs.lemmas.List.{get_or-set_other, length-set}
use Rattle.std.proofs.lemmas.List.Elements.{All-set}
use Rattle.rv_alu.specs.declared.Mode.{Mode}
use Rattle.device_rows.proofs.Places.{at_place}
use Rattle.csr_file.specs.Count.{counted}
use Rattle.csr_file.specs.Kept as registers
use Rattle.csr_file.specs.Kept.{debug_kept, kept_in}
use Rattle.csr_file.specs.Legal.{IsLegal, is_kept_number, kept_numbers}
use Rattle.csr_file.specs.Numbers.{csr_dpc, csr_mepc, csr_mtvec, csr_sepc, csr_stvec}
use Rattle.csr_file.specs.Write.{written}
use Rattle.csr_file.specs.declared.registers.DebugRegs.{DebugRegs}
use Rattle.csr_file.specs.declared.registers.Registers.{Registers}
use Rattle.csr_file.proofs.FitLaws.{counted-fit, written-fit}
use Rattle.csr_file.proofs.LegalLaws.{IsLegal-below, dpc-even, mepc-even, sepc-even}
use Rattle.trap_rules.specs.declared.Cause.{Cause}
use Rattle.trap_rules.specs.Entry.{entered, goes_to_supervisor, handler, handler_pc, machine_entered, supervisor_entered}
use Rattle.trap_rules.specs.Return.{debug_returned, machine_returned, resumed_pc, supervisor_returned}
use Rattle.trap_rules.proofs.ReturnLaws.{machine_entered-debug, supervisor_entered-debug}
use Rattle.hart_step.specs.declared.hart.Hart.{Hart}
use Rattle.hart_step.specs.Effects.{at_pc, resumed, with_csr, with_write}
use Rattle.hart_step.specs.Fit.{IsWellFormed}
use Rattle.hart_step.specs.Harts.{register}
use Rattle.hart_step.specs.Step.{enters}
use Rattle.hart_step.proofs.FitValues.{either_below}
use Rattle.hart_step.proofs.Numbers.{counted_number, debug_returned_number, entered_number, machine_returned_number, supervisor_returned_number, written_number}
use Rattle.hart_step.proofs.Outside.{counted_outside, written_outside}

-- ---- one hart after another

pub record HartFits (before after : Hart) : Type 0 where
  pub formed : IsWellFormed after
  pub number : after.csrs.hart ≡ before.csrs.hart
  pub outside : IsNone before.csrs.debug → IsNone after.csrs.debug

pub same_hart : (hart : Hart) → IsWellFormed hart → HartFits hart hart
same_hart hart formed = record { formed = formed; number = refl; outside = λ out. out }

pub register_below : (hart : Hart) (i : ℕ) → IsWellFormed hart → register hart i < 2 ^ 64
register_below hart i formed = at_place (λ v. v < 2 ^ 64) hart.x i formed.values (lit< tt)

-- a pc that a hart may have
pub record IsPc (at : ℕ) : Type 0 where
  pub even : at % 2 ≡ 0
  pub below : at < 2 ^ 64

pub moved : (hart : Hart) (next : ℕ) → IsWellFormed hart → IsPc next → HartFits hart (at_pc hart next)
moved hart next formed pc = record {
  formed = record {
    fit = record { zero = formed.fit.zero; even = pc.even; aligned = formed.fit.aligned };
    pc = pc.below;
    count = formed.count;
    values = formed.values;
    registers = formed.registers;
    reservation = formed.reservation;
  };
  number = refl;
  outside = λ out. out;
}

wrote_cases : (b : Bool) (hart : Hart) (rd value next : ℕ) → (rd == 0) ≡ b → IsWellFormed hart → value < 2 ^ 64 → IsPc next → HartFits hart (record (if b then hart else record hart { x = slice_set hart.x rd value }) { pc = next })
wrote_cases true hart rd value next is formed small pc = moved hart next formed pc
wrote_cases false hart rd value next is formed small pc = record {
  formed = record {
    fit = record {
      zero = get_or-set_other hart.x rd 0 value 0 (λ (e : 0 ≡ rd). false≢true (sym is ∙ eq-eqb rd 0 (sym e))) ∙ formed.fit.zero;
      even = pc.even;
      aligned = formed.fit.aligned;
    };
    pc = pc.below;
    count = length-set hart.x rd value ∙ formed.count;
    values = All-set (λ v. v < 2 ^ 64) hart.x rd value small formed.values;
    registers = formed.registers;
    reservation = formed.reservation;
  };
  number = refl;
  outside = λ out. out;
}

pub wrote : (hart : Hart) (rd value next : ℕ) → IsWellFormed hart → value < 2 ^ 64 → IsPc next → HartFits hart (with_write hart rd value next)
wrote hart rd value next = wrote_cases (rd == 0) hart rd value next refl

-- ---- its reservation

pub reserved_fits : (hart : Hart) (r : Option ℕ) → IsWellFormed hart → IfSome r (λ at. at % 8 ≡ 0) → IfSome r (λ at. at < 2 ^ 64) → IsWellFormed (record hart { reservation = r })
reserved_fits hart r formed aligned below = record {
  fit = record { zero = formed.fit.zero; even = formed.fit.even; aligned = aligned };
  pc = formed.pc;
  count = formed.count;
  values = formed.values;
  registers = formed.registers;
  reservation = below;
}

-- ---- its control and status registers

pub resumed_fits : (csrs : Registers) (mode : Mode) (next : ℕ) (hart : Hart) → IsWellFormed hart → registers.IsFit csrs → csrs.hart ≡ hart.csrs.hart → (IsNone hart.csrs.debug → IsNone csrs.debug) → IsPc next → HartFits hart (resumed csrs mode next hart)
resumed_fits csrs mode next hart formed fit number outside pc = record {
  formed = record {
    fit = record { zero = formed.fit.zero; even = pc.even; aligned = formed.fit.aligned };
    pc = pc.below;
    count = formed.count;
    values = formed.values;
    registers = fit;
    reservation = formed.reservation;
  };
  number = number;
  outside = outside;
}

-- the pc of the hart itself
pub own_pc : (hart : Hart) → IsWellFormed hart → IsPc hart.pc
own_pc hart formed = record { even = formed.fit.even; below = formed.pc }

pub csr_fits : (b : Bool) (number value : ℕ) (hart : Hart) → IsWellFormed hart → HartFits hart (record hart { csrs = with_csr b number value hart.csrs })
csr_fits true number value hart formed =
    resumed_fits (written number value hart.csrs) hart.mode hart.pc hart formed (written-fit number value hart.csrs formed.registers) (written_number number value hart.csrs) (written_outside number value hart.csrs) (own_pc hart formed)
csr_fits false number value hart formed = same_hart hart formed

pub counted_fits : (retired : Bool) (wrote : Option ℕ) (hart : Hart) → IsWellFormed hart → HartFits hart (record hart { csrs = counted retired wrote hart.csrs })
counted_fits retired wrote hart formed =
    resumed_fits (counted retired wrote hart.csrs) hart.mode hart.pc hart formed (counted-fit retired wrote hart.csrs formed.registers) (counted_number retired wrote hart.csrs) (counted_outside retired wrote hart.csrs) (own_pc hart formed)

-- ---- returns

machine_returned_fit : (r : Registers) → registers.IsFit r → registers.IsFit (machine_returned r)
unfolding machine_returned
machine_returned_fit r fit = written-fit _ _ r fit

supervisor_returned_fit : (r : Registers) → registers.IsFit r → registers.IsFit (supervisor_returned r)
unfolding supervisor_returned
supervisor_returned_fit r fit = written-fit _ _ r fit

debug_returned_fit : (r : Registers) → registers.IsFit r → registers.IsFit (debug_returned r)
unfolding debug_returned
debug_returned_fit r fit = record { hart = fit.hart; kept = fit.kept; debug = λ d is. absurd (cc) }

machine_returned_outside : (r : Registers) → IsNone r.debug → IsNone (machine_returned r).debug
unfolding machine_returned
machine_returned_outside r out = written_outside _ _ r out

supervisor_returned_outside : (r : Registers) → IsNone r.debug → IsNone (supervisor_returned r).debug
unfolding supervisor_returned
supervisor_returned_outside r out = written_outside _ _ r out

debug_returned_outside : (r : Registers) → IsNone r.debug → IsNone (debug_returned r).debug
unfolding debug_returned
debug_returned_outside r out = refl

pub machine_returns : (mode : Mode) (hart : Hart) → IsWellFormed hart → HartFits hart (resumed (machine_returned hart.csrs) mode hart.csrs.kept.mepc hart)
unfolding kept_in is_kept_number kept_numbers
machine_returns mode hart formed =
    resumed_fits (machine_returned hart.csrs) mode hart.csrs.kept.mepc hart formed (machine_returned_fit hart.csrs formed.registers) (machine_returned_number hart.csrs) (machine_returned_outside hart.csrs)
    (record { even = mepc-even hart.csrs.kept.mepc (formed.registers.kept csr_mepc refl); below = IsLegal-below csr_mepc hart.csrs.kept.mepc (formed.registers.kept csr_mepc refl) })

pub supervisor_returns : (mode : Mode) (hart : Hart) → IsWellFormed hart → HartFits hart (resumed (supervisor_returned hart.csrs) mode hart.csrs.kept.sepc hart)
unfolding kept_in is_kept_number kept_numbers
supervisor_returns mode hart formed =
    resumed_fits (supervisor_returned hart.csrs) mode hart.csrs.kept.sepc hart formed (supervisor_returned_fit hart.csrs formed.registers) (supervisor_returned_number hart.csrs) (supervisor_returned_outside hart.csrs)
    (record { even = sepc-even hart.csrs.kept.sepc (formed.registers.kept csr_sepc refl); below = IsLegal-below csr_sepc hart.csrs.kept.sepc (formed.registers.kept csr_sepc refl) })

debug_pc : (o : Option DebugRegs) → ((d : DebugRegs) → o ≡ Some d → registers.IsDebugFit d) → IsPc (resumed_pc o)
unfolding debug_kept
debug_pc None fit = record { even = refl; below = lit< tt }
debug_pc (Some d) fit = let kept : IsLegal csr_dpc d.dpc = fit d refl csr_dpc refl in record { even = dpc-even d.dpc kept; below = IsLegal-below csr_dpc d.dpc kept }

pub debug_returns : (mode : Mode) (hart : Hart) → IsWellFormed hart → HartFits hart (resumed (debug_returned hart.csrs) mode (resumed_pc hart.csrs.debug) hart)
debug_returns mode hart formed =
    resumed_fits (debug_returned hart.csrs) mode (resumed_pc hart.csrs.debug) hart formed (debug_returned_fit hart.csrs formed.registers) (debug_returned_number hart.csrs) (debug_returned_outside hart.csrs)
    (debug_pc hart.csrs.debug formed.registers.debug)

-- ---- traps

either_fit : (b : Bool) (x y : Registers) → registers.IsFit x → registers.IsFit y → registers.IsFit (if b then x else y)
either_fit true x y first second = first
either_fit false x y first second = second

machine_entered_fit : (mode : Mode) (cause : Cause) (tval pc : ℕ) (r : Registers) → registers.IsFit r → registers.IsFit (machine_entered mode cause tval pc r)
unfolding machine_entered
machine_entered_fit mode cause tval pc r fit = written-fit _ _ _ (written-fit _ _ _ (written-fit _ _ _ (written-fit _ _ r fit)))

supervisor_entered_fit : (mode : Mode) (cause : Cause) (tval pc : ℕ) (r : Registers) → registers.IsFit r → registers.IsFit (supervisor_entered mode cause tval pc r)
unfolding supervisor_entered
supervisor_entered_fit mode cause tval pc r fit = written-fit _ _ _ (written-fit _ _ _ (written-fit _ _ _ (written-fit _ _ r fit)))

entered_fit : (mode : Mode) (cause : Cause) (tval pc : ℕ) (r : Registers) → registers.IsFit r → registers.IsFit (entered mode cause tval pc r)
unfolding entered
entered_fit mode cause tval pc r fit =
    either_fit (goes_to_supervisor r mode cause) _ _ (supervisor_entered_fit mode cause tval pc r fit) (machine_entered_fit mode cause tval pc r fit)

entered_outside : (mode : Mode) (cause : Cause) (tval pc : ℕ) (r : Registers) → IsNone r.debug → IsNone (entered mode cause tval pc r).debug
unfolding entered
entered_outside mode cause tval pc r out =
    cond_both (goes_to_supervisor r mode cause) (supervisor_entered mode cause tval pc r) (machine_entered mode cause tval pc r) (λ (x : Registers). IsNone x.debug)
    (λ to. subst (λ (d : Option DebugRegs). IsNone d) (sym (supervisor_entered-debug mode cause tval pc r)) out)
    (λ to. subst (λ (d : Option DebugRegs). IsNone d) (sym (machine_entered-debug mode cause tval pc r)) out)

pub either_pc : (b : Bool) (x y : ℕ) → IsPc x → IsPc y → IsPc (if b then x else y)
either_pc true x y first second = first
either_pc false x y first second = second

handler_fits : (vector : ℕ) (cause : Cause) → vector < 2 ^ 64 → IsPc (handler vector cause)
handler_fits vector (Cause.Exception n) below = record { even = omega arith; below = omega arith }
handler_fits vector (Cause.Interrupt n) below =
    either_pc (vector % 2 ^ 2 == 1) _ _ (record { even = omega arith; below = omega arith }) (record { even = omega arith; below = omega arith })

pub enters_fits : (cause : Cause) (tval : ℕ) (hart : Hart) → IsWellFormed hart → HartFits hart (enters cause tval hart)
unfolding kept_in is_kept_number kept_numbers
enters_fits cause tval hart formed =
    let r : Registers = entered hart.mode cause tval hart.pc hart.csrs in
    let fit : registers.IsFit r = entered_fit hart.mode cause tval hart.pc hart.csrs formed.registers in
    resumed_fits (counted false None r) _ (handler_pc hart.csrs hart.mode cause) hart formed (counted-fit false None r fit)
    (counted_number false None r ∙ entered_number hart.mode cause tval hart.pc hart.csrs)
    (λ out. counted_outside false None r (entered_outside hart.mode cause tval hart.pc hart.csrs out))
    (handler_fits _ cause (either_below (goes_to_supervisor hart.csrs hart.mode cause) _ _ (IsLegal-below csr_stvec hart.csrs.kept.stvec (formed.registers.kept csr_stvec refl)) (IsLegal-below csr_mtvec hart.csrs.kept.mtvec (formed.registers.kept csr_mtvec refl))))
