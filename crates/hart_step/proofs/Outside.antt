-- A hart that is out of debug mode stays out of it.
use Rattle.std.proofs.Common.{◌∙◌, ℕ, Bool, Option, Some, None, IsTrue, IsNone, is_some, refl, if◌then◌else◌}
use Rattle.rv_alu.specs.declared.Mode.{Mode}
use Rattle.csr_file.specs.declared.registers.DebugRegs.{DebugRegs}
use Rattle.csr_file.specs.declared.registers.Registers.{Registers}
use Rattle.csr_file.specs.Count.{counted}
use Rattle.csr_file.specs.Write.{written}
use Rattle.csr_file.proofs.WriteLaws.{written-in_debug}
use Rattle.trap_rules.specs.Interrupt.{is_interrupt, may_be_taken, picked}
use Rattle.hart_step.specs.Harts.{StaysFit}
use Rattle.hart_step.specs.declared.hart.Hart.{Hart}

-- counting leaves the debug registers
pub counted_outside : (retired : Bool) (wrote : Option ℕ) (r : Registers) → IsNone r.debug → IsNone (counted retired wrote r).debug
unfolding counted
counted_outside retired wrote r outside = outside

-- a write of a register makes no debug registers
pub written_outside : (n v : ℕ) (r : Registers) → IsNone r.debug → IsNone (written n v r).debug
written_outside n v r outside = written-in_debug n v r ∙ outside

-- an interrupt that may be taken comes out of debug mode
picked_outside : (n : ℕ) (d : Option DebugRegs) (other : Option ℕ) → IsTrue (is_interrupt n (if is_some d then None else other)) → IsNone d
picked_outside n None other taken = refl
picked_outside n (Some d) other taken = cc

pub taken_outside : (r : Registers) (mode : Mode) (n : ℕ) → IsTrue (may_be_taken r mode n) → IsNone r.debug
unfolding may_be_taken picked
taken_outside r mode n taken = picked_outside n r.debug _ taken

-- what stays fit twice stays fit
pub stays_on : (first second third : Hart) → StaysFit first second → StaysFit second third → StaysFit first third
stays_on first second third one two = record { fit = two.fit; number = two.number ∙ one.number; outside = λ out. two.outside (one.outside out) }
