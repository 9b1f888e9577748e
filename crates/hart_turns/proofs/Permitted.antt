-- The interrupt that the board chooses may be taken.
use Rattle.std.proofs.Common.{◌≡◌, ℕ, Bool, true, false, if◌then◌else◌, Option, Some, None, IfSome, IsTrue, refl}
use Rattle.std.specs.Prelude.{is_some, find}
use Rattle.std.specs.Option.{option_or}
use Rattle.rv_alu.specs.declared.Mode.{Mode}
use Rattle.csr_file.specs.Numbers.{csr_mip}
use Rattle.csr_file.specs.View.{IsGiven}
use Rattle.csr_file.specs.declared.registers.Registers.{Registers}
use Rattle.trap_rules.specs.Interrupt.{interrupt_order, may_be_taken, picked, traps_to_machine, traps_to_supervisor}
use Rattle.trap_rules.proofs.PickLaws.{machine-permitted, supervisor-permitted}

by_side : (r : Registers) (mode : Mode) (live : ℕ) → IsGiven csr_mip live → is_some r.debug ≡ false → (m s : Option ℕ) → find (traps_to_machine r mode live) interrupt_order ≡ m → find (traps_to_supervisor r mode live) interrupt_order ≡ s → IfSome (option_or m s) (λ cause. IsTrue (may_be_taken r mode cause))
by_side r mode live given outside (Some c) s m_is s_is = machine-permitted r mode live c given outside m_is
by_side r mode live given outside None (Some c) m_is s_is = supervisor-permitted r mode live c given outside m_is s_is
by_side r mode live given outside None None m_is s_is = tt

by_debug : (r : Registers) (mode : Mode) (live : ℕ) → IsGiven csr_mip live → (b : Bool) → is_some r.debug ≡ b → IfSome (if b then None else option_or (find (traps_to_machine r mode live) interrupt_order) (find (traps_to_supervisor r mode live) interrupt_order)) (λ cause. IsTrue (may_be_taken r mode cause))
by_debug r mode live given true is = tt
by_debug r mode live given false is = by_side r mode live given is _ _ refl refl

pub permitted : (r : Registers) (mode : Mode) (live : ℕ) → IsGiven csr_mip live → IfSome (picked r mode live) (λ cause. IsTrue (may_be_taken r mode cause))
unfolding picked
permitted r mode live given = by_debug r mode live given (is_some r.debug) refl
