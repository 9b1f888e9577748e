-- The numbers of the interrupts that are taken.
use Rattle.std.proofs.Common.{◌≡◌, ◌<◌, ℕ, Bool, true, false, Option, Some, None, IsTrue, is_some, find, subst, arith, lit<, if◌then◌else◌}
use Rattle.std.specs.Option.{option_or}
use Rattle.rv_alu.specs.declared.Mode.{Mode}
use Rattle.csr_file.specs.declared.registers.Registers.{Registers}
use Rattle.trap_rules.specs.Interrupt.{interrupt_order, is_interrupt, may_be_taken, own_signal, picked, traps_to_machine, traps_to_supervisor}

-- a number that may be there is below 16
abbrev IsSmall : Option ℕ → Type 0
IsSmall None = Unit {0}
IsSmall (Some n) = n < 16

either_small : (b : Bool) (x y : Option ℕ) → IsSmall x → IsSmall y → IsSmall (if b then x else y)
either_small true x y first second = first
either_small false x y first second = second

or_small : (x y : Option ℕ) → IsSmall x → IsSmall y → IsSmall (option_or x y)
or_small None y first second = second
or_small (Some n) y first second = first

found_small : (p : ℕ → Bool) → IsSmall (find p interrupt_order)
found_small p =
    either_small (p 11) _ _ (lit< tt) (
    either_small (p 3) _ _ (lit< tt) (
    either_small (p 7) _ _ (lit< tt) (
    either_small (p 9) _ _ (lit< tt) (
    either_small (p 1) _ _ (lit< tt) (
    either_small (p 5) _ _ (lit< tt) tt)))))

number_small : (n : ℕ) (o : Option ℕ) → IsSmall o → IsTrue (is_interrupt n o) → n < 16
number_small n None small is = cc
number_small n (Some cause) small is = let same : cause ≡ n = grind (arith, is) in subst (λ (k : ℕ). k < 16) same small

-- an interrupt that may be taken has a number below 16
pub taken_small : (r : Registers) (mode : Mode) (n : ℕ) → IsTrue (may_be_taken r mode n) → n < 16
unfolding may_be_taken picked
taken_small r mode n taken =
    number_small n _
    (either_small (is_some r.debug) None _ tt
    (or_small _ _ (found_small (traps_to_machine r mode (own_signal n))) (found_small (traps_to_supervisor r mode (own_signal n)))))
    taken
