-- Every change of a hart's registers keeps the hart's number.
use Rattle.std.proofs.Common.{◌≡◌, ℕ, Bool, true, false, Option, refl, if◌then◌else◌}
use Rattle.rv_alu.specs.declared.Mode.{Mode}
use Rattle.csr_file.specs.declared.registers.Registers.{Registers}
use Rattle.csr_file.specs.Count.{counted}
use Rattle.csr_file.specs.Kept.{with_kept}
use Rattle.csr_file.specs.Write.{written}
use Rattle.trap_rules.specs.declared.Cause.{Cause}
use Rattle.trap_rules.specs.Entry.{entered, goes_to_supervisor, machine_entered, supervisor_entered}
use Rattle.trap_rules.specs.Return.{debug_returned, machine_returned, supervisor_returned}

one_of : (b : Bool) (x y : Registers) (h : ℕ) → x.hart ≡ h → y.hart ≡ h → (if b then x else y).hart ≡ h
one_of true x y h first second = first
one_of false x y h first second = second

pub counted_number : (retired : Bool) (wrote : Option ℕ) (r : Registers) → (counted retired wrote r).hart ≡ r.hart
unfolding counted
counted_number retired wrote r = refl

pub written_number : (n v : ℕ) (r : Registers) → (written n v r).hart ≡ r.hart
unfolding written with_kept
written_number n v r = refl

pub entered_number : (mode : Mode) (cause : Cause) (tval pc : ℕ) (r : Registers) → (entered mode cause tval pc r).hart ≡ r.hart
unfolding entered machine_entered supervisor_entered written with_kept
entered_number mode cause tval pc r = one_of (goes_to_supervisor r mode cause) _ _ r.hart refl refl

pub machine_returned_number : (r : Registers) → (machine_returned r).hart ≡ r.hart
unfolding machine_returned written with_kept
machine_returned_number r = refl

pub supervisor_returned_number : (r : Registers) → (supervisor_returned r).hart ≡ r.hart
unfolding supervisor_returned written with_kept
supervisor_returned_number r = refl

pub debug_returned_number : (r : Registers) → (debug_returned r).hart ≡ r.hart
unfolding debug_returned
debug_returned_number r = refl
