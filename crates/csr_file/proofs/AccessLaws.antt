-- What an allowed access tells of the register.
use Rattle.std.proofs.Common.{◌≡◌, ℕ, Bool, true, false, not, ◌&&◌, ◌||◌}
use Rattle.std.specs.Prelude.{nat_le}
use Rattle.std.proofs.lemmas.Bool.{and_parts, not-true}
use Rattle.rv_alu.specs.declared.Mode.{Mode}
use Rattle.csr_file.specs.declared.registers.Registers.{Registers}
use Rattle.csr_file.specs.Numbers.{is_read_only, is_user_counter, lowest_mode}
use Rattle.rv_alu.specs.Modes.{level}
use Rattle.csr_file.specs.Access.{allows, effective_mode, is_present, is_trapped, may_access, may_count}

-- the register is there, the mode reaches it, and it is not a write of a read-only register
parts : (a b c d e : Bool) → (a && b && c && d && e) ≡ true → (a ≡ true) × (c ≡ true)
parts a b c d e h =
    let all = and_parts (a && b && c && d) e h in
    let four = and_parts (a && b && c) d all.0 in
    let three = and_parts (a && b) c four.0 in
    ((and_parts a b three.0).0, three.1)

unwritten : (write read_only : Bool) → not (write && read_only) ≡ true → write ≡ true → read_only ≡ false
unwritten true read_only h is_write = not-true read_only h
unwritten false read_only h is_write = cc

allowed : (r : Registers) (mode : Mode) (number : ℕ) (write : Bool) → allows r mode number write ≡ true → (is_present r number ≡ true) × (not (write && is_read_only number) ≡ true)
unfolding allows
allowed r mode number write =
    parts (is_present r number) (nat_le (lowest_mode number) (level mode)) (not (write && is_read_only number)) (not (is_trapped r mode number)) (not (is_user_counter number) || may_count r mode number)

pub may_access-present : (r : Registers) (mode : Mode) (number : ℕ) (write : Bool) → may_access r mode number write ≡ true → is_present r number ≡ true
may_access-present r mode number write h = (allowed r (effective_mode r mode) number write h).0

pub may_access-writable : (r : Registers) (mode : Mode) (number : ℕ) (write : Bool) → may_access r mode number write ≡ true → write ≡ true → is_read_only number ≡ false
may_access-writable r mode number write h = unwritten write (is_read_only number) ((allowed r (effective_mode r mode) number write h).1)
