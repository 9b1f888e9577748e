-- A write changes the kept value of one register alone.
use Rattle.std.proofs.Common.{rules, ◌≡◌, ◌≢◌, ℕ, ◌==◌, Bool, true, false, if◌then◌else◌, IsTrue, IsFalse, List, [], ◌∷◌, sym, refl, ap₂, ◌∙◌, arith}
use Rattle.std.specs.Prelude.{Option, None, Some, is_some, unwrap_or}
use Rattle.std.specs.List.{list_any}
use Rattle.std.specs.Option.{option_map}
use Rattle.csr_file.specs.declared.registers.DebugRegs.{DebugRegs}
use Rattle.csr_file.specs.declared.registers.KeptRegs.{KeptRegs}
use Rattle.csr_file.specs.declared.registers.Registers.{Registers}
use Rattle.csr_file.specs.Numbers.{is_debug_number}
use Rattle.csr_file.specs.Legal.{EachNumber, is_kept_number, kept_numbers, legal}
use Rattle.csr_file.specs.Kept.{debug_from, debug_kept, kept_from, kept_in, kept_value, replaced, with_kept}
use Rattle.csr_file.specs.Write.{asked_value, changed_register, written}

-- the value of a number where it is one of these, else 0
among : List ℕ → (ℕ → ℕ) → ℕ → ℕ
among [] value number = 0
among (n ∷ rest) value number = if number == n then value n else among rest value number

among-any : (numbers : List ℕ) (value : ℕ → ℕ) (number : ℕ) → list_any (λ n. number == n) numbers ≡ true → among numbers value number ≡ value number
unfolding among
among-any [] value number any = cc
among-any (n ∷ rest) value number any = let later = among-any rest value number in grind arith

among-none : (numbers : List ℕ) (value : ℕ → ℕ) (number : ℕ) → list_any (λ n. number == n) numbers ≡ false → among numbers value number ≡ 0
unfolding among
among-none [] value number none = refl
among-none (n ∷ rest) value number none = let later = among-none rest value number in grind arith

-- a register keeps the value of its number
pub kept_in-from : (number : ℕ) (value : ℕ → ℕ) → IsTrue (is_kept_number number) → kept_in number (kept_from value) ≡ value number
unfolding among kept_in kept_from is_kept_number kept_numbers
kept_in-from number value keeps = among-any kept_numbers value number keeps

pub kept_in-none : (number : ℕ) (k : KeptRegs) → IsFalse (is_kept_number number) → kept_in number k ≡ 0
unfolding among kept_in is_kept_number kept_numbers
kept_in-none number k none = among-none kept_numbers (λ n. kept_in n k) number none

pub debug_kept-from : (number : ℕ) (value : ℕ → ℕ) → IsTrue (is_debug_number number) → debug_kept number (debug_from value) ≡ value number
unfolding debug_kept debug_from
debug_kept-from number value debugs = grind arith

-- another register keeps what it kept
kept_in-others : (b : Bool) (number other x : ℕ) (k : KeptRegs) → is_kept_number other ≡ b → other ≢ number → kept_in other (kept_from (replaced number x (λ n. kept_in n k))) ≡ kept_in other k
kept_in-others true number other x k keeps apart = let same = kept_in-from other (replaced number x (λ n. kept_in n k)) keeps in grind arith
kept_in-others false number other x k none apart = kept_in-none other _ none ∙ sym (kept_in-none other k none)

debug_kept-others : (number other x : ℕ) (debug : Option DebugRegs) → other ≢ number → unwrap_or (option_map (debug_kept other) (option_map (λ d. debug_from (replaced number x (λ n. debug_kept n d))) debug)) 0 ≡ unwrap_or (option_map (debug_kept other) debug) 0
unfolding debug_kept debug_from
debug_kept-others number other x None apart = refl
debug_kept-others number other x (Some d) apart = grind arith

pub with_kept-others : (number other x : ℕ) (r : Registers) → other ≢ number → kept_value other (with_kept number x r) ≡ kept_value other r
unfolding kept_value with_kept
with_kept-others number other x r apart =
    ap₂ (λ a b. if is_debug_number other then a else b) (debug_kept-others number other x r.debug apart) (kept_in-others (is_kept_number other) number other x r.kept refl apart)

-- a write changes no kept value but that of the register that it changes
pub written-others : (number other v : ℕ) (r : Registers) → other ≢ changed_register number → kept_value other (written number v r) ≡ kept_value other r
unfolding written
written-others number other v r apart = with_kept-others (changed_register number) other _ r apart

-- a write to a register that keeps a value leaves its legal value there
pub written-kept : (v : ℕ) (r : Registers) → EachNumber (λ number. kept_value number (written number v r) ≡ legal number (kept_value number r) v) kept_numbers
unfolding kept_numbers written asked_value changed_register kept_value with_kept kept_in kept_from
written-kept v r = search rules

-- ---- the debug registers

-- a write to a register of every mode leaves those of debug mode
debug_stays : (number x : ℕ) (debug : Option DebugRegs) → IsFalse (is_debug_number number) → option_map (λ d. debug_from (replaced number x (λ n. debug_kept n d))) debug ≡ debug
unfolding debug_from debug_kept
debug_stays number x None other = refl
debug_stays number x (Some d) other = grind arith

pub written-debug : (number v : ℕ) (r : Registers) → IsFalse (is_debug_number (changed_register number)) → (written number v r).debug ≡ r.debug
unfolding written with_kept
written-debug number v r other = debug_stays (changed_register number) _ r.debug other

-- no write enters debug mode, and none leaves it
some_stays : (f : DebugRegs → DebugRegs) (debug : Option DebugRegs) → is_some (option_map f debug) ≡ is_some debug
some_stays f None = refl
some_stays f (Some d) = refl

pub written-in_debug : (number v : ℕ) (r : Registers) → is_some (written number v r).debug ≡ is_some r.debug
unfolding written with_kept
written-in_debug number v r = some_stays _ r.debug
