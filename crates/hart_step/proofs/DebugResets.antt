-- Harts at reset in debug mode.
use Rattle.std.proofs.Common.{◌≡◌, ℕ, zero, suc, ◌+◌, ◌<◌, ◌≤◌, ◌||◌, Bool, true, false, List, [], ◌∷◌, ◌++◌, All, length, refl, sym, ap, subst, ◌∙◌, arith, add-one}
use Rattle.std.specs.List.{list_any}
use Rattle.std.proofs.lemmas.List.{length-append}
use Rattle.csr_file.specs.Kept.{reset_registers}
use Rattle.hart_step.specs.declared.hart.Hart.{Hart}
use Rattle.hart_step.specs.DebugReset.{debug_harts, reset_debug_hart}
use Rattle.hart_step.specs.Fit.{IsKept, IsWellFormed}
use Rattle.hart_step.specs.Harts.{CoreState, is_in_debug}
use Rattle.hart_step.specs.Memory.{most_rom}
use Rattle.hart_step.proofs.Kept.{Numbered, numbered_more}

pub debug_length : (n : ℕ) → length (debug_harts n) ≡ n
unfolding debug_harts
debug_length zero = refl
debug_length (suc n) =
    length-append (debug_harts n) (reset_debug_hart n ∷ []) ∙ ap (λ (m : ℕ). m + 1) (debug_length n) ∙ omega arith

pub no_debug_harts : debug_harts 0 ≡ []
unfolding debug_harts
no_debug_harts = refl

pub one_debug_hart_more : (n : ℕ) → debug_harts (n + 1) ≡ debug_harts n ++ reset_debug_hart n ∷ []
unfolding debug_harts
one_debug_hart_more n = rw add-one refl

debug_number : (h : ℕ) → (reset_debug_hart h).csrs.hart ≡ h
unfolding reset_registers
debug_number h = refl

numbered_debug : (n : ℕ) → Numbered (debug_harts n)
unfolding debug_harts
numbered_debug zero = λ h within. absurd (omega (arith, within))
numbered_debug (suc n) = numbered_more (debug_harts n) (reset_debug_hart n) (numbered_debug n) (debug_number n ∙ sym (debug_length n))

or_true : (a b : Bool) → b ≡ true → (a || b) ≡ true
or_true true b is = refl
or_true false b is = is

-- a list that ends with a hart in debug mode has one
any_last : (xs : List Hart) (h : ℕ) → list_any is_in_debug (xs ++ reset_debug_hart h ∷ []) ≡ true
any_last [] h = refl
any_last (x ∷ xs) h = or_true (is_in_debug x) _ (any_last xs h)

-- some hart is in debug mode where there is one
any_debug : (n : ℕ) → 0 < n → list_any is_in_debug (debug_harts n) ≡ true
unfolding debug_harts
any_debug zero some = absurd (omega arith)
any_debug (suc n) some = any_last (debug_harts n) n

-- such a core keeps what every core keeps
pub kept_debug : (n : ℕ) (core : CoreState) → 0 < n → n ≤ 8 → All IsWellFormed core.harts → core.harts ≡ debug_harts n → length core.rom ≤ most_rom → IsKept core
kept_debug n core some most fit harts room =
    let long : length core.harts ≡ n = ap (λ (xs : List Hart). length xs) harts ∙ debug_length n in
    record {
      some = subst (λ (m : ℕ). 0 < m) (sym long) some;
      most = subst (λ (m : ℕ). m ≤ 8) (sym long) most;
      harts = fit;
      numbers = subst (λ (xs : List Hart). Numbered xs) (sym harts) (numbered_debug n);
      room = room;
      closed = λ none. absurd (let is = ap (list_any is_in_debug) harts ∙ any_debug n some in cc);
    }
