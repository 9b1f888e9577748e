-- Harts at reset in debug mode, and those of a running machine.
use Rattle.std.specs.Prelude.{All, Option, Some, None, is_some, is_none, nat_lt}
use Rattle.std.specs.List.{position, position_or_len}
use Rattle.std.proofs.Common.{◌≡◌, ℕ, zero, suc, ◌<◌, ◌≤◌, ⊎_elim, Bool, true, false, cond, List, [], ◌∷◌, ◌++◌, length, refl, sym, ap, ◌∙◌, arith, length-append}
use Rattle.std.proofs.Math.ListN.{get_or}
use Rattle.std.proofs.Math.Seq.{get_or-append_seam}
use Rattle.std.proofs.lemmas.Bool.{cases_eq, ltb-false}
use Rattle.std.proofs.lemmas.List.{get_or_append_left}
use Rattle.std.proofs.lemmas.List.Sums.{fails_before_first}
use Rattle.csr_file.specs.declared.registers.DebugRegs.{DebugRegs}
use Rattle.hart_step.specs.declared.hart.Hart.{Hart}
use Rattle.hart_step.specs.Harts.{is_in_debug}
use Rattle.hart_step.specs.DebugReset.{debug_harts, reset_debug_hart}

-- ---- harts in debug mode

pub fresh_length : (n : ℕ) → length (debug_harts n) ≡ n
unfolding debug_harts
fresh_length zero = refl
fresh_length (suc n) = omega (arith, length-append (debug_harts n) (reset_debug_hart n ∷ []), fresh_length n)

pub fresh_at : (n h : ℕ) (d : Hart) → h < n → get_or (debug_harts n) h d ≡ reset_debug_hart h
unfolding debug_harts
fresh_at zero h d below = absurd (omega arith)
fresh_at (suc n) h d below = ⊎_elim
    (λ e. ap (λ i. get_or (debug_harts n ++ reset_debug_hart n ∷ []) i d) (e ∙ sym (fresh_length n)) ∙ get_or-append_seam (debug_harts n) (reset_debug_hart n) [] d ∙ ap reset_debug_hart (sym e))
    (λ a. get_or_append_left (debug_harts n) (reset_debug_hart n ∷ []) d h (omega (arith, fresh_length n)) ∙ fresh_at n h d (omega arith))
    (cases_eq h n)

pub fresh_free : (n : ℕ) → All (λ (x : Hart). x.reservation ≡ None) (debug_harts n)
fresh_free n i d within = ap (λ (x : Hart). x.reservation) (fresh_at n i d (omega (arith, fresh_length n)))

-- ---- which harts a running machine has

absent : {A : Type 0} (b : Bool) (x : A) → is_none (cond b (Some x) None) ≡ true → b ≡ false
absent true x e = absurd (cc)
absent false x e = refl

pub not_some : (o : Option DebugRegs) → is_some o ≡ false → o ≡ None
not_some None e = refl
not_some (Some d) e = absurd (cc)

-- no hart of a running machine is in debug mode
pub all_out : (harts : List Hart) → is_none (position is_in_debug harts) ≡ true → (i : ℕ) (d : Hart) → i < length harts → is_in_debug (get_or harts i d) ≡ false
all_out harts running i d within =
    let none : nat_lt (position_or_len is_in_debug harts) (length harts) ≡ false = absent _ _ running in
    let most : length harts ≤ position_or_len is_in_debug harts = ltb-false _ _ none in
    fails_before_first is_in_debug harts i d (omega arith)
