-- What a register answers to a load has as many bytes as were asked for.
use Rattle.std.proofs.Common.{◌≡◌, ℕ, ◌+◌, ◌-◌, ◌^◌, ◌<◌, ◌≤◌, ◌==◌, Bool, true, false, if◌then◌else◌, Option, Some, None, unwrap_or, slice_index, refl, sym, subst, arith}
use Rattle.std.specs.Option.{option_map}
use Rattle.std.proofs.lemmas.Bool.{eqb-true}
use Rattle.std.proofs.lemmas.Nat.{and_le_r}
use Rattle.rv_alu.proofs.Bytes.{some_power}
use Rattle.device_rows.proofs.Places.{at_place}
use Rattle.plic.specs.State.{IsFit, IsWithinSources, PlicRegisters, context_count}
use Rattle.plic.specs.Access.{loaded, value_of}
use Rattle.plic.specs.Layout.{word_at}
use Rattle.plic.specs.Claims.{claimed, is_pending, preferred}
use Rattle.plic.specs.declared.registers.Register.{Register}
use Rattle.plic.specs.declared.registers.Register.TheVariants.{Priority, Pending, Enable, Threshold, Claim}

word_small : (first second : Bool) → (if first then 2 else 0) + (if second then 4 else 0) ≤ 6
word_small false false = omega arith
word_small false true = omega arith
word_small true false = omega arith
word_small true true = omega arith

within_small : (x : ℕ) → IsWithinSources x → x ≤ 6
within_small x within = subst (λ y. y ≤ 6) within (and_le_r x 6)

chosen_small : (b : Bool) (s best : ℕ) → s ≤ 2 → best ≤ 2 → (if b then s else best) ≤ 2
chosen_small true s best here other = here
chosen_small false s best here other = other

preferred_small : (r : PlicRegisters) (c levels best s : ℕ) → best ≤ 2 → s ≤ 2 → preferred r c levels best s ≤ 2
unfolding preferred
preferred_small r c levels best s other here = chosen_small _ s best here other

claimed_small : (r : PlicRegisters) (c levels : ℕ) → claimed r c levels ≤ 2
unfolding claimed
claimed_small r c levels = preferred_small r c levels (preferred r c levels 0 1) 2 (preferred_small r c levels 0 1 (omega arith) (omega arith)) (omega arith)

priority_small : (r : PlicRegisters) → IsFit r → (s : ℕ) (none : Bool) → (if none then 0 else slice_index r.priority (s - 1)) ≤ 7
priority_small r fit s true = omega arith
priority_small r fit s false = at_place (λ x. x ≤ 7) r.priority (s - 1) fit.priorities (omega arith)

value_small : (r : PlicRegisters) → IsFit r → (levels : ℕ) (reg : Register) → value_of r levels reg ≤ 7
value_small r fit levels (Priority s) = priority_small r fit s (s == 0)
value_small r fit levels Pending = let small = word_small (is_pending r levels 1) (is_pending r levels 2) in omega (arith, small)
value_small r fit levels (Enable c) = let small = within_small (slice_index r.enable c) (at_place IsWithinSources r.enable c fit.enables refl) in omega (arith, small)
value_small r fit levels (Threshold c) = at_place (λ x. x ≤ 7) r.threshold c fit.thresholds (omega arith)
value_small r fit levels (Claim c) = let small = claimed_small r c levels in omega (arith, small)

word_fits : (r : PlicRegisters) → IsFit r → (levels : ℕ) (o : Option Register) → unwrap_or (option_map (value_of r levels) o) 0 < 256 ^ 4
word_fits r fit levels None = omega arith
word_fits r fit levels (Some reg) = let small = value_small r fit levels reg in omega (arith, small)

by_size : (r : PlicRegisters) → IsFit r → (levels size : ℕ) (four : Bool) (o : Option Register) → (size == 4) ≡ four → unwrap_or (option_map (value_of r levels) (if four then o else None)) 0 < 256 ^ size
by_size r fit levels size true o is = subst (λ n. unwrap_or (option_map (value_of r levels) o) 0 < 256 ^ n) (sym (eqb-true size 4 is)) (word_fits r fit levels o)
by_size r fit levels size false o is = some_power size

pub loads_fit : (r : PlicRegisters) → IsFit r → (off size levels : ℕ) → unwrap_or (loaded r off size levels) 0 < 256 ^ size
unfolding loaded
loads_fit r fit off size levels = by_size r fit levels size (size == 4) (word_at (context_count r) off) refl
