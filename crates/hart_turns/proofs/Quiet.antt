-- Where no interrupt is enabled, or none that is enabled is pending, none is taken.
use Rattle.std.proofs.Common.{◌≡◌, ℕ, Bool, true, false, not, ◌&&◌, ◌||◌, cond, List, [], ◌∷◌, refl, ap, sym, ◌∙◌, bit_and, bit_or}
use Rattle.std.specs.Prelude.{Option, None, Some, find, is_some}
use Rattle.std.specs.Option.{option_or}
use Rattle.std.proofs.lemmas.Bool.{cond-false}
use Rattle.rv_alu.specs.declared.Mode.{Mode}
use Rattle.csr_file.specs.declared.registers.Registers.{Registers}
use Rattle.rv_alu.specs.Bits.{has_bit}
use Rattle.trap_rules.specs.Interrupt.{interrupt_order, is_machine_open, is_supervisor_open, picked, traps_to_machine, traps_to_supervisor}
use Rattle.trap_rules.proofs.BitLaws.{has_bit-and, has_bit-or}
use Rattle.trap_rules.proofs.PickLaws.{no_bit}

disabled : (waits enabled : Bool) → enabled ≡ false → (waits && enabled) ≡ false
disabled false enabled off = refl
disabled true enabled off = off

blocked : (gate ready side : Bool) → ready ≡ false → (gate && (ready && side)) ≡ false
blocked false ready side off = refl
blocked true ready side off = ap (λ (b : Bool). b && side) off

found_none : (p : ℕ → Bool) → ((n : ℕ) → p n ≡ false) → (xs : List ℕ) → find p xs ≡ None
found_none p fails [] = refl
found_none p fails (x ∷ xs) = cond-false (p x) (Some x) (find p xs) (fails x) ∙ found_none p fails xs

both_none : (b : Bool) (x y : Option ℕ) → x ≡ None → y ≡ None → cond b None (option_or x y) ≡ None
both_none true x y first second = refl
both_none false x y first second = ap (λ (o : Option ℕ). option_or o y) first ∙ second

-- no interrupt is both pending and enabled
none_ready : (r : Registers) (mode : Mode) (live : ℕ) → ((n : ℕ) → ((has_bit r.kept.mip n || has_bit live n) && has_bit r.kept.mie n) ≡ false) → picked r mode live ≡ None
unfolding picked
none_ready r mode live off =
    both_none (is_some r.debug) _ _
    (found_none (traps_to_machine r mode live) (λ n. blocked (is_machine_open r mode) ((has_bit r.kept.mip n || has_bit live n) && has_bit r.kept.mie n) (not (has_bit r.kept.mideleg n)) (off n)) interrupt_order)
    (found_none (traps_to_supervisor r mode live) (λ n. blocked (is_supervisor_open r mode) ((has_bit r.kept.mip n || has_bit live n) && has_bit r.kept.mie n) (has_bit r.kept.mideleg n) (off n)) interrupt_order)

pub nothing_enabled : (r : Registers) (mode : Mode) (live : ℕ) → r.kept.mie ≡ 0 → picked r mode live ≡ None
nothing_enabled r mode live none =
    none_ready r mode live (λ n. disabled (has_bit r.kept.mip n || has_bit live n) (has_bit r.kept.mie n) (ap (λ (w : ℕ). has_bit w n) none ∙ no_bit n))

pub nothing_pending : (r : Registers) (mode : Mode) (live : ℕ) → bit_and (bit_or r.kept.mip live) r.kept.mie ≡ 0 → picked r mode live ≡ None
nothing_pending r mode live none =
    none_ready r mode live (λ n.
    ap (λ (b : Bool). b && has_bit r.kept.mie n) (sym (has_bit-or r.kept.mip live n)) ∙ sym (has_bit-and (bit_or r.kept.mip live) r.kept.mie n)
    ∙ ap (λ (w : ℕ). has_bit w n) none ∙ no_bit n)
