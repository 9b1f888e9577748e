-- Which interrupt is taken: by sets of bits, and as one that may be taken whatever devices drive.
use Rattle.std.proofs.Common.{◌≡◌, ◌≢◌, ℕ, ◌-◌, ◌^◌, ◌<◌, ◌==◌, Bool, true, false, not, ◌&&◌, ◌||◌, cond, bit_and, bit_or, refl, sym, subst, ap, ap₂, ◌∙◌, lit<, arith}
use Rattle.std.specs.Prelude.{Option, None, Some, find, is_some}
use Rattle.std.specs.Option.{option_or}
use Rattle.std.proofs.lemmas.Bool.{and_parts, cond_both, cond-false, eq-eqb, eqb-true}
use Rattle.std.proofs.lemmas.Nat.Bits.{bit_at-pow_other, bit_at-zero}
use Rattle.rv_alu.specs.declared.Mode.{Mode}
use Rattle.csr_file.specs.Bits.{all_bits, mip_live}
use Rattle.csr_file.specs.Numbers.{csr_mip}
use Rattle.csr_file.specs.View.{IsGiven, volatile_bits}
use Rattle.csr_file.specs.declared.registers.Registers.{Registers}
use Rattle.rv_alu.specs.Bits.{has_bit}
use Rattle.trap_rules.specs.Interrupt.{interrupt_order, is_interrupt, is_machine_open, is_supervisor_open, is_waiting, may_be_taken, own_signal, picked, traps_to_machine, traps_to_supervisor}
use Rattle.trap_rules.proofs.FindLaws.{find-each, find-none, find-passes, find-same, find-stays, option_or-has}
use Rattle.trap_rules.proofs.BitLaws.{has_bit-and, has_bit-not, has_bit-or}

-- ---- sets of bits

waiting-set : (mip live mie n : ℕ) → has_bit (bit_and (bit_or mip live) mie) n ≡ ((has_bit mip n || has_bit live n) && has_bit mie n)
waiting-set mip live mie n = has_bit-and (bit_or mip live) mie n ∙ ap (λ b. b && has_bit mie n) (has_bit-or mip live n)

-- the bits of all that waits and is not delegated, and of all that waits and is delegated
abbrev pub machine_set : Registers → ℕ → ℕ
machine_set r live = bit_and (bit_and (bit_or r.kept.mip live) r.kept.mie) (all_bits - r.kept.mideleg)

abbrev pub supervisor_set : Registers → ℕ → ℕ
supervisor_set r live = bit_and (bit_and (bit_or r.kept.mip live) r.kept.mie) r.kept.mideleg

open_and : (b x y : Bool) → b ≡ true → x ≡ y → x ≡ (b && y)
open_and true x y is_open same = same
open_and false x y is_open same = absurd (cc)

machine_bit : (r : Registers) (mode : Mode) (live n : ℕ) → is_machine_open r mode ≡ true → r.kept.mideleg < 2 ^ 64 → n < 64 → has_bit (machine_set r live) n ≡ traps_to_machine r mode live n
machine_bit r mode live n is_open fits within =
    open_and (is_machine_open r mode) _ _ is_open (has_bit-and (bit_and (bit_or r.kept.mip live) r.kept.mie) (all_bits - r.kept.mideleg) n ∙ ap₂ (λ a b. a && b) (waiting-set r.kept.mip live r.kept.mie n) (has_bit-not r.kept.mideleg n fits within))

supervisor_bit : (r : Registers) (mode : Mode) (live n : ℕ) → is_supervisor_open r mode ≡ true → has_bit (supervisor_set r live) n ≡ traps_to_supervisor r mode live n
supervisor_bit r mode live n is_open =
    open_and (is_supervisor_open r mode) _ _ is_open (has_bit-and (bit_and (bit_or r.kept.mip live) r.kept.mie) r.kept.mideleg n ∙ ap (λ a. a && has_bit r.kept.mideleg n) (waiting-set r.kept.mip live r.kept.mie n))

-- the code's answer o from the registers' values a, b and d
pub machine_set-first : (r : Registers) (mode : Mode) (live a b d : ℕ) (o : Option ℕ) → is_machine_open r mode ≡ true → a ≡ r.kept.mip → b ≡ r.kept.mie → d ≡ r.kept.mideleg → d < 2 ^ 64 → o ≡ find (has_bit (bit_and (bit_and (bit_or a live) b) (all_bits - d))) interrupt_order → o ≡ find (traps_to_machine r mode live) interrupt_order
machine_set-first r mode live a b d o is_open a_is b_is d_is fits found =
    let first : ℕ → ℕ → ℕ → Option ℕ = λ x y z. find (has_bit (bit_and (bit_and (bit_or x live) y) (all_bits - z))) interrupt_order in
    let bit : (n : ℕ) → n < 64 → has_bit (machine_set r live) n ≡ traps_to_machine r mode live n = λ n. machine_bit r mode live n is_open (subst (λ x. x < 2 ^ 64) d_is fits) in
    found ∙ ap (λ x. first x b d) a_is ∙ ap (λ x. first r.kept.mip x d) b_is ∙ ap (λ x. first r.kept.mip r.kept.mie x) d_is ∙ find-same (has_bit (machine_set r live)) (traps_to_machine r mode live) interrupt_order (bit 11 (lit< tt), (bit 3 (lit< tt), (bit 7 (lit< tt), (bit 9 (lit< tt), (bit 1 (lit< tt), (bit 5 (lit< tt), tt))))))

pub supervisor_set-first : (r : Registers) (mode : Mode) (live a b d : ℕ) (o : Option ℕ) → is_supervisor_open r mode ≡ true → a ≡ r.kept.mip → b ≡ r.kept.mie → d ≡ r.kept.mideleg → o ≡ find (has_bit (bit_and (bit_and (bit_or a live) b) d)) interrupt_order → o ≡ find (traps_to_supervisor r mode live) interrupt_order
supervisor_set-first r mode live a b d o is_open a_is b_is d_is found =
    let first : ℕ → ℕ → ℕ → Option ℕ = λ x y z. find (has_bit (bit_and (bit_and (bit_or x live) y) z)) interrupt_order in
    let bit : (n : ℕ) → has_bit (supervisor_set r live) n ≡ traps_to_supervisor r mode live n = λ n. supervisor_bit r mode live n is_open in
    found ∙ ap (λ x. first x b d) a_is ∙ ap (λ x. first r.kept.mip x d) b_is ∙ ap (λ x. first r.kept.mip r.kept.mie x) d_is ∙ find-same (has_bit (supervisor_set r live)) (traps_to_supervisor r mode live) interrupt_order (bit 11, (bit 3, (bit 7, (bit 9, (bit 1, (bit 5, tt))))))

-- ---- numbers of interrupts

interrupt_within : (p : ℕ → Bool) (c : ℕ) → find p interrupt_order ≡ Some c → c < 64
interrupt_within p c = find-each (λ n. n < 64) p interrupt_order c (lit< tt, (lit< tt, (lit< tt, (lit< tt, (lit< tt, (lit< tt, tt))))))

is_interrupt-some : (c : ℕ) (o : Option ℕ) → is_interrupt c o ≡ true → o ≡ Some c
is_interrupt-some c None h = absurd (cc)
is_interrupt-some c (Some x) h = let same : x ≡ c = grind arith in ap Some same

some-is_interrupt : (c : ℕ) (o : Option ℕ) → o ≡ Some c → is_interrupt c o ≡ true
some-is_interrupt c None e = absurd (cc)
some-is_interrupt c (Some x) e = let same : x ≡ c = cc in grind arith

outside_debug : (b : Bool) (o : Option ℕ) (c : ℕ) → cond b None o ≡ Some c → o ≡ Some c
outside_debug true o c e = absurd (cc)
outside_debug false o c e = e

-- the number of an interrupt that may be taken is the place of a bit
pub may_be_taken-within : (r : Registers) (mode : Mode) (n : ℕ) → may_be_taken r mode n ≡ true → n < 64
unfolding may_be_taken picked
may_be_taken-within r mode n h =
    let m : Option ℕ = find (traps_to_machine r mode (own_signal n)) interrupt_order in
    let s : Option ℕ = find (traps_to_supervisor r mode (own_signal n)) interrupt_order in
    let taken : cond (is_some r.debug) None (option_or m s) ≡ Some n = is_interrupt-some n _ h in
    option_or-has (λ k. k < 64) m s n (interrupt_within (traps_to_machine r mode (own_signal n)) n) (interrupt_within (traps_to_supervisor r mode (own_signal n)) n) (outside_debug (is_some r.debug) (option_or m s) n taken)

-- ---- an interrupt that is taken may be taken

pub no_bit : (n : ℕ) → has_bit 0 n ≡ false
no_bit n = ap (λ x. x == 1) (bit_at-zero n)

-- the own signal of an interrupt is the signal of no other
own_signal-alone : (c n : ℕ) → n ≢ c → has_bit (own_signal c) n ≡ false
own_signal-alone c n apart =
    cond_both ((c == 3) || (c == 7) || (c == 9) || (c == 11)) (2 ^ c) 0 (λ w. has_bit w n ≡ false) (λ _. ap (λ x. x == 1) (bit_at-pow_other c n apart)) (λ _. no_bit n)

-- of an interrupt in the order, a live signal that devices drive is its own
driven : (live c : ℕ) (p : ℕ → Bool) → IsGiven csr_mip live → find p interrupt_order ≡ Some c → has_bit live c ≡ true → has_bit (own_signal c) c ≡ true
unfolding volatile_bits
driven live c p given found =
    let own : ℕ → Type 0 = λ n. has_bit live n ≡ true → has_bit (own_signal n) n ≡ true in
    let undriven : (n : ℕ) → has_bit mip_live n ≡ false → has_bit live n ≡ true → has_bit (own_signal n) n ≡ true = λ n dead h. let both : (has_bit live n && has_bit mip_live n) ≡ true = sym (has_bit-and live mip_live n) ∙ ap (λ w. has_bit w n) given ∙ h in let alive = (and_parts (has_bit live n) (has_bit mip_live n) both).1 in absurd (cc) in
    find-each own p interrupt_order c ((λ _. refl), ((λ _. refl), ((λ _. refl), ((λ _. refl), (undriven 1 refl, (undriven 5 refl, tt)))))) found

or_grows : (a b d e : Bool) → (b ≡ true → (a || d) ≡ true) → ((a || b) && e) ≡ true → ((a || d) && e) ≡ true
or_grows true b d e grows h = h
or_grows false true true e grows h = h
or_grows false true false e grows h = let no : false ≡ true = grows refl in absurd (cc)
or_grows false false d e grows h = absurd (cc)

and_grows : (a b c d : Bool) → (b ≡ true → c ≡ true) → (a && (b && d)) ≡ true → (a && (c && d)) ≡ true
and_grows true true true d grows h = h
and_grows true true false d grows h = let no : false ≡ true = grows refl in absurd (cc)
and_grows true false c d grows h = absurd (cc)
and_grows false b c d grows h = absurd (cc)

middle : (a b c : Bool) → (a && (b && c)) ≡ true → b ≡ true
middle a b c h = (and_parts b c (and_parts a (b && c) h).1).0

or_right : (x y : Bool) → y ≡ true → (x || y) ≡ true
or_right true y e = refl
or_right false y e = e

by_test : {A : Type 0} (b w : Bool) → (b ≡ true → A) → (b ≡ false → w ≡ false) → w ≡ true → A
by_test true w holds fails h = holds refl
by_test false w holds fails h = let dead : w ≡ false = fails refl in absurd (cc)

apart_by : (n c : ℕ) → (n == c) ≡ false → n ≢ c
apart_by n c differs same = let equal : (n == c) ≡ true = eq-eqb n c same in absurd (cc)

own_signal-is : (c n : ℕ) → has_bit (own_signal c) n ≡ true → n ≡ c
own_signal-is c n h = by_test (n == c) (has_bit (own_signal c) n) (eqb-true n c) (λ e. own_signal-alone c n (apart_by n c e)) h

-- what waits under the own signal of an interrupt that waits under all live signals waits under these too
waits_less : (r : Registers) (live c n : ℕ) → is_waiting r live c ≡ true → is_waiting r (own_signal c) n ≡ true → is_waiting r live n ≡ true
waits_less r live c n waits h =
    let here : (has_bit r.kept.mip c || has_bit live c) ≡ true = (and_parts _ (has_bit r.kept.mie c) waits).0 in
    or_grows (has_bit r.kept.mip n) (has_bit (own_signal c) n) (has_bit live n) (has_bit r.kept.mie n) (λ alone. subst (λ k. (has_bit r.kept.mip k || has_bit live k) ≡ true) (sym (own_signal-is c n alone)) here) h

waits_own : (r : Registers) (live c : ℕ) (p : ℕ → Bool) → IsGiven csr_mip live → find p interrupt_order ≡ Some c → is_waiting r live c ≡ true → is_waiting r (own_signal c) c ≡ true
waits_own r live c p given found waits =
    or_grows (has_bit r.kept.mip c) (has_bit live c) (has_bit (own_signal c) c) (has_bit r.kept.mie c) (λ alive. or_right (has_bit r.kept.mip c) (has_bit (own_signal c) c) (driven live c p given found alive)) waits

-- the first that traps under all live signals is the first under its own signal alone; gate and side are what else it needs
first_under_own : (r : Registers) (live c : ℕ) (gate : Bool) (side : ℕ → Bool) → IsGiven csr_mip live → let p : ℕ → Bool = λ n. gate && (is_waiting r live n && side n) in let q : ℕ → Bool = λ n. gate && (is_waiting r (own_signal c) n && side n) in find p interrupt_order ≡ Some c → find q interrupt_order ≡ Some c
first_under_own r live c gate side given found =
    let p : ℕ → Bool = λ n. gate && (is_waiting r live n && side n) in
    let q : ℕ → Bool = λ n. gate && (is_waiting r (own_signal c) n && side n) in
    let passes : p c ≡ true = find-passes p interrupt_order c found in
    let waits : is_waiting r live c ≡ true = middle gate (is_waiting r live c) (side c) passes in
    let own : is_waiting r (own_signal c) c ≡ true = waits_own r live c p given found waits in
    let stricter : (n : ℕ) → q n ≡ true → p n ≡ true = λ n. and_grows gate (is_waiting r (own_signal c) n) (is_waiting r live n) (side n) (waits_less r live c n waits) in
    find-stays p q stricter interrupt_order c (and_grows gate (is_waiting r live c) (is_waiting r (own_signal c) c) (side c) (λ _. own) passes) found

-- where nothing traps to M under all live signals, nothing does under the own signal of one that waits
none_under_own : (r : Registers) (mode : Mode) (live c : ℕ) → is_waiting r live c ≡ true → find (traps_to_machine r mode live) interrupt_order ≡ None → find (traps_to_machine r mode (own_signal c)) interrupt_order ≡ None
none_under_own r mode live c waits none =
    find-none (traps_to_machine r mode live) (traps_to_machine r mode (own_signal c)) (λ n. and_grows (is_machine_open r mode) (is_waiting r (own_signal c) n) (is_waiting r live n) (not (has_bit r.kept.mideleg n)) (waits_less r live c n waits)) interrupt_order none

picked_is : (r : Registers) (mode : Mode) (live c : ℕ) → is_some r.debug ≡ false → option_or (find (traps_to_machine r mode live) interrupt_order) (find (traps_to_supervisor r mode live) interrupt_order) ≡ Some c → picked r mode live ≡ Some c
unfolding picked
picked_is r mode live c outside first = cond-false (is_some r.debug) None _ outside ∙ first

pub machine-permitted : (r : Registers) (mode : Mode) (live c : ℕ) → IsGiven csr_mip live → is_some r.debug ≡ false → find (traps_to_machine r mode live) interrupt_order ≡ Some c → may_be_taken r mode c ≡ true
unfolding may_be_taken
machine-permitted r mode live c given outside found =
    let m : find (traps_to_machine r mode (own_signal c)) interrupt_order ≡ Some c = first_under_own r live c (is_machine_open r mode) (λ n. not (has_bit r.kept.mideleg n)) given found in
    some-is_interrupt c _ (picked_is r mode (own_signal c) c outside (ap (λ o. option_or o (find (traps_to_supervisor r mode (own_signal c)) interrupt_order)) m))

pub supervisor-permitted : (r : Registers) (mode : Mode) (live c : ℕ) → IsGiven csr_mip live → is_some r.debug ≡ false → find (traps_to_machine r mode live) interrupt_order ≡ None → find (traps_to_supervisor r mode live) interrupt_order ≡ Some c → may_be_taken r mode c ≡ true
unfolding may_be_taken
supervisor-permitted r mode live c given outside none found =
    let s : find (traps_to_supervisor r mode (own_signal c)) interrupt_order ≡ Some c = first_under_own r live c (is_supervisor_open r mode) (has_bit r.kept.mideleg) given found in
    let passes : traps_to_supervisor r mode live c ≡ true = find-passes (traps_to_supervisor r mode live) interrupt_order c found in
    let waits : is_waiting r live c ≡ true = middle (is_supervisor_open r mode) (is_waiting r live c) (has_bit r.kept.mideleg c) passes in
    let m : find (traps_to_machine r mode (own_signal c)) interrupt_order ≡ None = none_under_own r mode live c waits none in
    some-is_interrupt c _ (picked_is r mode (own_signal c) c outside (ap (λ o. option_or o (find (traps_to_supervisor r mode (own_signal c)) interrupt_order)) m ∙ s))
