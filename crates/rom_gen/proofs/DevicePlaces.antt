-- Each listed device register stands at a multiple of its size, below RAM.
use Rattle.std.specs.Prelude.{nat_le, nat_lt, Option, None, Some, is_some}
use Rattle.std.specs.Option.{option_map}
use Rattle.std.proofs.Common.{◌≡◌, ℕ, ◌+◌, ◌*◌, ◌/◌, ◌%◌, ◌-◌, ◌<◌, ◌≤◌, Bool, true, false, cond, refl, sym, ◌∙◌, arith, subst, ◌==◌, ◌&&◌}
use Rattle.std.proofs.lemmas.Bool.{eqb-true, false≢true, leb-true, ltb-true}
use Rattle.guest_ram.specs.Bytes.{base}
use Rattle.device_rows.specs.Rows.{row_at}
use Rattle.clint.specs.Layout.{register_at as clint_register}
use Rattle.plic.specs.Layout.{word_at}
use Rattle.console.specs.Layout.{register_at as console_register}
use Rattle.board_bus.specs.Listed.{is_listed, is_listed_in, is_within, place_of, clint_base, clint_length, plic_base, plic_length, console_base, console_length}

both_are : (a b : Bool) → (a && b) ≡ true → (a ≡ true) × (b ≡ true)
both_are true true e = (refl, refl)
both_are true false e = absurd (false≢true e)
both_are false b e = absurd (false≢true e)

some_mapped : {T U : Type 0} (f : T → U) (o : Option T) → is_some (option_map f o) ≡ true → is_some o ≡ true
some_mapped f None e = e
some_mapped f (Some x) e = refl

-- ---- rows

in_row : (a b c : Bool) (v : ℕ) → is_some (cond (a && b && c) (Some v) None) ≡ true → (a ≡ true) × (c ≡ true)
in_row true true true v e = (refl, refl)
in_row true true false v e = absurd (false≢true e)
in_row true false c v e = absurd (false≢true e)
in_row false b c v e = absurd (false≢true e)

-- a register of a row stands a multiple of the distance behind the first
row_place : (start stride count off : ℕ) → is_some (row_at start stride count off) ≡ true → (start ≤ off) × ((off - start) % stride ≡ 0)
unfolding row_at
row_place start stride count off e =
    let both : (nat_le start off ≡ true) × (((off - start) % stride == 0) ≡ true) = in_row (nat_le start off) (nat_lt off (start + stride * count)) ((off - start) % stride == 0) ((off - start) / stride) e in
    (leb-true start off both.0, eqb-true ((off - start) % stride) 0 both.1)

-- ---- the devices: what holds of each size, where the offset is a multiple of it, holds of the size

clint_by : {R : Type 0} (P : ℕ → Type 0) (off size : ℕ) (four eight time : Bool) (f g : ℕ → R) (t : R) (m c : Option ℕ) → (size == 4) ≡ four → (size == 8) ≡ eight → (off == 0xbff8) ≡ time →
    (off % 4 ≡ 0 → P 4) → (off % 8 ≡ 0 → P 8) → (is_some m ≡ true → off % 4 ≡ 0) → (is_some c ≡ true → off % 8 ≡ 0) →
    is_some (cond four (option_map f m) (cond eight (cond time (Some t) (option_map g c)) None)) ≡ true → P size
clint_by P off size true eight time f g t m c is4 is8 at_time p4 p8 m_is c_is e = subst P (sym (eqb-true size 4 is4)) (p4 (m_is (some_mapped f m e)))
clint_by P off size false true true f g t m c is4 is8 at_time p4 p8 m_is c_is e = let at : off ≡ 0xbff8 = eqb-true off 0xbff8 at_time in subst P (sym (eqb-true size 8 is8)) (p8 (omega arith))
clint_by P off size false true false f g t m c is4 is8 at_time p4 p8 m_is c_is e = subst P (sym (eqb-true size 8 is8)) (p8 (c_is (some_mapped g c e)))
clint_by P off size false false time f g t m c is4 is8 at_time p4 p8 m_is c_is e = absurd (false≢true e)

clint_place : (P : ℕ → Type 0) (harts off size : ℕ) → (off % 4 ≡ 0 → P 4) → (off % 8 ≡ 0 → P 8) → is_some (clint_register harts off size) ≡ true → P size
unfolding clint_register
clint_place P harts off size p4 p8 e =
    clint_by P off size (size == 4) (size == 8) (off == 0xbff8) _ _ _ (row_at 0 4 harts off) (row_at 0x4000 8 harts off) refl refl refl p4 p8
    (λ is. let q = row_place 0 4 harts off is in let a = q.1 in omega arith)
    (λ is. let q = row_place 0x4000 8 harts off is in let l = q.0 in let a = q.1 in omega arith)
    e

word_by : {R : Type 0} (off : ℕ) (low pending middle claim : Bool) (f g h k : ℕ → R) (x : R) (p e c t : Option ℕ) → (off == 0x1000) ≡ pending →
    (is_some p ≡ true → off % 4 ≡ 0) → (is_some e ≡ true → off % 4 ≡ 0) → (is_some c ≡ true → off % 4 ≡ 0) → (is_some t ≡ true → off % 4 ≡ 0) →
    is_some (cond low (option_map f p) (cond pending (Some x) (cond middle (option_map g e) (cond claim (option_map h c) (option_map k t))))) ≡ true → off % 4 ≡ 0
word_by off true pending middle claim f g h k x p e c t at p_is e_is c_is t_is some = p_is (some_mapped f p some)
word_by off false true middle claim f g h k x p e c t at p_is e_is c_is t_is some = let is : off ≡ 0x1000 = eqb-true off 0x1000 at in omega arith
word_by off false false true claim f g h k x p e c t at p_is e_is c_is t_is some = e_is (some_mapped g e some)
word_by off false false false true f g h k x p e c t at p_is e_is c_is t_is some = c_is (some_mapped h c some)
word_by off false false false false f g h k x p e c t at p_is e_is c_is t_is some = t_is (some_mapped k t some)

word_place : (contexts off : ℕ) → is_some (word_at contexts off) ≡ true → off % 4 ≡ 0
unfolding word_at
word_place contexts off some =
    word_by off (nat_lt off 0x1000) (off == 0x1000) (nat_lt off 0x200000) (off % 0x1000 == 4) _ _ _ _ _
    (row_at 4 4 2 off) (row_at 0x2000 0x80 contexts off) (row_at 0x200004 0x1000 contexts off) (row_at 0x200000 0x1000 contexts off) refl
    (λ is. let q = row_place 4 4 2 off is in let l = q.0 in let a = q.1 in omega arith)
    (λ is. let q = row_place 0x2000 0x80 contexts off is in let l = q.0 in let a = q.1 in omega arith)
    (λ is. let q = row_place 0x200004 0x1000 contexts off is in let l = q.0 in let a = q.1 in omega arith)
    (λ is. let q = row_place 0x200000 0x1000 contexts off is in let l = q.0 in let a = q.1 in omega arith)
    some

plic_by : (P : ℕ → Type 0) (contexts off size : ℕ) (four : Bool) → (size == 4) ≡ four → (off % 4 ≡ 0 → P 4) → is_some (cond four (word_at contexts off) None) ≡ true → P size
plic_by P contexts off size true is4 p4 e = subst P (sym (eqb-true size 4 is4)) (p4 (word_place contexts off e))
plic_by P contexts off size false is4 p4 e = absurd (false≢true e)

-- a register of the console, at this offset and of this size
at_both : (P : ℕ → Type 0) (off size o s : ℕ) → ((off == o) && (size == s)) ≡ true → (off ≡ o → P s) → P size
at_both P off size o s e p =
    let both : ((off == o) ≡ true) × ((size == s) ≡ true) = both_are (off == o) (size == s) e in
    subst P (sym (eqb-true size s both.1)) (p (eqb-true off o both.0))

console_by : {R : Type 0} (X : Type 0) (a b c d e : Bool) (v w x y z : R) → (a ≡ true → X) → (b ≡ true → X) → (c ≡ true → X) → (d ≡ true → X) → (e ≡ true → X) →
    is_some (cond a (Some v) (cond b (Some w) (cond c (Some x) (cond d (Some y) (cond e (Some z) None))))) ≡ true → X
console_by X true b c d e v w x y z pa pb pc pd pe some = pa refl
console_by X false true c d e v w x y z pa pb pc pd pe some = pb refl
console_by X false false true d e v w x y z pa pb pc pd pe some = pc refl
console_by X false false false true e v w x y z pa pb pc pd pe some = pd refl
console_by X false false false false true v w x y z pa pb pc pd pe some = pe refl
console_by X false false false false false v w x y z pa pb pc pd pe some = absurd (false≢true some)

console_place : (P : ℕ → Type 0) (off size : ℕ) → P 1 → (off % 4 ≡ 0 → P 4) → (off % 8 ≡ 0 → P 8) → is_some (console_register off size) ≡ true → P size
unfolding console_register
console_place P off size p1 p4 p8 some =
    console_by (P size) ((off == 0) && (size == 1)) ((off == 4) && (size == 4)) ((off == 8) && (size == 4)) ((off == 0x10) && (size == 8)) ((off == 0x18) && (size == 4)) _ _ _ _ _
    (λ e. at_both P off size 0 1 e (λ is. p1))
    (λ e. at_both P off size 4 4 e (λ is. p4 (omega arith)))
    (λ e. at_both P off size 8 4 e (λ is. p4 (omega arith)))
    (λ e. at_both P off size 0x10 8 e (λ is. p8 (omega arith)))
    (λ e. at_both P off size 0x18 4 e (λ is. p4 (omega arith)))
    some

-- ---- the board

within_is : (from long at : ℕ) → is_within from long at ≡ true → (from ≤ at) × (at < from + long)
within_is from long at e =
    let both : (nat_le from at ≡ true) × (nat_lt at (from + long) ≡ true) = both_are (nat_le from at) (nat_lt at (from + long)) e in
    (leb-true from at both.0, ltb-true at (from + long) both.1)

board_by : {X : Type 0} (R : Type 0) (f : X → Bool) (a b c : Bool) (x y z w : X) → (a ≡ true → f x ≡ true → R) → (b ≡ true → f y ≡ true → R) → (c ≡ true → f z ≡ true → R) → f w ≡ false →
    f (cond a x (cond b y (cond c z w))) ≡ true → R
board_by R f true b c x y z w on_x on_y on_z none e = on_x refl e
board_by R f false true c x y z w on_x on_y on_z none e = on_y refl e
board_by R f false false true x y z w on_x on_y on_z none e = on_z refl e
board_by R f false false false x y z w on_x on_y on_z none e = absurd (false≢true (sym none ∙ e))

in_clint : (n at size : ℕ) → is_within clint_base clint_length at ≡ true → is_some (clint_register n (at - clint_base) size) ≡ true → (at % size ≡ 0) × (at < base)
in_clint n at size within e =
    let w = within_is clint_base clint_length at within in
    let l : 0x2000000 ≤ at = w.0 in
    let h : at < 0x2010000 = w.1 in
    (clint_place (λ s. at % s ≡ 0) n (at - 0x2000000) size (λ z. omega arith) (λ z. omega arith) e, omega arith)

in_plic : (n at size : ℕ) → is_within plic_base plic_length at ≡ true → is_some (cond (size == 4) (word_at (2 * n) (at - plic_base)) None) ≡ true → (at % size ≡ 0) × (at < base)
in_plic n at size within e =
    let w = within_is plic_base plic_length at within in
    let l : 0x0c000000 ≤ at = w.0 in
    let h : at < 0x10000000 = w.1 in
    (plic_by (λ s. at % s ≡ 0) (2 * n) (at - 0x0c000000) size (size == 4) refl (λ z. omega arith) e, omega arith)

in_console : (at size : ℕ) → is_within console_base console_length at ≡ true → is_some (console_register (at - console_base) size) ≡ true → (at % size ≡ 0) × (at < base)
in_console at size within e =
    let w = within_is console_base console_length at within in
    let l : 0x10000000 ≤ at = w.0 in
    let h : at < 0x10001000 = w.1 in
    (console_place (λ s. at % s ≡ 0) (at - 0x10000000) size (omega arith) (λ z. omega arith) (λ z. omega arith) e, omega arith)

-- a device register stands at a multiple of its size, below RAM
pub device_place : (n at size : ℕ) → is_listed n at size ≡ true → (at % size ≡ 0) × (at < base)
unfolding is_listed place_of
device_place n at size e =
    board_by ((at % size ≡ 0) × (at < base)) (is_listed_in n size) (is_within clint_base clint_length at) (is_within plic_base plic_length at) (is_within console_base console_length at) _ _ _ _
    (in_clint n at size) (in_plic n at size) (in_console at size) refl e
