-- What a boot leaves in debug mode: no hart where it met no fault, and some hart where it did.
use Rattle.std.proofs.Common.{◌≡◌, ℕ, zero, suc, ◌<◌, ◌≤◌, Bool, true, false, cond, List, length, refl, sym, ap, ◌∙◌, arith}
use Rattle.std.specs.Prelude.{Option, Some, None, is_none, nat_lt}
use Rattle.std.specs.List.{position, position_or_len}
use Rattle.std.proofs.Math.ListN.{get_or}
use Rattle.std.proofs.lemmas.Bool.{false≢true, le-ltb, ltb-false}
use Rattle.std.proofs.lemmas.List.{get_or-set_same}
use Rattle.std.proofs.lemmas.List.Sums.{fails_before_first, position_or_len_is}
use Rattle.hart_step.specs.declared.hart.Hart.{Hart}
use Rattle.hart_step.specs.Answers.{Given}
use Rattle.hart_step.specs.Events.{exception_of}
use Rattle.hart_step.specs.Harts.{CoreState, hart_of, is_in_debug, reset_hart}
use Rattle.hart_step.specs.Step.{HartAnswer, after_store, hart_step, memory_of, step}
use Rattle.hart_turns.specs.declared.booting.BootFault.{BootFault}
use Rattle.hart_turns.specs.Boot.{Booted, Booting, begins_boot, boot_hart, boot_harts, boot_step, booted, boots_next, most_steps, onward, step_exception}
use Rattle.hart_turns.specs.Gives.{board_gives}
use Rattle.hart_turns.specs.Laws.{BootsEnd}
use Rattle.hart_turns.proofs.BootLaws.{after_length, boot_many, harts_free, harts_stay}
use Rattle.hart_step.proofs.Raised.{hart_step_holds}

-- hart j is there, and in debug mode
abbrev In : ℕ → Booting → Type 0
In j b = (j < length b.core.harts) × (is_in_debug (hart_of b.core j) ≡ true)

-- a step that shows an exception leaves its hart in debug mode
step_holds : (given : Given) (core : CoreState) (h : ℕ) → h < length core.harts → is_in_debug (hart_of core h) ≡ true → (e : ℕ × ℕ) → exception_of (step given core h).event ≡ Some e → is_in_debug (hart_of (step given core h).core h) ≡ true
unfolding step
step_holds given core h within debugs e shown =
    let a : HartAnswer = hart_step given (length core.harts) h (hart_of core h) (memory_of core) in
    let inside : h < length (after_store a.stored core.harts) = omega (arith, after_length a.stored core.harts) in
    ap is_in_debug (get_or-set_same (after_store a.stored core.harts) h a.hart (reset_hart 0 0) inside)
    ∙ hart_step_holds given (length core.harts) h (hart_of core h) (memory_of core) debugs e shown

trap_holds : (h : ℕ) (b : Booting) (e : ℕ × ℕ) → In h b → step_exception h b ≡ Some e → In h (boot_step h b)
trap_holds h b e in_debug shown = (
  omega (arith, in_debug.0, harts_stay (board_gives b.board h (hart_of b.core h)) b.core h),
  step_holds (board_gives b.board h (hart_of b.core h)) b.core h in_debug.0 in_debug.1 e shown,
)

-- ---- one hart

-- where its steps end in a fault, it is in debug mode still
abbrev HoldsWhereFaulted : ℕ → Booted → Type 0
HoldsWhereFaulted h x = (fault : BootFault) → x.fault ≡ Some fault → In h x.left

hold_choice : (h : ℕ) (c : Bool) (b : Booting) (go : Booting → Booted) → is_in_debug (hart_of b.core h) ≡ c → h < length b.core.harts → (In h b → HoldsWhereFaulted h (go b)) → HoldsWhereFaulted h (cond c (go b) (record { left = b; fault = None }))
hold_choice h true b go is within rest = rest (within, is)
hold_choice h false b go is within rest = λ fault some. absurd (cc)

hold_onward : (h : ℕ) (e : Option (ℕ × ℕ)) (b : Booting) (go : Booting → Booted) → h < length b.core.harts → ((p : ℕ × ℕ) → e ≡ Some p → In h b) → (In h b → HoldsWhereFaulted h (go b)) → HoldsWhereFaulted h (onward h e b go)
hold_onward h (Some p) b go within trapped rest = λ fault some. trapped p refl
hold_onward h None b go within trapped rest = hold_choice h (is_in_debug (hart_of b.core h)) b go refl within rest

boot_holds : (fuel h : ℕ) (b : Booting) → In h b → HoldsWhereFaulted h (boot_hart fuel h b)
unfolding boot_hart
boot_holds zero h b here = λ fault some. here
boot_holds (suc fuel) h b here =
    hold_onward h (step_exception h b) (boot_step h b) (boot_hart fuel h)
    (omega (arith, here.0, harts_stay (board_gives b.board h (hart_of b.core h)) b.core h))
    (λ p shown. trap_holds h b p here shown) (boot_holds fuel h (boot_step h b))

-- ---- all harts

abbrev SomeIn : Booted → Type 0
SomeIn x = (fault : BootFault) → x.fault ≡ Some fault → (j : ℕ) × In j x.left

next_choice : (n : ℕ) (c : Bool) (x : Booting) → n < length x.core.harts → is_in_debug (hart_of x.core n) ≡ c → SomeIn (cond c (boot_hart most_steps n x) (record { left = x; fault = None }))
next_choice n true x within is = λ fault some. (n, boot_holds most_steps n x (within, is) fault some)
next_choice n false x within is = λ fault some. absurd (cc)

next_holds : (n : ℕ) (x : Booting) (f : Option BootFault) → n < length x.core.harts → ((fault : BootFault) → f ≡ Some fault → (j : ℕ) × In j x) → SomeIn (boots_next n x f)
next_holds n x (Some fault) within before = λ other some. before fault refl
next_holds n x None within before = next_choice n (is_in_debug (hart_of x.core n)) x within refl

harts_hold : (n : ℕ) (b : Booting) → n ≤ length b.core.harts → SomeIn (boot_harts n b)
unfolding boot_harts
harts_hold zero b few = λ fault some. absurd (cc)
harts_hold (suc n) b few =
    next_holds n (boot_harts n b).left (boot_harts n b).fault (omega (arith, boot_many n b, few)) (harts_hold n b (omega arith))

-- ---- running

none_in : (harts : List Hart) → ((j : ℕ) → j < length harts → is_in_debug (get_or harts j (reset_hart 0 0)) ≡ false) → is_none (position is_in_debug harts) ≡ true
none_in harts out =
    let place : position_or_len is_in_debug harts ≡ length harts = position_or_len_is is_in_debug harts (length harts) (reset_hart 0 0) (omega arith) out (λ within. absurd (omega arith)) in
    ap (λ i. is_none (cond (nat_lt i (length harts)) (Some i) None)) place ∙ ap (λ b. is_none (cond b (Some (length harts)) None)) (le-ltb (length harts) (length harts) (omega arith))

-- the first place at which a hart is in debug mode is one of the list, where there is such a place
found : (harts : List Hart) (j : ℕ) (d : Hart) (b : Bool) → j < length harts → is_in_debug (get_or harts j d) ≡ true → nat_lt (position_or_len is_in_debug harts) (length harts) ≡ b → is_none (cond b (Some (position_or_len is_in_debug harts)) None) ≡ false
found harts j d true within is less = refl
found harts j d false within is less =
    let past : length harts ≤ position_or_len is_in_debug harts = ltb-false (position_or_len is_in_debug harts) (length harts) less in
    let not_in : is_in_debug (get_or harts j d) ≡ false = fails_before_first is_in_debug harts j d (omega arith) in
    absurd (false≢true (sym not_in ∙ is))

some_in : (harts : List Hart) (j : ℕ) (d : Hart) → j < length harts → is_in_debug (get_or harts j d) ≡ true → is_none (position is_in_debug harts) ≡ false
some_in harts j d within is = found harts j d (nat_lt (position_or_len is_in_debug harts) (length harts)) within is refl

pub boots_end_lem : BootsEnd
unfolding booted
boots_end_lem = record {
  freed = λ m many none.
      let b : Booting = begins_boot m in
      none_in (boot_harts m.shape.harts b).left.core.harts (λ j within. harts_free m.shape.harts b none j (omega (arith, within, boot_many m.shape.harts b, many)));
  held = λ m fault many some.
      let b : Booting = begins_boot m in
      let there = harts_hold m.shape.harts b (omega arith) fault some in
      some_in (boot_harts m.shape.harts b).left.core.harts there.0 (reset_hart 0 0) there.1.0 there.1.1;
}
