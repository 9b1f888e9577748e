-- Which harts a boot moves, and in which order.
use Rattle.std.proofs.Common.{◌≡◌, ◌≢◌, ℕ, zero, suc, ◌<◌, ⊎_elim, Bool, true, false, cond, List, [], ◌∷◌, length, map, refl, ap, ◌∙◌, arith}
use Rattle.std.specs.Prelude.{Option, Some, None, nat_lt}
use Rattle.std.specs.List.{position, position_or_len}
use Rattle.std.proofs.lemmas.List.Sums.{position_or_len_is}
use Rattle.std.proofs.Math.ListN.{get_or}
use Rattle.std.proofs.lemmas.Bool.{cases_eq, lt-ltb}
use Rattle.std.proofs.lemmas.List.{get_or-set_other, length-map, length-set}
use Rattle.hart_step.specs.declared.event.Put.{Put}
use Rattle.hart_step.specs.declared.hart.Hart.{Hart}
use Rattle.hart_step.specs.Answers.{Given}
use Rattle.hart_step.specs.Harts.{CoreState, hart_of, is_in_debug, reset_hart}
use Rattle.hart_step.specs.Step.{HartAnswer, after_store, hart_step, is_touched, memory_of, step, without_reservation}
use Rattle.hart_turns.specs.declared.booting.BootFault.{BootFault}
use Rattle.hart_turns.specs.Boot.{Booted, Booting, boot_hart, boot_harts, boot_step, boots_next, most_steps, onward, step_exception}
use Rattle.hart_turns.specs.Gives.{board_gives}

-- ---- a step and the other harts

lost : (touched : Bool) (x : Hart) → is_in_debug (cond touched (record x { reservation = None }) x) ≡ is_in_debug x
lost true x = refl
lost false x = refl

lost_at : (at size : ℕ) (harts : List Hart) (j : ℕ) (d : Hart) → is_in_debug (get_or (map (without_reservation at size) harts) j d) ≡ is_in_debug (get_or harts j d)
lost_at at size [] j d = refl
lost_at at size (x ∷ harts) zero d = lost (is_touched at size x.reservation) x
lost_at at size (x ∷ harts) (suc j) d = lost_at at size harts j d

after_at : (put : Option Put) (harts : List Hart) (j : ℕ) (d : Hart) → is_in_debug (get_or (after_store put harts) j d) ≡ is_in_debug (get_or harts j d)
after_at None harts j d = refl
after_at (Some put) harts j d = lost_at put.at put.size harts j d

-- a step brings no other hart into debug mode or out of it
pub others_stay : (given : Given) (core : CoreState) (h j : ℕ) → j ≢ h → is_in_debug (hart_of (step given core h).core j) ≡ is_in_debug (hart_of core j)
unfolding step
others_stay given core h j other =
    let a : HartAnswer = hart_step given (length core.harts) h (hart_of core h) (memory_of core) in
    ap is_in_debug (get_or-set_other (after_store a.stored core.harts) h j a.hart (reset_hart 0 0) other) ∙ after_at a.stored core.harts j (reset_hart 0 0)

pub after_length : (put : Option Put) (harts : List Hart) → length (after_store put harts) ≡ length harts
after_length None harts = refl
after_length (Some put) harts = length-map harts (without_reservation put.at put.size)

pub harts_stay : (given : Given) (core : CoreState) (h : ℕ) → length (step given core h).core.harts ≡ length core.harts
unfolding step
harts_stay given core h =
    let a : HartAnswer = hart_step given (length core.harts) h (hart_of core h) (memory_of core) in
    length-set (after_store a.stored core.harts) h a.hart ∙ after_length a.stored core.harts

-- ---- what each step keeps, a boot keeps

choose : (P : Booting → Type 0) (c : Bool) (x y : Booted) → P x.left → P y.left → P (cond c x y).left
choose P true x y first second = first
choose P false x y first second = second

keeps_onward : (P : Booting → Type 0) (h : ℕ) (e : Option (ℕ × ℕ)) (b : Booting) (go : Booting → Booted) → P b → P (go b).left → P (onward h e b go).left
keeps_onward P h (Some p) b go here there = here
keeps_onward P h None b go here there = choose P (is_in_debug (hart_of b.core h)) (go b) (record { left = b; fault = None }) there here

-- by the steps of hart h
pub boot_keeps : (P : Booting → Type 0) (h : ℕ) → ((b : Booting) → P b → P (boot_step h b)) → (fuel : ℕ) (b : Booting) → P b → P (boot_hart fuel h b).left
unfolding boot_hart
boot_keeps P h each zero b holds = holds
boot_keeps P h each (suc fuel) b holds =
    keeps_onward P h (step_exception h b) (boot_step h b) (boot_hart fuel h) (each b holds) (boot_keeps P h each fuel (boot_step h b) (each b holds))

keeps_next : (P : Booting → Type 0) (n : ℕ) (x : Booting) (f : Option BootFault) → ((b : Booting) → P b → P (boot_step n b)) → P x → P (boots_next n x f).left
keeps_next P n x (Some fault) each holds = holds
keeps_next P n x None each holds =
    choose P (is_in_debug (hart_of x.core n)) (boot_hart most_steps n x) (record { left = x; fault = None }) (boot_keeps P n each most_steps x holds) holds

-- by those of the first n harts
pub boots_keep : (P : Booting → Type 0) (n : ℕ) → ((h : ℕ) (b : Booting) → h < n → P b → P (boot_step h b)) → (b : Booting) → P b → P (boot_harts n b).left
unfolding boot_harts
boots_keep P zero each b holds = holds
boots_keep P (suc n) each b holds =
    keeps_next P n (boot_harts n b).left (boot_harts n b).fault (λ c. each n c (omega arith))
    (boots_keep P n (λ h c below. each h c (omega arith)) b holds)

-- how many harts there are
pub boot_many : (n : ℕ) (b : Booting) → length (boot_harts n b).left.core.harts ≡ length b.core.harts
boot_many n b = boots_keep (λ y. length y.core.harts ≡ length b.core.harts) n (λ h y below e. harts_stay (board_gives y.board h (hart_of y.core h)) y.core h ∙ e) b refl

-- ---- harts that are freed

-- hart j is out of debug mode
abbrev pub Out : ℕ → Booting → Type 0
Out j b = is_in_debug (hart_of b.core j) ≡ false

frees_choice : (h : ℕ) (c : Bool) (b : Booting) (go : Booting → Booted) → is_in_debug (hart_of b.core h) ≡ c → ((go b).fault ≡ None → Out h (go b).left) → (cond c (go b) (record { left = b; fault = None })).fault ≡ None → Out h (cond c (go b) (record { left = b; fault = None })).left
frees_choice h true b go is rest none = rest none
frees_choice h false b go is rest none = is

frees_onward : (h : ℕ) (e : Option (ℕ × ℕ)) (b : Booting) (go : Booting → Booted) → ((go b).fault ≡ None → Out h (go b).left) → (onward h e b go).fault ≡ None → Out h (onward h e b go).left
frees_onward h (Some p) b go rest none = absurd (cc)
frees_onward h None b go rest none = frees_choice h (is_in_debug (hart_of b.core h)) b go refl rest none

boot_frees : (fuel h : ℕ) (b : Booting) → (boot_hart fuel h b).fault ≡ None → Out h (boot_hart fuel h b).left
unfolding boot_hart
boot_frees zero h b none = absurd (cc)
boot_frees (suc fuel) h b none = frees_onward h (step_exception h b) (boot_step h b) (boot_hart fuel h) (boot_frees fuel h (boot_step h b)) none

stays_out : (j n : ℕ) → j ≢ n → (b : Booting) → Out j b → Out j (boot_step n b)
stays_out j n other b out = others_stay (board_gives b.board n (hart_of b.core n)) b.core n j other ∙ out

next_choice : (n : ℕ) (c : Bool) (x : Booting) → is_in_debug (hart_of x.core n) ≡ c → ((j : ℕ) → j < n → Out j x) → (cond c (boot_hart most_steps n x) (record { left = x; fault = None })).fault ≡ None → (j : ℕ) → j < suc n → Out j (cond c (boot_hart most_steps n x) (record { left = x; fault = None })).left
next_choice n true x is before none j below = ⊎_elim
    (λ e. ap (λ i. is_in_debug (hart_of (boot_hart most_steps n x).left.core i)) e ∙ boot_frees most_steps n x none)
    (λ a. boot_keeps (Out j) n (stays_out j n a) most_steps x (before j (omega arith)))
    (cases_eq j n)
next_choice n false x is before none j below = ⊎_elim (λ e. ap (λ i. is_in_debug (hart_of x.core i)) e ∙ is) (λ a. before j (omega arith)) (cases_eq j n)

next_frees : (n : ℕ) (x : Booting) (f : Option BootFault) → (f ≡ None → (j : ℕ) → j < n → Out j x) → (boots_next n x f).fault ≡ None → (j : ℕ) → j < suc n → Out j (boots_next n x f).left
next_frees n x (Some fault) before none j below = absurd (cc)
next_frees n x None before none j below = next_choice n (is_in_debug (hart_of x.core n)) x refl (before refl) none j below

-- without a fault the first n harts are out of debug mode
pub harts_free : (n : ℕ) (b : Booting) → (boot_harts n b).fault ≡ None → (j : ℕ) → j < n → Out j (boot_harts n b).left
unfolding boot_harts
harts_free zero b none j below = absurd (omega arith)
harts_free (suc n) b none j below = next_frees n (boot_harts n b).left (boot_harts n b).fault (harts_free n b) none j below

-- ---- which hart steps

-- the first hart in debug mode is the lowest
pub lowest_is : (harts : List Hart) (h : ℕ) → h < length harts → ((j : ℕ) → j < h → is_in_debug (get_or harts j (reset_hart 0 0)) ≡ false) → is_in_debug (get_or harts h (reset_hart 0 0)) ≡ true → position is_in_debug harts ≡ Some h
lowest_is harts h inside before here =
    let place : position_or_len is_in_debug harts ≡ h = position_or_len_is is_in_debug harts h (reset_hart 0 0) (omega arith) before (λ within. here) in
    ap (λ i. cond (nat_lt i (length harts)) (Some i) None) place ∙ ap (λ b. cond b (Some h) None) (lt-ltb h (length harts) inside)

-- the harts below n are out of debug mode, and there is a hart n
abbrev pub At : ℕ → Booting → Type 0
At n b = ((j : ℕ) → j < n → Out j b) × (n < length b.core.harts)

pub at_stays : (n : ℕ) (b : Booting) → At n b → At n (boot_step n b)
at_stays n b at = (λ j below. stays_out j n (omega arith) b (at.0 j below), omega (arith, at.1, harts_stay (board_gives b.board n (hart_of b.core n)) b.core n))
