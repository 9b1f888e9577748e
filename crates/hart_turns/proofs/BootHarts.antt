-- The boots of the harts, one after another.
use Rattle.std.proofs.Common.{◌≡◌, ℕ, zero, suc, ◌+◌, ◌*◌, ◌-◌, ◌<◌, ◌≤◌, true, false, cond, length, refl, sym, ap, ◌∙◌, arith, add-one}
use Rattle.std.specs.Prelude.{Option, Some, None}
use Rattle.hart_step.specs.Harts.{hart_of, is_in_debug}
use Rattle.hart_turns.specs.declared.booting.BootFault.{BootFault}
use Rattle.hart_turns.specs.declared.stepping.Stepping.{Stepping}
use Rattle.hart_turns.specs.Boot.{Booted, Booting, boot_hart, boot_harts, boots_next, most_steps}
use Rattle.hart_turns.specs.Kept.{KeepsForm, booting_of}
use Rattle.hart_turns.proofs.Steps.{form_on, same_form}

-- the first h harts have done their parts
pub record HaveBooted (h : ℕ) (start now : Stepping) (first steps : ℕ) : Type 0 where
  pub same : boot_harts h (booting_of start first) ≡ record { left = booting_of now steps; fault = None }
  pub form : KeepsForm start now
  pub sent : length now.outside.output.bytes ≤ length start.outside.output.bytes + 256 * (h * most_steps)
  pub count : steps ≤ first + h * most_steps

pub none_booted : (start : Stepping) (first : ℕ) → HaveBooted 0 start start first first
unfolding boot_harts
none_booted start first = record { same = refl; form = same_form start; sent = omega arith; count = omega arith }

-- a hart that is out of debug mode is passed over
pub passed : (h : ℕ) (start now : Stepping) (first steps : ℕ) → HaveBooted h start now first steps → is_in_debug (hart_of now.core h) ≡ false → HaveBooted (h + 1) start now first steps
unfolding boot_harts
passed h start now first steps have out = record {
  same = rw add-one (ap (λ (x : Booted). boots_next h x.left x.fault) have.same
      ∙ ap (λ c. cond c (boot_hart most_steps h (booting_of now steps)) (record { left = booting_of now steps; fault = None })) out);
  form = have.form;
  sent = let a = have.sent in omega arith;
  count = let a = have.count in omega arith;
}

-- what one hart's part leaves
pub record HartBoots (h : ℕ) (now after : Stepping) (steps more : ℕ) (fault : Option BootFault) : Type 0 where
  pub debugs : is_in_debug (hart_of now.core h) ≡ true
  pub fault_is : fault ≡ (boot_hart most_steps h (booting_of now steps)).fault
  pub left_is : booting_of after more ≡ (boot_hart most_steps h (booting_of now steps)).left

one_booted : (h : ℕ) (start now after : Stepping) (first steps more : ℕ) (fault : Option BootFault) → HaveBooted h start now first steps → HartBoots h now after steps more fault → boot_harts (suc h) (booting_of start first) ≡ record { left = booting_of after more; fault = fault }
unfolding boot_harts
one_booted h start now after first steps more fault have one =
    ap (λ (x : Booted). boots_next h x.left x.fault) have.same
    ∙ ap (λ c. cond c (boot_hart most_steps h (booting_of now steps)) (record { left = booting_of now steps; fault = None })) one.debugs
    ∙ ap (λ l. record { left = l; fault = (boot_hart most_steps h (booting_of now steps)).fault }) (sym one.left_is)
    ∙ ap (λ f. record { left = booting_of after more; fault = f }) (sym one.fault_is)

pub booted_on : (h : ℕ) (start now after : Stepping) (first steps more : ℕ) → HaveBooted h start now first steps → HartBoots h now after steps more None → KeepsForm now after → length after.outside.output.bytes ≤ length now.outside.output.bytes + 256 * most_steps → more ≤ steps + most_steps → HaveBooted (h + 1) start after first more
booted_on h start now after first steps more have one form sent count = record {
  same = rw add-one (one_booted h start now after first steps more None have one);
  form = form_on start now after have.form form;
  sent = let a = have.sent in omega arith;
  count = let a = have.count in omega arith;
}

-- a boot that has ended stays
stays : (k n : ℕ) (b b' : Booting) (fault : BootFault) → boot_harts n b ≡ record { left = b'; fault = Some fault } → boot_harts (k + n) b ≡ record { left = b'; fault = Some fault }
unfolding boot_harts
stays zero n b b' fault ended = let e : 0 + n ≡ n = omega arith in ap (λ m. boot_harts m b) e ∙ ended
stays (suc k) n b b' fault ended =
    let e : suc k + n ≡ suc (k + n) = omega arith in
    ap (λ m. boot_harts m b) e ∙ ap (λ (x : Booted). boots_next (k + n) x.left x.fault) (stays k n b b' fault ended)

pub ended_here : (h harts : ℕ) (start now after : Stepping) (first steps more : ℕ) (fault : BootFault) → h < harts → HaveBooted h start now first steps → HartBoots h now after steps more (Some fault) → boot_harts harts (booting_of start first) ≡ record { left = booting_of after more; fault = Some fault }
ended_here h harts start now after first steps more fault within have one =
    let e : harts ≡ (harts - suc h) + suc h = omega arith in
    ap (λ n. boot_harts n (booting_of start first)) e
    ∙ stays (harts - suc h) (suc h) (booting_of start first) (booting_of after more) fault (one_booted h start now after first steps more (Some fault) have one)
