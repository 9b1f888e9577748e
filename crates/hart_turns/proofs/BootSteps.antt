-- Boot steps of one hart, one after another.
use Rattle.std.proofs.Common.{◌≡◌, ℕ, suc, ◌+◌, ◌*◌, ◌-◌, ◌<◌, ◌≤◌, true, false, cond, length, sym, ap, ◌∙◌, arith, add_assoc, refl}
use Rattle.std.specs.Prelude.{Some, None}
use Rattle.hart_step.specs.Harts.{hart_of, is_in_debug}
use Rattle.hart_turns.specs.declared.booting.BootFault.TheVariants.{Trap, Long}
use Rattle.hart_turns.specs.declared.stepping.Stepping.{Stepping}
use Rattle.hart_turns.specs.Boot.{Booting, Frees, Leads, boot_hart, boot_step, most_steps, onward, step_exception}
use Rattle.hart_turns.specs.Kept.{KeepsForm, booting_of}
use Rattle.hart_turns.proofs.Steps.{form_on, same_form}

-- ---- over the definitions

-- a step after which the hart is in debug mode still
pub hart_goes : (fuel h : ℕ) (b b' : Booting) → boot_step h b ≡ b' → step_exception h b ≡ None → is_in_debug (hart_of b'.core h) ≡ true → boot_hart (suc fuel) h b ≡ boot_hart fuel h b'
unfolding boot_hart
hart_goes fuel h b b' step none debugs =
    ap (λ e. onward h e (boot_step h b) (boot_hart fuel h)) none
    ∙ ap (λ x. onward h None x (boot_hart fuel h)) step
    ∙ ap (λ c. cond c (boot_hart fuel h b') (record { left = b'; fault = None })) debugs

-- a step after which it is not
pub hart_frees : (fuel h : ℕ) (b b' : Booting) → boot_step h b ≡ b' → step_exception h b ≡ None → is_in_debug (hart_of b'.core h) ≡ false → boot_hart (suc fuel) h b ≡ record { left = b'; fault = None }
unfolding boot_hart
hart_frees fuel h b b' step none debugs =
    ap (λ e. onward h e (boot_step h b) (boot_hart fuel h)) none
    ∙ ap (λ x. onward h None x (boot_hart fuel h)) step
    ∙ ap (λ c. cond c (boot_hart fuel h b') (record { left = b'; fault = None })) debugs

-- a step that meets an exception
pub hart_traps : (fuel h pc cause : ℕ) (b b' : Booting) → boot_step h b ≡ b' → step_exception h b ≡ Some (pc, cause) → boot_hart (suc fuel) h b ≡ record { left = b'; fault = Some (Trap h pc cause) }
unfolding boot_hart
hart_traps fuel h pc cause b b' step some =
    ap (λ e. onward h e (boot_step h b) (boot_hart fuel h)) some
    ∙ ap (λ x. record { left = x; fault = Some (Trap h pc cause) }) step

-- steps that lead on, and then more
pub leads_join : (h a c : ℕ) (b b' b'' : Booting) → Leads h a b b' → Leads h c b' b'' → Leads h (a + c) b b''
leads_join h a c b b' b'' first second left = ap (λ n. boot_hart n h b) (add_assoc a c left) ∙ first (c + left) ∙ second left

pub frees_join : (h a c : ℕ) (b b' b'' : Booting) → Leads h a b b' → Frees h c b' b'' → Frees h (a + c) b b''
frees_join h a c b b' b'' first second left = ap (λ n. boot_hart n h b) (add_assoc a c left) ∙ first (c + left) ∙ second left

-- steps that are no more than the most
pub frees_within : (h n most : ℕ) (b b' : Booting) → Frees h n b b' → n ≤ most → boot_hart most h b ≡ record { left = b'; fault = None }
frees_within h n most b b' frees fits =
    let same : n + (most - n) ≡ most = omega arith in ap (λ k. boot_hart k h b) (sym same) ∙ frees (most - n)

-- ---- over what the code keeps

-- a hart on its way: what is left of its boot is what is left from here
pub record OnItsWay (h : ℕ) (start now : Stepping) (first steps made : ℕ) : Type 0 where
  pub same : boot_hart most_steps h (booting_of start first) ≡ boot_hart (most_steps - made) h (booting_of now steps)
  pub form : KeepsForm start now
  pub sent : length now.outside.output.bytes ≤ length start.outside.output.bytes + 256 * made
  pub count : steps ≡ first + made

pub begins : (h : ℕ) (start : Stepping) (first : ℕ) → OnItsWay h start start first first 0
begins h start first = record { same = refl; form = same_form start; sent = omega arith; count = omega arith }

-- one step was made
pub record Made (h : ℕ) (before after : Stepping) : Type 0 where
  pub step : booting_of after 1 ≡ boot_step h (booting_of before 0)
  pub form : KeepsForm before after
  pub sent : length after.outside.output.bytes ≤ length before.outside.output.bytes + 256

counted : (h steps : ℕ) (before after : Stepping) → Made h before after → boot_step h (booting_of before steps) ≡ booting_of after (steps + 1)
counted h steps before after made = ap (λ (b : Booting). record b { steps = steps + 1 }) (sym made.step)

fuel_left : (made : ℕ) → made < most_steps → most_steps - made ≡ suc (most_steps - (made + 1))
fuel_left made within = omega arith

-- what is left of a hart's boot at its next step
at_step : (h : ℕ) (start before : Stepping) (first steps made : ℕ) → OnItsWay h start before first steps made → made < most_steps → boot_hart most_steps h (booting_of start first) ≡ boot_hart (suc (most_steps - (made + 1))) h (booting_of before steps)
at_step h start before first steps made way within = way.same ∙ ap (λ n. boot_hart n h (booting_of before steps)) (fuel_left made within)

pub goes_on : (h : ℕ) (start before after : Stepping) (first steps made : ℕ) → OnItsWay h start before first steps made → made < most_steps → Made h before after → step_exception h (booting_of before 0) ≡ None → is_in_debug (hart_of after.core h) ≡ true → OnItsWay h start after first (steps + 1) (made + 1)
goes_on h start before after first steps made way within one none debugs = record {
  same = at_step h start before first steps made way within
      ∙ hart_goes (most_steps - (made + 1)) h (booting_of before steps) (booting_of after (steps + 1)) (counted h steps before after one) none debugs;
  form = form_on start before after way.form one.form;
  sent = let a = way.sent in let b = one.sent in omega arith;
  count = let a = way.count in omega arith;
}

pub frees_here : (h : ℕ) (start before after : Stepping) (first steps made : ℕ) → OnItsWay h start before first steps made → made < most_steps → Made h before after → step_exception h (booting_of before 0) ≡ None → is_in_debug (hart_of after.core h) ≡ false → boot_hart most_steps h (booting_of start first) ≡ record { left = booting_of after (steps + 1); fault = None }
frees_here h start before after first steps made way within one none debugs =
    at_step h start before first steps made way within
    ∙ hart_frees (most_steps - (made + 1)) h (booting_of before steps) (booting_of after (steps + 1)) (counted h steps before after one) none debugs

pub traps_here : (h pc cause : ℕ) (start before after : Stepping) (first steps made : ℕ) → OnItsWay h start before first steps made → made < most_steps → Made h before after → step_exception h (booting_of before 0) ≡ Some (pc, cause) → boot_hart most_steps h (booting_of start first) ≡ record { left = booting_of after (steps + 1); fault = Some (Trap h pc cause) }
traps_here h pc cause start before after first steps made way within one some =
    at_step h start before first steps made way within
    ∙ hart_traps (most_steps - (made + 1)) h pc cause (booting_of before steps) (booting_of after (steps + 1)) (counted h steps before after one) some

pub long_here : (h : ℕ) (start now : Stepping) (first steps made : ℕ) → OnItsWay h start now first steps made → made ≡ most_steps → boot_hart most_steps h (booting_of start first) ≡ record { left = booting_of now steps; fault = Some (Long h) }
unfolding boot_hart
long_here h start now first steps made way all =
    let none : most_steps - made ≡ 0 = omega arith in way.same ∙ ap (λ n. boot_hart n h (booting_of now steps)) none
