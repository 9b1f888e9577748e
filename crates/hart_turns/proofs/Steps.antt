-- One step after another.
use Rattle.std.proofs.Common.{◌≡◌, ℕ, ◌+◌, ◌*◌, Bool, true, false, refl, sym, ◌∙◌, subst, arith, add-one}
use Rattle.hart_turns.specs.declared.stepping.Stepping.{Stepping}
use Rattle.hart_turns.specs.Kept.{AfterSteps, KeepsForm, kept, progress_of}
use Rattle.hart_turns.specs.Turn.{Progress, all_steps, hart_steps, one_step}
use Rattle.hart_turns.proofs.Blind.{IsBlind, kept_on, one_blind, steps_blind}

pub same_form : (r : Stepping) → KeepsForm r r
same_form r = record { harts = refl; devices = refl; ram = refl; room = refl; places = refl }

pub form_on : (a b c : Stepping) → KeepsForm a b → KeepsForm b c → KeepsForm a c
form_on a b c one two = record {
  harts = two.harts ∙ one.harts;
  devices = two.devices ∙ one.devices;
  ram = two.ram ∙ one.ram;
  room = two.room ∙ one.room;
  places = two.places ∙ one.places;
}

own_events : (keeps : Bool) (r : Stepping) → progress_of r ≡ kept keeps r.events.items (progress_of r)
own_events true r = refl
own_events false r = refl

-- no step
pub no_steps : (keeps : Bool) (h : ℕ) (r : Stepping) → AfterSteps keeps r r (hart_steps h 0 (progress_of r)) 0
unfolding hart_steps
no_steps keeps h r = record { progress_is = own_events keeps r; form = same_form r; console = omega arith; events = omega arith }

pub no_harts : (keeps : Bool) (n : ℕ) (r : Stepping) → AfterSteps keeps r r (all_steps 0 n (progress_of r)) (0 * n)
unfolding all_steps
no_harts keeps n r = record { progress_is = own_events keeps r; form = same_form r; console = omega arith; events = omega arith }

-- some steps, and then more
joined : (keeps : Bool) (a b c : Stepping) (p : Progress) (go : Progress → Progress) → IsBlind go → (n k m : ℕ) → m ≡ n + k → AfterSteps keeps a b p n → AfterSteps keeps b c (go (progress_of b)) k → AfterSteps keeps a c (go p) m
joined keeps a b c p go blind n k m sum first then = record {
  progress_is = kept_on keeps go blind p (progress_of b) (progress_of c) a.events.items first.progress_is then.progress_is;
  form = form_on a b c first.form then.form;
  console = let one = first.console in let two = then.console in omega (arith, sum);
  events = let one = first.events in let two = then.events in omega (arith, sum);
}

pub one_more : (keeps : Bool) (h n : ℕ) (a b c : Stepping) (start : Progress) → AfterSteps keeps a b (hart_steps h n start) n → AfterSteps keeps b c (one_step h (progress_of b)) 1 → AfterSteps keeps a c (hart_steps h (n + 1) start) (n + 1)
unfolding hart_steps
one_more keeps h n a b c start first then =
    let both : AfterSteps keeps a c (one_step h (hart_steps h n start)) (n + 1) = joined keeps a b c (hart_steps h n start) (one_step h) (one_blind h) n 1 (n + 1) refl first then in
    subst (λ (p : Progress). AfterSteps keeps a c p (n + 1)) (sym (rw add-one refl)) both

pub one_hart_more : (keeps : Bool) (h n : ℕ) (a b c : Stepping) (start : Progress) → AfterSteps keeps a b (all_steps h n start) (h * n) → AfterSteps keeps b c (hart_steps h n (progress_of b)) n → AfterSteps keeps a c (all_steps (h + 1) n start) ((h + 1) * n)
unfolding all_steps
one_hart_more keeps h n a b c start first then =
    let sum : (h + 1) * n ≡ h * n + n = omega arith in
    let both : AfterSteps keeps a c (hart_steps h n (all_steps h n start)) ((h + 1) * n) = joined keeps a b c (all_steps h n start) (hart_steps h n) (steps_blind h n) (h * n) n ((h + 1) * n) sum first then in
    subst (λ (p : Progress). AfterSteps keeps a c p ((h + 1) * n)) (sym (rw add-one refl)) both
