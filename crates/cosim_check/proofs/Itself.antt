-- A record does not differ from itself.
use Rattle.std.proofs.Common.{◌≡◌, ℕ, Bool, true, false, not, List, [], ◌∷◌, refl, ap, ◌∙◌, sym, subst}
use Rattle.std.specs.Prelude.{Option, Some, None, find}
use Rattle.std.proofs.lemmas.Bool.{eq-eqb, cond-false}
use Rattle.std.proofs.lemmas.Option.{none-some}
use Rattle.board_bus.specs.Window.{host_says}
use Rattle.hart_step.specs.Harts.{CoreState}
use Rattle.hart_step.specs.declared.event.Event.{Event}
use Rattle.cosim_check.specs.Fields.{differs_in, fields_in_order, first_difference, is_same, value_of}
use Rattle.cosim_check.specs.Records.{host_takes}
use Rattle.cosim_check.specs.declared.verdict.Field.{Field}

pub same_itself : (a : Option ℕ) → is_same a a ≡ true
same_itself None = refl
same_itself (Some a) = eq-eqb a a refl

found_none : (p : Field → Bool) → ((f : Field) → p f ≡ false) → (fs : List Field) → find p fs ≡ None
found_none p fails [] = refl
found_none p fails (f ∷ fs) = cond-false (p f) (Some f) (find p fs) (fails f) ∙ found_none p fails fs

none_within : (e : Event) → first_difference e e ≡ None
unfolding first_difference
none_within e = found_none (differs_in e e) (λ f. ap not (same_itself (value_of f e))) fields_in_order

pub no_difference : (a b : Event) → a ≡ b → first_difference a b ≡ None
no_difference a b same = ap (λ (x : Event). first_difference a x) (sym same) ∙ none_within a

none_sent : (core : CoreState) (word : ℕ) → host_takes core 0 ≡ Some word → ⊥
unfolding host_says
none_sent core word takes = none-some word takes

-- a word is taken where the window is on
pub sent_on : (core : CoreState) (word : ℕ) (tohost : ℕ) → host_takes core tohost ≡ Some word → tohost ≡ 0 → ⊥
unfolding host_says
sent_on core word tohost takes off = absurd (none_sent core word (subst (λ (t : ℕ). host_takes core t ≡ Some word) off takes))
