-- Nothing is wrong with a record exactly where it is allowed, and what is wrong has two values that differ.
use Rattle.std.proofs.Common.{◌≡◌, ℕ, ◌<◌, Bool, true, false, not, if◌then◌else◌, cond, List, [], ◌∷◌, length, refl, sym, ap, ◌∙◌, arith}
use Rattle.std.specs.Prelude.{Option, Some, None, find, nat_lt}
use Rattle.std.proofs.lemmas.Bool.{false≢true, ltb-true, ltb-false}
use Rattle.hart_step.specs.declared.event.Event.{Event}
use Rattle.hart_step.specs.declared.event.Event.TheVariants.{Commit, Exception, Interrupt, Host}
use Rattle.hart_step.specs.Harts.{CoreState}
use Rattle.cosim_check.specs.declared.verdict.Field.{Field}
use Rattle.cosim_check.specs.declared.record.Fault.{Fault}
use Rattle.cosim_check.specs.Fields.{differs_in, fields_in_order, first_difference, is_same, value_of}
use Rattle.cosim_check.specs.Records.{Allows, difference, fault_in, fault_of, host_takes, may_interrupt, no_hart, not_taken, other_word, retold}
use Rattle.cosim_check.specs.Laws.{FaultsFound}
use Rattle.cosim_check.proofs.Differences.{same_event, same_value}
use Rattle.cosim_check.proofs.Itself.{no_difference, same_itself}

pub some_none : (f : Fault) → ◌≡◌ {A = Option Fault} (Some f) None → ⊥
some_none f is = cc

-- ---- nothing is wrong exactly where a record is allowed

same_by : (a b : Event) → (d : Option Field) → first_difference a b ≡ d → fault_in a b d ≡ None → a ≡ b
same_by a b None one none = same_event a b one
same_by a b (Some field) one none = absurd (some_none _ none)

instruction_allowed : (core : CoreState) (h : ℕ) (e : Event) (b : Bool) → nat_lt h (length core.harts) ≡ b → (if b then difference (retold core h e).event e else Some (no_hart h)) ≡ None → (h < length core.harts) × ((retold core h e).event ≡ e)
instruction_allowed core h e true within none =
    (ltb-true h (length core.harts) within, same_by (retold core h e).event e (first_difference (retold core h e).event e) refl none)
instruction_allowed core h e false within none = absurd (some_none _ none)

instruction_right : (core : CoreState) (h : ℕ) (e : Event) (b : Bool) → nat_lt h (length core.harts) ≡ b → h < length core.harts → (retold core h e).event ≡ e → (if b then difference (retold core h e).event e else Some (no_hart h)) ≡ None
instruction_right core h e true within less same = ap (fault_in (retold core h e).event e) (no_difference (retold core h e).event e same)
instruction_right core h e false within less same = absurd (let past = ltb-false h (length core.harts) within in omega arith)

abbrev taken_fault : ℕ → ℕ → Bool → Bool → Option Fault
taken_fault h cause within may = if within then (if may then None else Some (not_taken cause)) else Some (no_hart h)

interrupt_allowed : (h count cause : ℕ) (b may : Bool) → nat_lt h count ≡ b → taken_fault h cause b may ≡ None → (h < count) × (may ≡ true)
interrupt_allowed h count cause true true within none = (ltb-true h count within, refl)
interrupt_allowed h count cause true false within none = absurd (some_none _ none)
interrupt_allowed h count cause false may within none = absurd (some_none _ none)

interrupt_right : (h count cause : ℕ) (b may : Bool) → nat_lt h count ≡ b → h < count → may ≡ true → taken_fault h cause b may ≡ None
interrupt_right h count cause true true within less can = refl
interrupt_right h count cause true false within less can = absurd (false≢true can)
interrupt_right h count cause false may within less can = absurd (let past = ltb-false h count within in omega arith)

abbrev word_fault : ℕ → Option ℕ → Bool → Option Fault
word_fault word takes same = if same then None else Some (other_word takes word)

host_allowed : (word : ℕ) (takes : Option ℕ) (b : Bool) → is_same takes (Some word) ≡ b → word_fault word takes b ≡ None → takes ≡ Some word
host_allowed word takes true same none = same_value takes (Some word) same
host_allowed word takes false same none = absurd (some_none _ none)

host_right : (word : ℕ) (takes : Option ℕ) (b : Bool) → is_same takes (Some word) ≡ b → takes ≡ Some word → word_fault word takes b ≡ None
host_right word takes true same takes_it = refl
host_right word takes false same takes_it =
    absurd (false≢true (sym same ∙ ap (λ (t : Option ℕ). is_same t (Some word)) takes_it ∙ same_itself (Some word)))

pub allowed_where : (core : CoreState) (tohost : ℕ) (e : Event) → fault_of core tohost e ≡ None → Allows core tohost e
unfolding fault_of
allowed_where core tohost (Commit h mode pc insn rd st dv vl) none = instruction_allowed core h (Commit h mode pc insn rd st dv vl) (nat_lt h (length core.harts)) refl none
allowed_where core tohost (Exception h mode pc cause tval) none = instruction_allowed core h (Exception h mode pc cause tval) (nat_lt h (length core.harts)) refl none
allowed_where core tohost (Interrupt h cause) none = interrupt_allowed h (length core.harts) cause (nat_lt h (length core.harts)) (may_interrupt core h cause) refl none
allowed_where core tohost (Host word) none = host_allowed word (host_takes core tohost) (is_same (host_takes core tohost) (Some word)) refl none

pub right_where : (core : CoreState) (tohost : ℕ) (e : Event) → Allows core tohost e → fault_of core tohost e ≡ None
unfolding fault_of
right_where core tohost (Commit h mode pc insn rd st dv vl) ok = instruction_right core h (Commit h mode pc insn rd st dv vl) (nat_lt h (length core.harts)) refl ok.0 ok.1
right_where core tohost (Exception h mode pc cause tval) ok = instruction_right core h (Exception h mode pc cause tval) (nat_lt h (length core.harts)) refl ok.0 ok.1
right_where core tohost (Interrupt h cause) ok = interrupt_right h (length core.harts) cause (nat_lt h (length core.harts)) (may_interrupt core h cause) refl ok.0 ok.1
right_where core tohost (Host word) ok = host_right word (host_takes core tohost) (is_same (host_takes core tohost) (Some word)) refl ok

pub faults_found : FaultsFound
faults_found = record { allowed = allowed_where; faultless = right_where }

-- ---- a refused record shows another value

abbrev pub Differ : Option Fault → Type 0
Differ None = Unit {0}
Differ (Some f) = f.allowed ≡ f.given → ⊥

find_cases : (p : Field → Bool) (x : Field) (rest : Option Field) (f : Field) (b : Bool) → (rest ≡ Some f → p f ≡ true) → p x ≡ b → cond b (Some x) rest ≡ Some f → p f ≡ true
find_cases p x rest f true later one is = let same : x ≡ f = cc in ap p (sym same) ∙ one
find_cases p x rest f false later one is = later is

find_holds : (p : Field → Bool) (fs : List Field) (f : Field) → find p fs ≡ Some f → p f ≡ true
find_holds p [] f is = cc
find_holds p (x ∷ fs) f is = find_cases p x (find p fs) f (p x) (find_holds p fs f) refl is

differ_by : (a b : Option ℕ) → not (is_same a b) ≡ true → a ≡ b → ⊥
differ_by a b other same = false≢true (sym (ap not (ap (λ (x : Option ℕ). is_same x b) same ∙ same_itself b)) ∙ other)

differ_in : (a b : Event) (d : Option Field) → first_difference a b ≡ d → Differ (fault_in a b d)
unfolding first_difference
differ_in a b None one = tt
differ_in a b (Some f) one = differ_by (value_of f a) (value_of f b) (find_holds (differs_in a b) fields_in_order f one)

none_some : (n : ℕ) → ◌≡◌ {A = Option ℕ} None (Some n) → ⊥
none_some n is = cc

instruction_differs : (core : CoreState) (h : ℕ) (e : Event) (b : Bool) → Differ (if b then difference (retold core h e).event e else Some (no_hart h))
instruction_differs core h e true = differ_in (retold core h e).event e (first_difference (retold core h e).event e) refl
instruction_differs core h e false = none_some h

interrupt_differs : (h cause : ℕ) (b may : Bool) → Differ (taken_fault h cause b may)
interrupt_differs h cause true true = tt
interrupt_differs h cause true false = none_some cause
interrupt_differs h cause false may = none_some h

host_differs : (word : ℕ) (takes : Option ℕ) (b : Bool) → is_same takes (Some word) ≡ b → Differ (word_fault word takes b)
host_differs word takes true same = tt
host_differs word takes false same = differ_by takes (Some word) (ap not same)

pub fault_differs : (core : CoreState) (tohost : ℕ) (e : Event) → Differ (fault_of core tohost e)
unfolding fault_of
fault_differs core tohost (Commit h mode pc insn rd st dv vl) = instruction_differs core h (Commit h mode pc insn rd st dv vl) (nat_lt h (length core.harts))
fault_differs core tohost (Exception h mode pc cause tval) = instruction_differs core h (Exception h mode pc cause tval) (nat_lt h (length core.harts))
fault_differs core tohost (Interrupt h cause) = interrupt_differs h cause (nat_lt h (length core.harts)) (may_interrupt core h cause)
fault_differs core tohost (Host word) = host_differs word (host_takes core tohost) (is_same (host_takes core tohost) (Some word)) refl
