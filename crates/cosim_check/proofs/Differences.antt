-- No difference in any field means the same record.
use Rattle.std.proofs.Common.{◌≡◌, ℕ, Bool, true, false, not, List, [], ◌∷◌, ◌<◌, cond, refl, ap, arith, inl, inr}
use Rattle.std.specs.Prelude.{Option, Some, None, find, ◌⊎◌}
use Rattle.std.proofs.lemmas.Bool.{eqb-true, false≢true}
use Rattle.hart_step.specs.declared.event.Event.{Event}
use Rattle.hart_step.specs.declared.event.Event.TheVariants.{Commit, Exception, Interrupt, Host}
use Rattle.hart_step.specs.declared.event.Priv.{Priv}
use Rattle.hart_step.specs.declared.event.Priv.TheVariants as privileges
use Rattle.hart_step.specs.declared.event.Put.{Put}
use Rattle.cosim_check.specs.declared.verdict.Field.{Field}
use Rattle.cosim_check.specs.declared.verdict.Field.TheVariants as fields
use Rattle.cosim_check.specs.Fields.{differs_in, fields_in_order, first_difference, is_same, mode_number, register_shown, store_shown, value_of, value_shown}

pub same_value : (a b : Option ℕ) → is_same a b ≡ true → a ≡ b
same_value None None is = refl
same_value None (Some b) is = absurd (false≢true is)
same_value (Some a) None is = absurd (false≢true is)
same_value (Some a) (Some b) is = ap (λ (n : ℕ). Some n) (eqb-true a b is)

-- every field of a list is the same where none was found to differ
abbrev AllSame : Event → Event → List Field → Type 0
AllSame a b [] = Unit {0}
AllSame a b (f ∷ fs) = (value_of f a ≡ value_of f b) × AllSame a b fs

head_same : (a b : Event) (f : Field) (rest : Option Field) (c : Bool) → is_same (value_of f a) (value_of f b) ≡ c → cond (not c) (Some f) rest ≡ None → (value_of f a ≡ value_of f b) × (rest ≡ None)
head_same a b f rest true is none = (same_value (value_of f a) (value_of f b) is, none)
head_same a b f rest false is none = let h : Some f ≡ None = none in cc

all_same : (a b : Event) (fs : List Field) → find (differs_in a b) fs ≡ None → AllSame a b fs
all_same a b [] none = tt
all_same a b (f ∷ fs) none =
    let h = head_same a b f (find (differs_in a b) fs) (is_same (value_of f a) (value_of f b)) refl none in
    (h.0, all_same a b fs h.1)

same_mode : (a b : Priv) → mode_number a ≡ mode_number b → a ≡ b
same_mode privileges.U privileges.U is = refl
same_mode privileges.U privileges.S is = absurd (omega arith)
same_mode privileges.U privileges.M is = absurd (omega arith)
same_mode privileges.U privileges.D is = absurd (omega arith)
same_mode privileges.S privileges.U is = absurd (omega arith)
same_mode privileges.S privileges.S is = refl
same_mode privileges.S privileges.M is = absurd (omega arith)
same_mode privileges.S privileges.D is = absurd (omega arith)
same_mode privileges.M privileges.U is = absurd (omega arith)
same_mode privileges.M privileges.S is = absurd (omega arith)
same_mode privileges.M privileges.M is = refl
same_mode privileges.M privileges.D is = absurd (omega arith)
same_mode privileges.D privileges.U is = absurd (omega arith)
same_mode privileges.D privileges.S is = absurd (omega arith)
same_mode privileges.D privileges.M is = absurd (omega arith)
same_mode privileges.D privileges.D is = refl

some_same : (a b : ℕ) → ◌≡◌ {A = Option ℕ} (Some a) (Some b) → a ≡ b
some_same a b is = cc

same_write : (a b : Option (ℕ × ℕ)) → register_shown a ≡ register_shown b → value_shown a ≡ value_shown b → a ≡ b
same_write None None one two = refl
same_write None (Some y) one two = cc
same_write (Some x) None one two = cc
same_write (Some x) (Some y) one two = let a = some_same x.0 y.0 one in let b = some_same x.1 y.1 two in rw (a, b) refl

same_store : (a b : Option Put) → store_shown (λ put. put.at) a ≡ store_shown (λ put. put.at) b → store_shown (λ put. put.size) a ≡ store_shown (λ put. put.size) b → store_shown (λ put. put.value) a ≡ store_shown (λ put. put.value) b → a ≡ b
same_store None None one two three = refl
same_store None (Some y) one two three = cc
same_store (Some x) None one two three = cc
same_store (Some x) (Some y) one two three = let a = some_same x.at y.at one in let b = some_same x.size y.size two in let c = some_same x.value y.value three in rw (a, b, c) refl

-- each field is in the list
in_each : (a b : Event) → AllSame a b fields_in_order → (f : Field) → value_of f a ≡ value_of f b
in_each a b same fields.Hart = same.0
in_each a b same fields.Kind = same.1.0
in_each a b same fields.Mode = same.1.1.0
in_each a b same fields.Pc = same.1.1.1.0
in_each a b same fields.Insn = same.1.1.1.1.0
in_each a b same fields.Rd = same.1.1.1.1.1.0
in_each a b same fields.Value = same.1.1.1.1.1.1.0
in_each a b same fields.StoreAt = same.1.1.1.1.1.1.1.0
in_each a b same fields.StoreSize = same.1.1.1.1.1.1.1.1.0
in_each a b same fields.StoreValue = same.1.1.1.1.1.1.1.1.1.0
in_each a b same fields.Device = same.1.1.1.1.1.1.1.1.1.1.0
in_each a b same fields.Volatile = same.1.1.1.1.1.1.1.1.1.1.1.0
in_each a b same fields.Cause = same.1.1.1.1.1.1.1.1.1.1.1.1.0
in_each a b same fields.Tval = same.1.1.1.1.1.1.1.1.1.1.1.1.1.0
in_each a b same fields.Host = same.1.1.1.1.1.1.1.1.1.1.1.1.1.1.0

other_kinds : (a b : ℕ) → (a < b) ⊎ (b < a) → ◌≡◌ {A = Option ℕ} (Some a) (Some b) → ⊥
other_kinds a b (inl less) same = let k = some_same a b same in omega arith
other_kinds a b (inr more) same = let k = some_same a b same in omega arith

by_kind : (a b : Event) → ((f : Field) → value_of f a ≡ value_of f b) → a ≡ b
by_kind (Commit h m pc insn rd st dv vl) (Commit h2 m2 pc2 insn2 rd2 st2 dv2 vl2) same =
    let hart = some_same h h2 (same fields.Hart) in
    let mode = same_mode m m2 (some_same (mode_number m) (mode_number m2) (same fields.Mode)) in
    let place = some_same pc pc2 (same fields.Pc) in
    let word = some_same insn insn2 (same fields.Insn) in
    let write = same_write rd rd2 (same fields.Rd) (same fields.Value) in
    let store = same_store st st2 (same fields.StoreAt) (same fields.StoreSize) (same fields.StoreValue) in
    let device : dv ≡ dv2 = same fields.Device in
    let volatile : vl ≡ vl2 = same fields.Volatile in
    cc
by_kind (Exception h m pc cause tval) (Exception h2 m2 pc2 cause2 tval2) same =
    let hart = some_same h h2 (same fields.Hart) in
    let mode = same_mode m m2 (some_same (mode_number m) (mode_number m2) (same fields.Mode)) in
    let place = some_same pc pc2 (same fields.Pc) in
    let number = some_same cause cause2 (same fields.Cause) in
    let value = some_same tval tval2 (same fields.Tval) in
    cc
by_kind (Interrupt h cause) (Interrupt h2 cause2) same =
    let hart = some_same h h2 (same fields.Hart) in
    let number = some_same cause cause2 (same fields.Cause) in
    cc
by_kind (Host word) (Host word2) same = ap (λ (w : ℕ). Host w) (some_same word word2 (same fields.Host))
by_kind (Commit h m pc insn rd st dv vl) (Exception h2 m2 pc2 cause2 tval2) same = absurd (other_kinds 0 1 (inl (omega arith)) (same fields.Kind))
by_kind (Commit h m pc insn rd st dv vl) (Interrupt h2 cause2) same = absurd (other_kinds 0 2 (inl (omega arith)) (same fields.Kind))
by_kind (Commit h m pc insn rd st dv vl) (Host word2) same = absurd (other_kinds 0 3 (inl (omega arith)) (same fields.Kind))
by_kind (Exception h m pc cause tval) (Commit h2 m2 pc2 insn2 rd2 st2 dv2 vl2) same = absurd (other_kinds 1 0 (inr (omega arith)) (same fields.Kind))
by_kind (Exception h m pc cause tval) (Interrupt h2 cause2) same = absurd (other_kinds 1 2 (inl (omega arith)) (same fields.Kind))
by_kind (Exception h m pc cause tval) (Host word2) same = absurd (other_kinds 1 3 (inl (omega arith)) (same fields.Kind))
by_kind (Interrupt h cause) (Commit h2 m2 pc2 insn2 rd2 st2 dv2 vl2) same = absurd (other_kinds 2 0 (inr (omega arith)) (same fields.Kind))
by_kind (Interrupt h cause) (Exception h2 m2 pc2 cause2 tval2) same = absurd (other_kinds 2 1 (inr (omega arith)) (same fields.Kind))
by_kind (Interrupt h cause) (Host word2) same = absurd (other_kinds 2 3 (inl (omega arith)) (same fields.Kind))
by_kind (Host word) (Commit h2 m2 pc2 insn2 rd2 st2 dv2 vl2) same = absurd (other_kinds 3 0 (inr (omega arith)) (same fields.Kind))
by_kind (Host word) (Exception h2 m2 pc2 cause2 tval2) same = absurd (other_kinds 3 1 (inr (omega arith)) (same fields.Kind))
by_kind (Host word) (Interrupt h2 cause2) same = absurd (other_kinds 3 2 (inr (omega arith)) (same fields.Kind))

pub same_event : (a b : Event) → first_difference a b ≡ None → a ≡ b
unfolding first_difference
same_event a b none = by_kind a b (in_each a b (all_same a b fields_in_order none))
