-- The verdict in the words of records: the greatest prefix that passes, and what refuses the record after it.
use Rattle.std.specs.Prelude.{◌≡◌, ◌≤◌, ℕ, zero, suc, Bool, true, false, List, [], ◌∷◌, ◌++◌, length, take, Some, None, IsFalse, IsTrue}
use Rattle.hart_step.specs.declared.event.Event.{Event}
use Rattle.hart_step.specs.Harts.{CoreState}
use Rattle.commit_log.specs.Column.{IsColumn}
use Rattle.commit_log.specs.Spelling.{IsSpellable, line}
use Rattle.cosim_check.specs.declared.verdict.Verdict.{Verdict}
use Rattle.cosim_check.specs.declared.verdict.Verdict.TheVariants.{Passing, Disallowed, BadLine, TooMany}
use Rattle.cosim_check.specs.Fields.{first_difference}
use Rattle.cosim_check.specs.Lines.{judged}
use Rattle.cosim_check.specs.Records.{Allows, core_past, fault_of}
use Rattle.cosim_check.specs.Verdicts.{IsFinal, deciding, goes_on, number, verdict_of}

-- ---- records

-- two records that differ in no field are one
abbrev pub FieldsTellAll : Type 0
FieldsTellAll = (a b : Event) → first_difference a b ≡ None → a ≡ b

-- nothing is wrong with a record exactly where it is allowed
pub record FaultsFound : Type 0 where
  pub allowed : (core : CoreState) (tohost : ℕ) (e : Event) → fault_of core tohost e ≡ None → Allows core tohost e
  pub faultless : (core : CoreState) (tohost : ℕ) (e : Event) → Allows core tohost e → fault_of core tohost e ≡ None

-- ---- the greatest prefix

-- lines are those of records, each of which is allowed after those before it, and they lead the core to this one
abbrev pub Passes : CoreState → ℕ → List (List ℕ) → CoreState → Type 0
Passes core tohost [] past = past ≡ core
Passes core tohost (l ∷ ls) past = (e : Event) × IsSpellable e × (l ≡ line e) × Allows core tohost e × Passes (core_past core tohost e) tohost ls past

-- the first n lines pass, and no more of them do
pub record IsLongest (core : CoreState) (tohost : ℕ) (lines : List (List ℕ)) (n : ℕ) : Type 0 where
  pub within : n ≤ length lines
  pub past : CoreState
  pub passes : Passes core tohost (take n lines) past
  pub longest : (j : ℕ) (end : CoreState) → j ≤ length lines → Passes core tohost (take j lines) end → j ≤ n

-- the number of a verdict is that of the longest prefix of the deciding lines that passes
abbrev pub PrefixGreatest : Type 0
PrefixGreatest = (core : CoreState) (tohost most : ℕ) (bytes : List ℕ) (ended : Bool) → IsLongest core tohost (deciding most bytes ended) (number (verdict_of core tohost most bytes ended))

-- ---- what each verdict means

-- why a core refuses a line
abbrev pub Refuses : CoreState → ℕ → List ℕ → Verdict → Type 0
Refuses core tohost l (Passing n) = ⊥
Refuses core tohost l (Disallowed n field allowed given) = (e : Event) × IsSpellable e × (l ≡ line e) × (fault_of core tohost e ≡ Some (record { field = field; allowed = allowed; given = given }))
Refuses core tohost l (BadLine n column) = IsColumn l column × ((e : Event) → IsSpellable e → l ≡ line e → ⊥)
Refuses core tohost l (TooMany n) = ⊥

-- the first n lines pass, and the next one is refused
abbrev pub RefusedAt : CoreState → ℕ → List (List ℕ) → ℕ → Verdict → Type 0
RefusedAt core tohost [] n verdict = ⊥
RefusedAt core tohost (l ∷ ls) zero verdict = Refuses core tohost l verdict
RefusedAt core tohost (l ∷ ls) (suc n) verdict = (e : Event) × IsSpellable e × (l ≡ line e) × Allows core tohost e × RefusedAt (core_past core tohost e) tohost ls n verdict

-- Passing: all deciding lines pass, and where they are as many as may, no byte follows them. Disallowed and BadLine: the line after the first n is refused for this reason.
-- TooMany: all deciding lines pass, they are as many as may, and a byte follows them
abbrev pub Means : CoreState → ℕ → List (List ℕ) → ℕ → Bool → Verdict → Type 0
Means core tohost lines most more (Passing n) = (n ≡ length lines) × (n ≡ most → IsFalse more)
Means core tohost lines most more (Disallowed n field allowed given) = RefusedAt core tohost lines n (Disallowed n field allowed given)
Means core tohost lines most more (BadLine n column) = RefusedAt core tohost lines n (BadLine n column)
Means core tohost lines most more (TooMany n) = (n ≡ most) × (n ≡ length lines) × IsTrue more

abbrev pub VerdictMeant : Type 0
VerdictMeant = (core : CoreState) (tohost most : ℕ) (bytes : List ℕ) (ended : Bool) → Means core tohost (deciding most bytes ended) most (goes_on most bytes) (verdict_of core tohost most bytes ended)

-- a refused record shows another value than the allowed one
abbrev pub ShowsOther : Verdict → Type 0
ShowsOther (Passing n) = Unit {0}
ShowsOther (Disallowed n field allowed given) = allowed ≡ given → ⊥
ShowsOther (BadLine n column) = Unit {0}
ShowsOther (TooMany n) = Unit {0}

abbrev pub RefusedDiffers : Type 0
RefusedDiffers = (core : CoreState) (tohost most : ℕ) (bytes : List ℕ) (ended : Bool) → ShowsOther (verdict_of core tohost most bytes ended)

-- ---- streams of allowed records

-- a stream that has ended passes where each of its lines is that of a record that is allowed after those before it, and
-- no more of them come than may
abbrev pub AllowedPass : Type 0
AllowedPass = (core : CoreState) (tohost most : ℕ) (bytes : List ℕ) (past : CoreState) →
    length (judged bytes true) ≤ most → Passes core tohost (judged bytes true) past →
    verdict_of core tohost most bytes true ≡ Passing (length (judged bytes true))

-- ---- longer streams

-- a verdict other than Passing is that of every longer stream
abbrev pub VerdictStays : Type 0
VerdictStays = (core : CoreState) (tohost most : ℕ) (bytes : List ℕ) (verdict : Verdict) →
    verdict_of core tohost most bytes false ≡ verdict → IsFinal verdict →
    (later : List ℕ) (ended : Bool) → verdict_of core tohost most (bytes ++ later) ended ≡ verdict
