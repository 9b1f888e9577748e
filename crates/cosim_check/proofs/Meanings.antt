-- What each verdict means.
use Rattle.std.proofs.Common.{◌≡◌, ℕ, suc, ◌+◌, ◌-◌, ◌==◌, Bool, true, false, ◌&&◌, if◌then◌else◌, List, [], ◌∷◌, length, refl, sym, subst, arith}
use Rattle.std.specs.Prelude.{Result, Ok, Err, Option, Some, None}
use Rattle.std.proofs.lemmas.Bool.{eqb-false, eqb-true}
use Rattle.hart_step.specs.declared.event.Event.{Event}
use Rattle.hart_step.specs.Harts.{CoreState}
use Rattle.commit_log.specs.Reading.{event_of}
use Rattle.commit_log.proofs.Columns.{column_lem, found_lem, only_lem}
use Rattle.cosim_check.specs.declared.verdict.Verdict.{Verdict}
use Rattle.cosim_check.specs.declared.verdict.Verdict.TheVariants.{Passing, Disallowed, BadLine, TooMany}
use Rattle.cosim_check.specs.declared.record.Fault.{Fault}
use Rattle.cosim_check.specs.Records.{Allows, core_past, fault_of}
use Rattle.cosim_check.specs.Verdicts.{Finding, Found, Passed, after_all, after_fault, after_line, after_reading, deciding, goes_on, number, verdict_by, verdict_of}
use Rattle.cosim_check.specs.Laws.{Means, RefusedAt, RefusedDiffers, ShowsOther, VerdictMeant}
use Rattle.cosim_check.proofs.Streams.{found_stays}
use Rattle.cosim_check.proofs.Faults.{Differ, allowed_where, fault_differs}

-- ---- a refused record shows another value than the allowed one

abbrev FindingDiffers : Finding → Type 0
FindingDiffers (Passed core n) = Unit {0}
FindingDiffers (Found v) = ShowsOther v

after_differs : (core : CoreState) (tohost n : ℕ) (e : Event) (f : Option Fault) → Differ f → FindingDiffers (after_fault core tohost n e f)
after_differs core tohost n e None differ = tt
after_differs core tohost n e (Some f) differ = differ

reading_differs : (core : CoreState) (tohost n count : ℕ) (r : Result Event ℕ) → FindingDiffers (after_reading core tohost n count r)
reading_differs core tohost n count (Ok e) = after_differs core tohost n e (fault_of core tohost e) (fault_differs core tohost e)
reading_differs core tohost n count (Err left) = tt

line_differs : (tohost : ℕ) (l : List ℕ) (f : Finding) → FindingDiffers f → FindingDiffers (after_line tohost l f)
line_differs tohost l (Passed core n) before = reading_differs core tohost n (length l) (event_of l)
line_differs tohost l (Found v) before = before

all_differ : (tohost : ℕ) (ls : List (List ℕ)) (f : Finding) → FindingDiffers f → FindingDiffers (after_all tohost ls f)
unfolding after_all
all_differ tohost [] f before = before
all_differ tohost (l ∷ ls) f before = all_differ tohost ls (after_line tohost l f) (line_differs tohost l f before)

passed_shows : (n most : ℕ) (b : Bool) → ShowsOther (if b then TooMany most else Passing n)
passed_shows n most true = tt
passed_shows n most false = tt

verdict_shows : (most : ℕ) (more : Bool) (f : Finding) → FindingDiffers f → ShowsOther (verdict_by most more f)
verdict_shows most more (Found v) differs = differs
verdict_shows most more (Passed core n) differs = passed_shows n most ((n == most) && more)

pub refused_differs : RefusedDiffers
unfolding verdict_of
refused_differs core tohost most bytes ended =
    verdict_shows most (goes_on most bytes) (after_all tohost (deciding most bytes ended) (Passed core 0)) (all_differ tohost (deciding most bytes ended) (Passed core 0) tt)

-- ---- what each verdict means

abbrev IsRefusal : Verdict → Type 0
IsRefusal (Passing n) = ⊥
IsRefusal (Disallowed n field allowed given) = Unit {0}
IsRefusal (BadLine n column) = Unit {0}
IsRefusal (TooMany n) = ⊥

record Refused (core : CoreState) (tohost : ℕ) (ls : List (List ℕ)) (n : ℕ) (v : Verdict) : Type 0 where
  refusal : IsRefusal v
  more : ℕ
  count : number v ≡ n + more
  at : RefusedAt core tohost ls more v

abbrev FindingMeans : CoreState → ℕ → List (List ℕ) → ℕ → Finding → Type 0
FindingMeans core tohost ls n (Passed c m) = m ≡ n + length ls
FindingMeans core tohost ls n (Found v) = Refused core tohost ls n v

means_one : (core : CoreState) (tohost : ℕ) (l : List ℕ) (ls : List (List ℕ)) (e : Event) (n : ℕ) (f : Finding) → event_of l ≡ Ok e → Allows core tohost e → FindingMeans (core_past core tohost e) tohost ls (n + 1) f → FindingMeans core tohost (l ∷ ls) n f
means_one core tohost l ls e n (Passed c m) is ok next = let same : m ≡ n + suc (length ls) = omega arith in same
means_one core tohost l ls e n (Found v) is ok next =
    let found = found_lem l e is in
    record { refusal = next.refusal; more = suc next.more; count = let count = next.count in omega arith; at = (e, found.0, found.1, ok, next.at) }

means_fault : (core : CoreState) (tohost : ℕ) (l : List ℕ) (ls : List (List ℕ)) (e : Event) (n : ℕ) → event_of l ≡ Ok e → FindingMeans (core_past core tohost e) tohost ls (n + 1) (after_all tohost ls (Passed (core_past core tohost e) (n + 1))) → (f : Option Fault) → fault_of core tohost e ≡ f → FindingMeans core tohost (l ∷ ls) n (after_all tohost ls (after_fault core tohost n e f))
means_fault core tohost l ls e n is next None fault = means_one core tohost l ls e n (after_all tohost ls (Passed (core_past core tohost e) (n + 1))) is (allowed_where core tohost e fault) next
means_fault core tohost l ls e n is next (Some f) fault =
    let found = found_lem l e is in
    subst (FindingMeans core tohost (l ∷ ls) n) (sym (found_stays tohost ls (Disallowed n f.field f.allowed f.given)))
    (record { refusal = tt; more = 0; count = omega arith; at = (e, found.0, found.1, fault) })

means_reading : (core : CoreState) (tohost : ℕ) (l : List ℕ) (ls : List (List ℕ)) (n : ℕ) → ((e : Event) → FindingMeans (core_past core tohost e) tohost ls (n + 1) (after_all tohost ls (Passed (core_past core tohost e) (n + 1)))) → (r : Result Event ℕ) → event_of l ≡ r → FindingMeans core tohost (l ∷ ls) n (after_all tohost ls (after_reading core tohost n (length l) r))
means_reading core tohost l ls n next (Ok e) is = means_fault core tohost l ls e n is (next e) (fault_of core tohost e) refl
means_reading core tohost l ls n next (Err left) is =
    subst (FindingMeans core tohost (l ∷ ls) n) (sym (found_stays tohost ls (BadLine n (length l - left))))
    (record {
      refusal = tt;
      more = 0;
      count = omega arith;
      at = ((column_lem l left is).column, λ x good spelled. let again : event_of l ≡ Ok x = only_lem l x good spelled in cc);
    })

all_mean : (core : CoreState) (tohost : ℕ) (ls : List (List ℕ)) (n : ℕ) → FindingMeans core tohost ls n (after_all tohost ls (Passed core n))
unfolding after_all
all_mean core tohost [] n = let same : n ≡ n + 0 = omega arith in same
all_mean core tohost (l ∷ ls) n = means_reading core tohost l ls n (λ e. all_mean (core_past core tohost e) tohost ls (n + 1)) (event_of l) refl

full_means : (core : CoreState) (tohost : ℕ) (ls : List (List ℕ)) (most n : ℕ) (same more : Bool) → (n == most) ≡ same → n ≡ 0 + length ls → Means core tohost ls most more (if same && more then TooMany most else Passing n)
full_means core tohost ls most n true true is count = (refl, (let here = eqb-true n most is in let all : most ≡ length ls = omega arith in all), refl)
full_means core tohost ls most n true false is count = ((let all : n ≡ length ls = omega arith in all), λ q. refl)
full_means core tohost ls most n false more is count = ((let all : n ≡ length ls = omega arith in all), λ q. absurd (eqb-false n most is q))

refused_means : (core : CoreState) (tohost : ℕ) (ls : List (List ℕ)) (most : ℕ) (more : Bool) (v : Verdict) → Refused core tohost ls 0 v → Means core tohost ls most more v
refused_means core tohost ls most more (Passing n) r = absurd r.refusal
refused_means core tohost ls most more (Disallowed n field allowed given) r = subst (λ (k : ℕ). RefusedAt core tohost ls k (Disallowed n field allowed given)) (let count = r.count in let same : r.more ≡ n = omega arith in same) r.at
refused_means core tohost ls most more (BadLine n column) r = subst (λ (k : ℕ). RefusedAt core tohost ls k (BadLine n column)) (let count = r.count in let same : r.more ≡ n = omega arith in same) r.at
refused_means core tohost ls most more (TooMany n) r = absurd r.refusal

verdict_means : (core : CoreState) (tohost : ℕ) (ls : List (List ℕ)) (most : ℕ) (more : Bool) (f : Finding) → FindingMeans core tohost ls 0 f → Means core tohost ls most more (verdict_by most more f)
verdict_means core tohost ls most more (Passed c n) means = full_means core tohost ls most n (n == most) more refl means
verdict_means core tohost ls most more (Found v) means = refused_means core tohost ls most more v means

pub verdict_meant : VerdictMeant
unfolding verdict_of
verdict_meant core tohost most bytes ended =
    verdict_means core tohost (deciding most bytes ended) most (goes_on most bytes) (after_all tohost (deciding most bytes ended) (Passed core 0)) (all_mean core tohost (deciding most bytes ended) 0)
