-- The number of a verdict is that of the longest prefix that passes.
use Rattle.std.proofs.Common.{◌≡◌, ℕ, zero, suc, ◌+◌, ◌-◌, ◌≤◌, ◌==◌, Bool, true, false, ◌&&◌, if◌then◌else◌, List, [], ◌∷◌, length, take, refl, sym, ap, subst, ◌∙◌, arith}
use Rattle.std.specs.Prelude.{Result, Ok, Err, Option, Some, None}
use Rattle.std.proofs.lemmas.Bool.{eqb-true}
use Rattle.hart_step.specs.declared.event.Event.{Event}
use Rattle.hart_step.specs.Harts.{CoreState}
use Rattle.commit_log.specs.Spelling.{IsSpellable, line}
use Rattle.commit_log.specs.Reading.{event_of}
use Rattle.commit_log.proofs.Columns.{found_lem, only_lem}
use Rattle.cosim_check.specs.declared.verdict.Verdict.TheVariants.{Passing, Disallowed, BadLine, TooMany}
use Rattle.cosim_check.specs.declared.record.Fault.{Fault}
use Rattle.cosim_check.specs.Records.{Allows, core_past, fault_of}
use Rattle.cosim_check.specs.Verdicts.{Finding, Found, Passed, after_all, after_fault, after_reading, deciding, goes_on, number, verdict_by, verdict_of}
use Rattle.cosim_check.specs.Laws.{IsLongest, Passes, PrefixGreatest}
use Rattle.cosim_check.proofs.Streams.{found_stays}
use Rattle.cosim_check.proofs.Faults.{allowed_where, right_where, some_none}

abbrev count_of : Finding → ℕ
count_of (Passed core n) = n
count_of (Found v) = number v

-- so many more pass from here
record Counts (core : CoreState) (tohost : ℕ) (ls : List (List ℕ)) (n : ℕ) (f : Finding) : Type 0 where
  more : ℕ
  count : count_of f ≡ n + more
  longest : IsLongest core tohost ls more

no_more : (core : CoreState) (tohost : ℕ) (l : List ℕ) (ls : List (List ℕ)) → ((e : Event) → IsSpellable e → l ≡ line e → Allows core tohost e → ⊥) → (j : ℕ) (end : CoreState) → Passes core tohost (take j (l ∷ ls)) end → j ≤ 0
no_more core tohost l ls none zero end passes = omega arith
no_more core tohost l ls none (suc j) end passes = absurd (none passes.0 passes.1 passes.2 passes.3)

none_passes : (core : CoreState) (tohost : ℕ) (l : List ℕ) (ls : List (List ℕ)) → ((e : Event) → IsSpellable e → l ≡ line e → Allows core tohost e → ⊥) → IsLongest core tohost (l ∷ ls) 0
none_passes core tohost l ls none = record {
  within = omega arith;
  past = core;
  passes = refl;
  longest = λ j end within passes. no_more core tohost l ls none j end passes;
}

-- one record more
no_longer : (core : CoreState) (tohost : ℕ) (l : List ℕ) (ls : List (List ℕ)) (e : Event) (k : ℕ) → event_of l ≡ Ok e → ((j : ℕ) (end : CoreState) → j ≤ length ls → Passes (core_past core tohost e) tohost (take j ls) end → j ≤ k) → (j : ℕ) (end : CoreState) → j ≤ suc (length ls) → Passes core tohost (take j (l ∷ ls)) end → j ≤ suc k
no_longer core tohost l ls e k is most zero end within passes = omega arith
no_longer core tohost l ls e k is most (suc j) end within passes =
    let again : event_of l ≡ Ok passes.0 = only_lem l passes.0 passes.1 passes.2 in
    let same : passes.0 ≡ e = cc in
    let less = most j end (omega arith) (subst (λ (x : Event). Passes (core_past core tohost x) tohost (take j ls) end) same passes.4) in
    omega arith

one_more : (core : CoreState) (tohost : ℕ) (l : List ℕ) (ls : List (List ℕ)) (e : Event) (n : ℕ) (f : Finding) → event_of l ≡ Ok e → Allows core tohost e → Counts (core_past core tohost e) tohost ls (n + 1) f → Counts core tohost (l ∷ ls) n f
one_more core tohost l ls e n f is ok c =
    let found = found_lem l e is in
    record {
      more = suc c.more;
      count = let count = c.count in omega arith;
      longest = record {
        within = let w = c.longest.within in omega arith;
        past = c.longest.past;
        passes = (e, found.0, found.1, ok, c.longest.passes);
        longest = λ j end within passes. no_longer core tohost l ls e c.more is c.longest.longest j end within passes;
      };
    }

by_fault : (core : CoreState) (tohost : ℕ) (l : List ℕ) (ls : List (List ℕ)) (e : Event) (n : ℕ) → event_of l ≡ Ok e → Counts (core_past core tohost e) tohost ls (n + 1) (after_all tohost ls (Passed (core_past core tohost e) (n + 1))) → (f : Option Fault) → fault_of core tohost e ≡ f → Counts core tohost (l ∷ ls) n (after_all tohost ls (after_fault core tohost n e f))
by_fault core tohost l ls e n is next None fault = one_more core tohost l ls e n (after_all tohost ls (Passed (core_past core tohost e) (n + 1))) is (allowed_where core tohost e fault) next
by_fault core tohost l ls e n is next (Some f) fault =
    let found = found_stays tohost ls (Disallowed n f.field f.allowed f.given) in
    record {
      more = 0;
      count = ap count_of found ∙ (let same : n ≡ n + 0 = omega arith in same);
      longest = none_passes core tohost l ls (λ x good spelled ok.
          let again : event_of l ≡ Ok x = only_lem l x good spelled in
          let same : x ≡ e = cc in
          some_none f (sym fault ∙ right_where core tohost e (subst (λ (y : Event). Allows core tohost y) same ok)));
    }

by_reading : (core : CoreState) (tohost : ℕ) (l : List ℕ) (ls : List (List ℕ)) (n : ℕ) → ((e : Event) → Counts (core_past core tohost e) tohost ls (n + 1) (after_all tohost ls (Passed (core_past core tohost e) (n + 1)))) → (r : Result Event ℕ) → event_of l ≡ r → Counts core tohost (l ∷ ls) n (after_all tohost ls (after_reading core tohost n (length l) r))
by_reading core tohost l ls n next (Ok e) is = by_fault core tohost l ls e n is (next e) (fault_of core tohost e) refl
by_reading core tohost l ls n next (Err left) is =
    let found = found_stays tohost ls (BadLine n (length l - left)) in
    record {
      more = 0;
      count = ap count_of found ∙ (let same : n ≡ n + 0 = omega arith in same);
      longest = none_passes core tohost l ls (λ x good spelled ok. let again : event_of l ≡ Ok x = only_lem l x good spelled in cc);
    }

counts : (core : CoreState) (tohost : ℕ) (ls : List (List ℕ)) (n : ℕ) → Counts core tohost ls n (after_all tohost ls (Passed core n))
unfolding after_all
counts core tohost [] n = record {
  more = 0;
  count = omega arith;
  longest = record { within = omega arith; past = core; passes = refl; longest = λ j end within passes. within };
}
counts core tohost (l ∷ ls) n = by_reading core tohost l ls n (λ e. counts (core_past core tohost e) tohost ls (n + 1)) (event_of l) refl

number_cases : (n most : ℕ) (same more : Bool) → (n == most) ≡ same → number (if same && more then TooMany most else Passing n) ≡ n
number_cases n most true true is = sym (eqb-true n most is)
number_cases n most true false is = refl
number_cases n most false more is = refl

number_is : (most : ℕ) (more : Bool) (f : Finding) → number (verdict_by most more f) ≡ count_of f
number_is most more (Found v) = refl
number_is most more (Passed core n) = number_cases n most (n == most) more refl

pub prefix_greatest : PrefixGreatest
unfolding verdict_of
prefix_greatest core tohost most bytes ended =
    let c = counts core tohost (deciding most bytes ended) 0 in
    subst (IsLongest core tohost (deciding most bytes ended))
    (let same : 0 + c.more ≡ c.more = omega arith in sym (number_is most (goes_on most bytes) (after_all tohost (deciding most bytes ended) (Passed core 0)) ∙ c.count ∙ same))
    c.longest
