-- What the trace of allowed events comes to.
use Rattle.std.proofs.Common.{◌≡◌, ℕ, zero, suc, ◌+◌, ◌-◌, ◌<◌, ◌≤◌, Bool, true, false, List, [], ◌∷◌, ◌++◌, length, refl, sym, ap, subst, ◌∙◌, arith}
use Rattle.std.specs.List.{AllByRecursion}
use Rattle.std.proofs.lemmas.List.Elements.{recursion_from_All}
use Rattle.hart_step.specs.declared.event.Event.{Event}
use Rattle.hart_step.specs.Harts.{CoreState}
use Rattle.commit_log.specs.Spelling.{IsSpellable, line}
use Rattle.commit_log.proofs.Plain.{clean_lem, short_lem}
use Rattle.turn_runs.specs.Run.{trace_lines}
use Rattle.cosim_check.specs.declared.verdict.Verdict.{Verdict}
use Rattle.cosim_check.specs.declared.verdict.Verdict.TheVariants.{Passing, Disallowed, BadLine, TooMany}
use Rattle.cosim_check.specs.Places.{At, IsPlain, Over, next_place, place_past, places, verdict_at}
use Rattle.cosim_check.specs.Records.{Allows, core_past}
use Rattle.cosim_check.specs.Verdicts.{Finding, IsFinal, Passed, after_fault, after_line, verdict_of}
use Rattle.cosim_check.proofs.Faults.{right_where}
use Rattle.cosim_check.proofs.Streams.{found_reads, over_stays, stays_so, verdict_placed}
use Rattle.cosim_check.proofs.WholeLines.{line_at_once}
use Rattle.trace_law.specs.Passing.{AllAllowed}
use Rattle.trace_law.specs.Traces.{TracePasses}

-- each event has a spelling
abbrev pub AllSpelled : List Event → Type 0
AllSpelled events = AllByRecursion IsSpellable events

-- ---- one line

plain_of : (xs : List ℕ) → AllByRecursion (λ c. c ≡ 10 → ⊥) xs → IsPlain xs
plain_of [] clean = tt
plain_of (x ∷ xs) clean = (clean.0, plain_of xs clean.1)

line_plain : (e : Event) → IsSpellable e → IsPlain (line e)
line_plain e good = plain_of (line e) (recursion_from_All (λ c. c ≡ 10 → ⊥) (line e) (clean_lem e good.0))

line_passes : (tohost n : ℕ) (core : CoreState) (e : Event) → IsSpellable e → Allows core tohost e → after_line tohost (line e) (Passed core n) ≡ Passed (core_past core tohost e) (n + 1)
line_passes tohost n core e good ok = found_reads tohost core n (line e) e good refl ∙ ap (after_fault core tohost n e) (right_where core tohost e ok)

-- a line that is allowed moves the place by one record
line_moves : (tohost left n : ℕ) (core : CoreState) (e : Event) (rest : List ℕ) → IsSpellable e → Allows core tohost e → places tohost (At (suc left) core n []) (line e ++ 10 ∷ rest) ≡ places tohost (At left (core_past core tohost e) (n + 1) []) rest
line_moves tohost left n core e rest good ok =
    line_at_once tohost left n core [] (line e) rest (line_plain e good) (let short = short_lem e good.0 in omega arith)
    ∙ ap (λ (f : Finding). places tohost (place_past left f) rest) (line_passes tohost n core e good ok)

-- ---- all lines

lines_lead : (tohost left n : ℕ) (core past : CoreState) (es : List Event) → length es ≤ left → AllSpelled es → AllAllowed core tohost es past → places tohost (At left core n []) (trace_lines es) ≡ At (left - length es) past (n + length es) []
unfolding places trace_lines
lines_lead tohost left n core past [] few good ok =
    let rest : left ≡ left - 0 = omega arith in
    let count : n ≡ n + 0 = omega arith in
    ap (λ (l : ℕ). At l core n []) rest ∙ ap (λ (m : ℕ). At (left - 0) core m []) count ∙ ap (λ (c : CoreState). At (left - 0) c (n + 0) []) (sym ok)
lines_lead tohost zero n core past (e ∷ es) few good ok = absurd (omega arith)
lines_lead tohost (suc left) n core past (e ∷ es) few good ok =
    let rest : left - length es ≡ suc left - suc (length es) = omega arith in
    let count : (n + 1) + length es ≡ n + suc (length es) = omega arith in
    line_moves tohost left n core e (trace_lines es) good.0 ok.0
    ∙ lines_lead tohost left (n + 1) (core_past core tohost e) past es (omega arith) good.1 ok.1
    ∙ ap (λ (l : ℕ). At l past ((n + 1) + length es) []) rest ∙ ap (λ (m : ℕ). At (suc left - suc (length es)) past m []) count

-- more records than may pass
nothing_more : (tohost n : ℕ) (core : CoreState) (xs rest : List ℕ) → places tohost (At zero core n []) (xs ++ 10 ∷ rest) ≡ Over (TooMany n)
unfolding places next_place
nothing_more tohost n core [] rest = over_stays tohost (TooMany n) rest
nothing_more tohost n core (x ∷ xs) rest = over_stays tohost (TooMany n) (xs ++ 10 ∷ rest)

lines_fill : (tohost left n : ℕ) (core past : CoreState) (es : List Event) → left < length es → AllSpelled es → AllAllowed core tohost es past → places tohost (At left core n []) (trace_lines es) ≡ Over (TooMany (n + left))
unfolding trace_lines
lines_fill tohost left n core past [] many good ok = absurd (omega arith)
lines_fill tohost zero n core past (e ∷ es) many good ok =
    nothing_more tohost n core (line e) (trace_lines es) ∙ ap (λ (m : ℕ). Over (TooMany m)) (let same : n ≡ n + 0 = omega arith in same)
lines_fill tohost (suc left) n core past (e ∷ es) many good ok =
    line_moves tohost left n core e (trace_lines es) good.0 ok.0
    ∙ lines_fill tohost left (n + 1) (core_past core tohost e) past es (omega arith) good.1 ok.1
    ∙ ap (λ (m : ℕ). Over (TooMany m)) (let same : (n + 1) + left ≡ n + suc left = omega arith in same)

-- ---- verdicts

at_rest : (tohost l : ℕ) (c : CoreState) (m : ℕ) (ended : Bool) → verdict_at tohost ended (At l c m []) ≡ Passing m
at_rest tohost zero c m ended = refl
at_rest tohost (suc l) c m true = refl
at_rest tohost (suc l) c m false = refl

verdict_passes : (core past : CoreState) (tohost most : ℕ) (es : List Event) (ended : Bool) → length es ≤ most → AllSpelled es → AllAllowed core tohost es past → verdict_of core tohost most (trace_lines es) ended ≡ Passing (length es)
verdict_passes core past tohost most es ended few good ok =
    verdict_placed core tohost most (trace_lines es) ended
    ∙ ap (verdict_at tohost ended) (lines_lead tohost most 0 core past es few good ok)
    ∙ at_rest tohost (most - length es) past (0 + length es) ended
    ∙ ap (λ (n : ℕ). Passing n) (let same : 0 + length es ≡ length es = omega arith in same)

verdict_fills : (core past : CoreState) (tohost most : ℕ) (es : List Event) (ended : Bool) → most < length es → AllSpelled es → AllAllowed core tohost es past → verdict_of core tohost most (trace_lines es) ended ≡ TooMany most
verdict_fills core past tohost most es ended many good ok =
    verdict_placed core tohost most (trace_lines es) ended
    ∙ ap (verdict_at tohost ended) (lines_fill tohost most 0 core past es many good ok)
    ∙ ap (λ (n : ℕ). TooMany n) (let same : 0 + most ≡ most = omega arith in same)

-- a verdict that is found on a front stays
not_found : (core : CoreState) (tohost most k : ℕ) (front back : List ℕ) (v : Verdict) → verdict_of core tohost most front false ≡ v → IsFinal v → verdict_of core tohost most (front ++ back) false ≡ Passing k → ⊥
not_found core tohost most k front back v is last passes = subst IsFinal (sym (stays_so core tohost most front v is last back false) ∙ passes) last

front_by : (core : CoreState) (tohost most k : ℕ) (front back : List ℕ) (v : Verdict) → verdict_of core tohost most front false ≡ v → verdict_of core tohost most (front ++ back) false ≡ Passing k → (n : ℕ) × (v ≡ Passing n)
front_by core tohost most k front back (Passing n) is passes = (n, refl)
front_by core tohost most k front back (Disallowed n field allowed given) is passes = absurd (not_found core tohost most k front back (Disallowed n field allowed given) is tt passes)
front_by core tohost most k front back (BadLine n column) is passes = absurd (not_found core tohost most k front back (BadLine n column) is tt passes)
front_by core tohost most k front back (TooMany n) is passes = absurd (not_found core tohost most k front back (TooMany n) is tt passes)

pub events_pass : (core past : CoreState) (tohost : ℕ) (events : List Event) → AllSpelled events → AllAllowed core tohost events past → TracePasses core tohost events
events_pass core past tohost events good ok = record {
  whole = λ most ended few. verdict_passes core past tohost most events ended few good ok;
  full = λ most ended many. verdict_fills core past tohost most events ended many good ok;
  fronts = λ most front back few parts.
      front_by core tohost most (length events) front back (verdict_of core tohost most front false) refl
      (ap (λ (bytes : List ℕ). verdict_of core tohost most bytes false) parts ∙ verdict_passes core past tohost most events false few good ok);
}
