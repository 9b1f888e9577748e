-- A stream of allowed records passes.
use Rattle.std.proofs.Common.{◌≡◌, ℕ, zero, suc, ◌<◌, ◌==◌, Bool, true, false, ◌&&◌, not, if◌then◌else◌, nat_le, IsTrue, List, [], ◌∷◌, ◌++◌, length, take, refl, sym, ap, subst, arith}
use Rattle.std.proofs.lemmas.List.{take_all}
use Rattle.hart_step.specs.Harts.{CoreState}
use Rattle.cosim_check.specs.declared.verdict.Verdict.{Verdict}
use Rattle.cosim_check.specs.declared.verdict.Verdict.TheVariants.{Passing, Disallowed, BadLine, TooMany}
use Rattle.cosim_check.specs.Lines.{after_lines, is_nil, judged, last_part, rest_lines, whole_lines}
use Rattle.cosim_check.specs.Records.{core_past}
use Rattle.cosim_check.specs.Verdicts.{deciding, goes_on, number, verdict_of}
use Rattle.cosim_check.specs.Laws.{AllowedPass, IsLongest, Means, Passes, RefusedAt}
use Rattle.cosim_check.proofs.Meanings.{verdict_meant}
use Rattle.cosim_check.proofs.Prefix.{prefix_greatest}

-- ---- what stands after so many newlines is judged too

-- the lines of a stream that has ended, behind the front of a line
abbrev lines_behind : List ℕ → List ℕ → List (List ℕ)
lines_behind front bytes = whole_lines front bytes ++ rest_lines true (last_part front bytes)

-- a line that a newline ends, or the bytes go on
abbrev parted : Bool → List ℕ → List (List ℕ) → List ℕ → List (List ℕ) → List ℕ → List (List ℕ)
parted c front ended last more rest = (if c then front ∷ ended else more) ++ rest_lines true (if c then last else rest)

part_judged : (long : Bool) (front : List ℕ) → 0 < length front → 0 < length (if long then take 256 front ∷ [] else if true && not (is_nil front) then front ∷ [] else [])
part_judged true front some = omega arith
part_judged false [] some = absurd (omega arith)
part_judged false (x ∷ xs) some = omega arith

one_by : (c : Bool) (front : List ℕ) (ended : List (List ℕ)) (last : List ℕ) (more : List (List ℕ)) (rest : List ℕ) → 0 < length (more ++ rest_lines true rest) → 0 < length (parted c front ended last more rest)
one_by true front ended last more rest one = omega arith
one_by false front ended last more rest one = one

longer : (front : List ℕ) (b : ℕ) → 0 < length (front ++ b ∷ [])
longer [] b = omega arith
longer (x ∷ xs) b = omega arith

-- bytes behind a front, one of them not empty, have a line
front_judged : (front bytes : List ℕ) → 0 < length front → 0 < length (lines_behind front bytes)
unfolding whole_lines last_part
front_judged front [] some = part_judged (nat_le 256 (length front)) front some
front_judged front (b ∷ bytes) some =
    one_by (b == 10) front (whole_lines [] bytes) (last_part [] bytes) (whole_lines (front ++ b ∷ []) bytes) (last_part (front ++ b ∷ []) bytes) (front_judged (front ++ b ∷ []) bytes (longer front b))

one_judged : (front : List ℕ) (b : ℕ) (bytes : List ℕ) → 0 < length (lines_behind front (b ∷ bytes))
unfolding whole_lines last_part
one_judged front b bytes =
    one_by (b == 10) front (whole_lines [] bytes) (last_part [] bytes) (whole_lines (front ++ b ∷ []) bytes) (last_part (front ++ b ∷ []) bytes) (front_judged (front ++ b ∷ []) bytes (longer front b))

more_by : (c : Bool) (n : ℕ) (front ended_left more_left : List ℕ) (ended : List (List ℕ)) (last : List ℕ) (more : List (List ℕ)) (rest : List ℕ) → (is_nil ended_left ≡ false → n < length (ended ++ rest_lines true last))
    → (is_nil more_left ≡ false → suc n < length (more ++ rest_lines true rest)) → is_nil (if c then ended_left else more_left) ≡ false → suc n < length (parted c front ended last more rest)
more_by true n front ended_left more_left ended last more rest of_ended of_more some = let less = of_ended some in omega arith
more_by false n front ended_left more_left ended last more rest of_ended of_more some = of_more some

left_judged : (n : ℕ) (front bytes : List ℕ) → is_nil (after_lines n bytes) ≡ false → n < length (lines_behind front bytes)
unfolding after_lines whole_lines last_part
left_judged zero front [] some = cc
left_judged zero front (b ∷ bytes) some = one_judged front b bytes
left_judged (suc n) front [] some = cc
left_judged (suc n) front (b ∷ bytes) some =
    more_by (b == 10) n front (after_lines n bytes) (after_lines (suc n) bytes) (whole_lines [] bytes) (last_part [] bytes) (whole_lines (front ++ b ∷ []) bytes) (last_part (front ++ b ∷ []) bytes)
    (left_judged n [] bytes) (left_judged (suc n) (front ++ b ∷ []) bytes) some

-- ---- no other verdict

refused_within : (core : CoreState) (tohost : ℕ) (lines : List (List ℕ)) (n : ℕ) (v : Verdict) → RefusedAt core tohost lines n v → n < length lines
refused_within core tohost [] n v refused = absurd refused
refused_within core tohost (l ∷ ls) zero v refused = omega arith
refused_within core tohost (l ∷ ls) (suc n) v refused = let less = refused_within (core_past core tohost refused.0) tohost ls n v refused.4 in omega arith

-- where all lines pass, none is refused
none_refused : (core past : CoreState) (tohost : ℕ) (lines : List (List ℕ)) (n : ℕ) (v : Verdict) → Passes core tohost lines past → IsLongest core tohost lines n → RefusedAt core tohost lines n v → ⊥
none_refused core past tohost lines n v passes longest refused =
    let less = refused_within core tohost lines n v refused in
    let all : take (length lines) lines ≡ lines = take_all (length lines) lines (omega arith) in
    let most = longest.longest (length lines) past (omega arith) (subst (λ (ls : List (List ℕ)). Passes core tohost ls past) (sym all) passes) in
    omega arith

only_passing : (core past : CoreState) (tohost most : ℕ) (lines : List (List ℕ)) (more : Bool) (v : Verdict) → Passes core tohost lines past → (IsTrue more → most < length lines)
    → IsLongest core tohost lines (number v) → Means core tohost lines most more v → v ≡ Passing (length lines)
only_passing core past tohost most lines more (Passing n) passes full longest means = ap Passing means.0
only_passing core past tohost most lines more (Disallowed n field allowed given) passes full longest means = absurd (none_refused core past tohost lines n (Disallowed n field allowed given) passes longest means)
only_passing core past tohost most lines more (BadLine n column) passes full longest means = absurd (none_refused core past tohost lines n (BadLine n column) passes longest means)
only_passing core past tohost most lines more (TooMany n) passes full longest means =
    let over = full means.2 in
    let limit = means.0 in
    let all = means.1 in
    absurd (omega arith)

not_nil : (b : Bool) → IsTrue (not b) → b ≡ false
not_nil true is = cc
not_nil false is = refl

pub allowed_pass : AllowedPass
allowed_pass core tohost most bytes past few passes =
    let all : deciding most bytes true ≡ judged bytes true = take_all most (judged bytes true) few in
    let v : Verdict = verdict_of core tohost most bytes true in
    only_passing core past tohost most (judged bytes true) (goes_on most bytes) v passes
    (λ more. left_judged most [] bytes (not_nil (is_nil (after_lines most bytes)) more))
    (subst (λ (ls : List (List ℕ)). IsLongest core tohost ls (number v)) all (prefix_greatest core tohost most bytes true))
    (subst (λ (ls : List (List ℕ)). Means core tohost ls most (goes_on most bytes) v) all (verdict_meant core tohost most bytes true))
