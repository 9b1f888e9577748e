-- The verdict on a stream, reckoned as its bytes come.
use Rattle.std.proofs.Common.{◌≡◌, ℕ, zero, suc, ◌+◌, ◌-◌, ◌<◌, ◌≤◌, ◌==◌, Bool, true, false, not, ◌&&◌, if◌then◌else◌, List, [], ◌∷◌, ◌++◌, length, take, refl, sym, ap, subst, ◌∙◌, arith, inl, inr, length-append}
use Rattle.std.specs.Prelude.{Result, Ok, Err, Option, Some, None, IsFalse, nat_le, ◌⊎◌}
use Rattle.std.proofs.lemmas.Bool.{cases_order, eq-eqb, eqb-false, eqb-true, false≢true, leb-true, leb-false}
use Rattle.std.proofs.lemmas.List.{take-take, length-take, take_all, take-append-le}
use Rattle.hart_step.specs.declared.event.Event.{Event}
use Rattle.hart_step.specs.Harts.{CoreState}
use Rattle.commit_log.specs.Column.{IsColumn, IsStart}
use Rattle.commit_log.specs.Spelling.{IsSpellable, line}
use Rattle.commit_log.specs.Reading.{event_of}
use Rattle.commit_log.proofs.Columns.{column_lem, found_lem, only_lem}
use Rattle.commit_log.proofs.Plain.{short_lem}
use Rattle.cosim_check.specs.declared.verdict.Verdict.{Verdict}
use Rattle.cosim_check.specs.declared.verdict.Verdict.TheVariants.{Passing, Disallowed, BadLine, TooMany}
use Rattle.cosim_check.specs.Records.{core_past, fault_of}
use Rattle.cosim_check.specs.Lines.{after_lines, is_nil, last_part, rest_lines, whole_lines}
use Rattle.cosim_check.specs.Verdicts.{Finding, Found, IsFinal, Passed, after_all, after_fault, after_line, after_reading, verdict_by, verdict_of}
use Rattle.cosim_check.specs.Standing.{JudgeState, StandsFor}
use Rattle.cosim_check.specs.Places.{At, Over, Place, going_on, next_place, passing, place_by, place_of, place_past, places, verdict_at, verdict_on}
use Rattle.cosim_check.specs.declared.record.Fault.{Fault}

-- ---- a long line is no spelling, and its first 256 bytes tell its column

start_short : (xs : List ℕ) (c : ℕ) → c ≤ length xs → IsStart (take c xs) → c ≤ 131
start_short xs c within start =
    let short = short_lem start.event start.spellable.0 in
    let whole = ap (λ (ys : List ℕ). length ys) start.spelled ∙ length-append (take c xs) start.rest in
    let front = length-take c xs in
    omega arith

not_below : (xs ys : List ℕ) (k c d : ℕ) → 131 < k → take k xs ≡ ys → length ys ≡ k → IsColumn xs c → IsColumn ys d → (c < d) → ⊥
not_below xs ys k c d large is many one two less =
    let short = start_short ys d two.within two.begins in
    let long : k ≤ length xs = let n = length-take k xs in let m = ap (λ (zs : List ℕ). length zs) is in omega arith in
    one.ends d less (omega arith) (subst IsStart (ap (λ (zs : List ℕ). take d zs) (sym is) ∙ take-take d k xs (omega arith)) two.begins)

not_above : (xs ys : List ℕ) (k c d : ℕ) → 131 < k → take k xs ≡ ys → length ys ≡ k → IsColumn xs c → IsColumn ys d → (d < c) → ⊥
not_above xs ys k c d large is many one two less =
    let short = start_short xs c one.within one.begins in
    two.ends c less (omega arith) (subst IsStart (sym (take-take c k xs (omega arith)) ∙ ap (λ (zs : List ℕ). take c zs) is) one.begins)

by_order : (c d : ℕ) → (c ≡ d) ⊎ ((c < d) ⊎ (d < c)) → ((c < d) → ⊥) → ((d < c) → ⊥) → c ≡ d
by_order c d (inl same) below above = same
by_order c d (inr (inl less)) below above = absurd (below less)
by_order c d (inr (inr more)) below above = absurd (above more)

same_column : (xs ys : List ℕ) (k c d : ℕ) → 131 < k → take k xs ≡ ys → length ys ≡ k → IsColumn xs c → IsColumn ys d → c ≡ d
same_column xs ys k c d large is many one two = by_order c d (cases_order c d) (not_below xs ys k c d large is many one two) (not_above xs ys k c d large is many one two)

-- both lines are found to be no spelling, with one column
record IsLong (tohost : ℕ) (core : CoreState) (n : ℕ) (xs ys : List ℕ) : Type 0 where
  verdict : Verdict
  last : IsFinal verdict
  whole : after_line tohost xs (Passed core n) ≡ Found verdict
  front : after_line tohost ys (Passed core n) ≡ Found verdict

too_long : (xs : List ℕ) (e : Event) → 256 ≤ length xs → event_of xs ≡ Ok e → ⊥
too_long xs e long is =
    let found = found_lem xs e is in
    let short = short_lem e found.0.0 in
    let whole = ap (λ (zs : List ℕ). length zs) found.1 in
    omega arith

long_cases : (tohost : ℕ) (core : CoreState) (n : ℕ) (xs ys : List ℕ) → take 256 xs ≡ ys → length ys ≡ 256 → (r s : Result Event ℕ) → event_of xs ≡ r → event_of ys ≡ s → IsLong tohost core n xs ys
long_cases tohost core n xs ys is many (Ok e) s one two =
    absurd (too_long xs e (let n = length-take 256 xs in let m = ap (λ (zs : List ℕ). length zs) is in omega arith) one)
long_cases tohost core n xs ys is many (Err l) (Ok e) one two = absurd (too_long ys e (omega arith) two)
long_cases tohost core n xs ys is many (Err l) (Err k) one two =
    let column = same_column xs ys 256 (length xs - l) (length ys - k) (omega arith) is many (column_lem xs l one).column (column_lem ys k two).column in
    record {
      verdict = BadLine n (length xs - l);
      last = tt;
      whole = ap (after_reading core tohost n (length xs)) one;
      front = ap (after_reading core tohost n (length ys)) two ∙ ap (λ (c : ℕ). Found (BadLine n c)) (sym column);
    }

long_line : (tohost : ℕ) (core : CoreState) (n : ℕ) (xs ys : List ℕ) → take 256 xs ≡ ys → length ys ≡ 256 → IsLong tohost core n xs ys
long_line tohost core n xs ys is many = long_cases tohost core n xs ys is many (event_of xs) (event_of ys) refl refl

-- ---- one line more

data AfterLine (tohost : ℕ) (bytes : List ℕ) (core : CoreState) (n : ℕ) : Type 0 where
  GoesOn : (past : CoreState) → after_line tohost bytes (Passed core n) ≡ Passed past (n + 1) → AfterLine tohost bytes core n
  Ends : (v : Verdict) → after_line tohost bytes (Passed core n) ≡ Found v → AfterLine tohost bytes core n

by_fault : (tohost : ℕ) (bytes : List ℕ) (core : CoreState) (n : ℕ) (e : Event) (f : Option Fault) → after_line tohost bytes (Passed core n) ≡ after_fault core tohost n e f → AfterLine tohost bytes core n
by_fault tohost bytes core n e None is = GoesOn (core_past core tohost e) is
by_fault tohost bytes core n e (Some fault) is = Ends (Disallowed n fault.field fault.allowed fault.given) is

by_reading : (tohost : ℕ) (bytes : List ℕ) (core : CoreState) (n : ℕ) (r : Result Event ℕ) → event_of bytes ≡ r → AfterLine tohost bytes core n
by_reading tohost bytes core n (Ok e) is = by_fault tohost bytes core n e (fault_of core tohost e) (ap (after_reading core tohost n (length bytes)) is)
by_reading tohost bytes core n (Err left) is = Ends (BadLine n (length bytes - left)) (ap (after_reading core tohost n (length bytes)) is)

after_one : (tohost : ℕ) (bytes : List ℕ) (core : CoreState) (n : ℕ) → AfterLine tohost bytes core n
after_one tohost bytes core n = by_reading tohost bytes core n (event_of bytes) refl

pub found_stays : (tohost : ℕ) (ls : List (List ℕ)) (v : Verdict) → after_all tohost ls (Found v) ≡ Found v
unfolding after_all
found_stays tohost [] v = refl
found_stays tohost (l ∷ ls) v = found_stays tohost ls v

-- ---- the lines of a stream whose first line is long

record Begins (front : List ℕ) (lines : List (List ℕ)) : Type 0 where
  first : List ℕ
  later : List (List ℕ)
  parts : lines ≡ first ∷ later
  same : take 256 first ≡ take 256 front

rest_begins : (ended : Bool) (front : List ℕ) (b : Bool) → nat_le 256 (length front) ≡ b → 256 ≤ length front → Begins front (rest_lines ended front)
rest_begins ended front true is long = record { first = take 256 front; later = []; parts = rw is refl; same = take-take 256 256 front (omega arith) }
rest_begins ended front false is long = absurd (let less = leb-false 256 (length front) is in omega arith)

take_longer : (front : List ℕ) (b : ℕ) → 256 ≤ length front → take 256 (front ++ b ∷ []) ≡ take 256 front
take_longer front b long = rw take-append-le refl

begins_by : (c : Bool) (ended : Bool) (front : List ℕ) (b : ℕ) (bytes : List ℕ) → 256 ≤ length front → Begins (front ++ b ∷ []) (whole_lines (front ++ b ∷ []) bytes ++ rest_lines ended (last_part (front ++ b ∷ []) bytes)) → Begins front ((if c then front ∷ whole_lines [] bytes else whole_lines (front ++ b ∷ []) bytes) ++ rest_lines ended (if c then last_part [] bytes else last_part (front ++ b ∷ []) bytes))
begins_by true ended front b bytes long later = record { first = front; later = _; parts = refl; same = refl }
begins_by false ended front b bytes long later = record { first = later.first; later = later.later; parts = later.parts; same = later.same ∙ take_longer front b long }

long_first : (ended : Bool) (front bytes : List ℕ) → 256 ≤ length front → Begins front (whole_lines front bytes ++ rest_lines ended (last_part front bytes))
unfolding whole_lines last_part
long_first ended front [] long = rest_begins ended front (nat_le 256 (length front)) refl long
long_first ended front (b ∷ bytes) long =
    begins_by (b == 10) ended front b bytes long (long_first ended (front ++ b ∷ []) bytes (omega (arith, length-append front (b ∷ []))))

-- ---- the verdict

dead : (b : Bool) (x y : Verdict) → (if b && false then x else y) ≡ y
dead true x y = refl
dead false x y = refl

no_more : (most : ℕ) (f : Finding) → verdict_by most false f ≡ passing f
no_more most (Found v) = refl
no_more most (Passed core n) = dead (n == most) (TooMany most) (Passing n)

abbrev Reckoned : ℕ → ℕ → ℕ → ℕ → CoreState → List ℕ → List ℕ → Bool → Type 0
Reckoned tohost most left n core front bytes ended =
    verdict_by most (not (is_nil (after_lines left bytes))) (after_all tohost (take left (whole_lines front bytes ++ rest_lines ended (last_part front bytes))) (Passed core n)) ≡ verdict_on tohost left core n front bytes ended

-- no byte is left, and a record more may pass
end_cases : (tohost most left n : ℕ) (core : CoreState) (front : List ℕ) (long : Bool) (judges : Bool) → long ≡ false → verdict_by most false (after_all tohost (take (suc left) (if long then take 256 front ∷ [] else if judges then front ∷ [] else [])) (Passed core n)) ≡ (if judges then passing (after_line tohost front (Passed core n)) else Passing n)
unfolding after_all
end_cases tohost most left n core front true judges is = absurd (false≢true (sym is))
end_cases tohost most zero n core front false true is = no_more most (after_line tohost front (Passed core n))
end_cases tohost most (suc left) n core front false true is = no_more most (after_line tohost front (Passed core n))
end_cases tohost most left n core front false false is = no_more most (Passed core n)

below_long : (front : List ℕ) → length front ≤ 255 → (b : Bool) → nat_le 256 (length front) ≡ b → b ≡ false
below_long front short true is = absurd (let more = leb-true 256 (length front) is in omega arith)
below_long front short false is = refl

-- a line has ended
newline_cases : (tohost most left n : ℕ) (core : CoreState) (front : List ℕ) (more : Bool) (ls : List (List ℕ)) (next : CoreState → ℕ → Verdict) → AfterLine tohost front core n → ((past : CoreState) → verdict_by most more (after_all tohost ls (Passed past (n + 1))) ≡ next past (n + 1)) → verdict_by most more (after_all tohost ls (after_line tohost front (Passed core n))) ≡ going_on next (after_line tohost front (Passed core n))
newline_cases tohost most left n core front more ls next (GoesOn past is) goes =
    ap (λ (f : Finding). verdict_by most more (after_all tohost ls f)) is ∙ goes past ∙ ap (going_on next) (sym is)
newline_cases tohost most left n core front more ls next (Ends v is) goes =
    ap (λ (f : Finding). verdict_by most more (after_all tohost ls f)) is ∙ ap (verdict_by most more) (found_stays tohost ls v) ∙ ap (going_on next) (sym is)

-- the 256th byte has come
full_cases : (tohost most left n : ℕ) (core : CoreState) (front : List ℕ) (more : Bool) (lines : List (List ℕ)) → length front ≡ 256 → Begins front lines → verdict_by most more (after_all tohost (take (suc left) lines) (Passed core n)) ≡ passing (after_line tohost front (Passed core n))
unfolding after_all
full_cases tohost most left n core front more lines full begins =
    let one = long_line tohost core n begins.first front (begins.same ∙ take_all 256 front (omega arith)) full in
    ap (λ (ls : List (List ℕ)). verdict_by most more (after_all tohost (take (suc left) ls) (Passed core n))) begins.parts
    ∙ ap (λ (f : Finding). verdict_by most more (after_all tohost (take left begins.later) f)) one.whole
    ∙ ap (verdict_by most more) (found_stays tohost (take left begins.later) one.verdict)
    ∙ ap passing (sym one.front)

byte_cases : (c full : Bool) (tohost most left n : ℕ) (core : CoreState) (front : List ℕ) (b : ℕ) (bytes : List ℕ) (ended : Bool) → length front ≤ 255 → (length front == 255) ≡ full
    → ((past : CoreState) → Reckoned tohost most left (n + 1) past [] bytes ended)
    → (length front < 255 → Reckoned tohost most (suc left) n core (front ++ b ∷ []) bytes ended)
    → verdict_by most (not (is_nil (if c then after_lines left bytes else after_lines (suc left) bytes))) (after_all tohost (take (suc left) ((if c then front ∷ whole_lines [] bytes else whole_lines (front ++ b ∷ []) bytes) ++ rest_lines ended (if c then last_part [] bytes else last_part (front ++ b ∷ []) bytes))) (Passed core n)) ≡ (if c then going_on (λ past m. verdict_on tohost left past m [] bytes ended) (after_line tohost front (Passed core n)) else if full then passing (after_line tohost (front ++ b ∷ []) (Passed core n)) else verdict_on tohost (suc left) core n (front ++ b ∷ []) bytes ended)
unfolding after_all
byte_cases true full tohost most left n core front b bytes ended short is after next =
    newline_cases tohost most left n core front _ (take left (whole_lines [] bytes ++ rest_lines ended (last_part [] bytes))) (λ past m. verdict_on tohost left past m [] bytes ended) (after_one tohost front core n) after
byte_cases false true tohost most left n core front b bytes ended short is after next =
    let whole : length front ≡ 255 = eqb-true (length front) 255 is in
    let long : length (front ++ b ∷ []) ≡ 256 = omega (arith, length-append front (b ∷ [])) in
    full_cases tohost most left n core (front ++ b ∷ []) _ _ long (long_first ended (front ++ b ∷ []) bytes (omega arith))
byte_cases false false tohost most left n core front b bytes ended short is after next =
    next (let other = eqb-false (length front) 255 is in omega arith)

full_by : (n : ℕ) (b : Bool) → b ≡ true → (if b && true then TooMany n else Passing n) ≡ TooMany n
full_by n true is = refl
full_by n false is = absurd (false≢true is)

full_count : (n : ℕ) (core : CoreState) → verdict_by n true (Passed core n) ≡ TooMany n
full_count n core = full_by n (n == n) (eq-eqb n n refl)

pub reckoned : (tohost most left n : ℕ) (core : CoreState) (front bytes : List ℕ) (ended : Bool) → most ≡ n + left → length front ≤ 255 → (left ≡ 0 → front ≡ []) → Reckoned tohost most left n core front bytes ended
unfolding whole_lines last_part after_lines after_all verdict_on
reckoned tohost most zero n core front [] ended is short none = no_more most (Passed core n)
reckoned tohost most zero n core front (b ∷ bytes) ended is short none =
    let same : most ≡ n = omega arith in
    subst (λ (m : ℕ). verdict_by m true (Passed core n) ≡ TooMany n) (sym same) (full_count n core)
reckoned tohost most (suc left) n core front [] ended is short none =
    end_cases tohost most left n core front (nat_le 256 (length front)) (ended && not (is_nil front)) (below_long front short (nat_le 256 (length front)) refl)
reckoned tohost most (suc left) n core front (b ∷ bytes) ended is short none =
    byte_cases (b == 10) (length front == 255) tohost most left n core front b bytes ended short refl
    (λ past. reckoned tohost most left (n + 1) past [] bytes ended (omega arith) (omega arith) (λ _. refl))
    (λ less. reckoned tohost most (suc left) n core (front ++ b ∷ []) bytes ended is (omega (arith, length-append front (b ∷ []))) (λ zero_left. absurd (omega arith)))

-- the verdict is the one that is reckoned as the bytes come
pub verdict_is : (core : CoreState) (tohost most : ℕ) (bytes : List ℕ) (ended : Bool) → verdict_of core tohost most bytes ended ≡ verdict_on tohost most core 0 [] bytes ended
unfolding verdict_of
verdict_is core tohost most bytes ended = reckoned tohost most most 0 core [] bytes ended (omega arith) (omega arith) (λ _. refl)

-- ---- byte by byte

pub over_stays : (tohost : ℕ) (v : Verdict) (bytes : List ℕ) → places tohost (Over v) bytes ≡ Over v
unfolding places next_place
over_stays tohost v [] = refl
over_stays tohost v (b ∷ bytes) = over_stays tohost v bytes

pub places_join : (tohost : ℕ) (p : Place) (xs ys : List ℕ) → places tohost p (xs ++ ys) ≡ places tohost (places tohost p xs) ys
unfolding places
places_join tohost p [] ys = refl
places_join tohost p (x ∷ xs) ys = places_join tohost (next_place tohost x p) xs ys

past_cases : (tohost left : ℕ) (bytes : List ℕ) (ended : Bool) (f : Finding) → ((past : CoreState) (m : ℕ) → verdict_on tohost left past m [] bytes ended ≡ verdict_at tohost ended (places tohost (At left past m []) bytes)) → going_on (λ past m. verdict_on tohost left past m [] bytes ended) f ≡ verdict_at tohost ended (places tohost (place_past left f) bytes)
past_cases tohost left bytes ended (Passed core n) same = same core n
past_cases tohost left bytes ended (Found v) same = ap (verdict_at tohost ended) (sym (over_stays tohost v bytes))

on_cases : (c full : Bool) (tohost left n : ℕ) (core : CoreState) (front : List ℕ) (b : ℕ) (bytes : List ℕ) (ended : Bool) → ((past : CoreState) (m : ℕ) → verdict_on tohost left past m [] bytes ended ≡ verdict_at tohost ended (places tohost (At left past m []) bytes)) → verdict_on tohost (suc left) core n (front ++ b ∷ []) bytes ended ≡ verdict_at tohost ended (places tohost (At (suc left) core n (front ++ b ∷ [])) bytes) → (if c then going_on (λ past m. verdict_on tohost left past m [] bytes ended) (after_line tohost front (Passed core n)) else if full then passing (after_line tohost (front ++ b ∷ []) (Passed core n)) else verdict_on tohost (suc left) core n (front ++ b ∷ []) bytes ended) ≡ verdict_at tohost ended (places tohost (if c then place_past left (after_line tohost front (Passed core n)) else if full then Over (passing (after_line tohost (front ++ b ∷ []) (Passed core n))) else At (suc left) core n (front ++ b ∷ [])) bytes)
on_cases true full tohost left n core front b bytes ended after next = past_cases tohost left bytes ended (after_line tohost front (Passed core n)) after
on_cases false true tohost left n core front b bytes ended after next = ap (verdict_at tohost ended) (sym (over_stays tohost _ bytes))
on_cases false false tohost left n core front b bytes ended after next = next

on_is : (tohost left : ℕ) (core : CoreState) (n : ℕ) (front bytes : List ℕ) (ended : Bool) → verdict_on tohost left core n front bytes ended ≡ verdict_at tohost ended (places tohost (At left core n front) bytes)
unfolding verdict_on places next_place
on_is tohost zero core n front [] ended = refl
on_is tohost (suc left) core n front [] ended = refl
on_is tohost zero core n front (b ∷ bytes) ended = ap (verdict_at tohost ended) (sym (over_stays tohost (TooMany n) bytes))
on_is tohost (suc left) core n front (b ∷ bytes) ended =
    on_cases (b == 10) (length front == 255) tohost left n core front b bytes ended (λ past m. on_is tohost left past m [] bytes ended) (on_is tohost (suc left) core n (front ++ b ∷ []) bytes ended)

pub verdict_placed : (core : CoreState) (tohost most : ℕ) (bytes : List ℕ) (ended : Bool) → verdict_of core tohost most bytes ended ≡ verdict_at tohost ended (places tohost (At most core 0 []) bytes)
verdict_placed core tohost most bytes ended = verdict_is core tohost most bytes ended ∙ on_is tohost most core 0 [] bytes ended

-- ---- what reading a line says

pub found_reads : (tohost : ℕ) (core : CoreState) (n : ℕ) (xs : List ℕ) (e : Event) → IsSpellable e → xs ≡ line e → after_line tohost xs (Passed core n) ≡ after_fault core tohost n e (fault_of core tohost e)
found_reads tohost core n xs e good is = ap (after_reading core tohost n (length xs)) (only_lem xs e good is)

stopped_cases : (tohost : ℕ) (core : CoreState) (n : ℕ) (xs ys : List ℕ) (k column : ℕ) → 131 < k → take k xs ≡ ys → length ys ≡ k → IsColumn ys column → (r : Result Event ℕ) → event_of xs ≡ r → after_line tohost xs (Passed core n) ≡ Found (BadLine n column)
stopped_cases tohost core n xs ys k column large is many stops (Ok e) one =
    absurd (let found = found_lem xs e one in let short = short_lem e found.0.0 in let whole = ap (λ (zs : List ℕ). length zs) found.1 in let t = length-take k xs in let m = ap (λ (zs : List ℕ). length zs) is in omega arith)
stopped_cases tohost core n xs ys k column large is many stops (Err l) one =
    ap (after_reading core tohost n (length xs)) one
    ∙ ap (λ (c : ℕ). Found (BadLine n c)) (same_column xs ys k (length xs - l) column large is many (column_lem xs l one).column stops)

-- the column of a line of 256 bytes is that of its first 255
pub full_stops : (tohost : ℕ) (core : CoreState) (n : ℕ) (front : List ℕ) (b column : ℕ) → length front ≡ 255 → IsColumn front column → after_line tohost (front ++ b ∷ []) (Passed core n) ≡ Found (BadLine n column)
full_stops tohost core n front b column many stops =
    stopped_cases tohost core n (front ++ b ∷ []) front 255 column (omega arith) (take-append-le 255 front (b ∷ []) (omega arith) ∙ take_all 255 front (omega arith)) many stops (event_of (front ++ b ∷ [])) refl

starts_same : (xs : List ℕ) (c d : ℕ) → IsColumn xs c → IsColumn xs d → (c < d) → ⊥
starts_same xs c d one two less = one.ends d less two.within two.begins

column_once : (xs : List ℕ) (c d : ℕ) → IsColumn xs c → IsColumn xs d → c ≡ d
column_once xs c d one two = by_order c d (cases_order c d) (starts_same xs c d one two) (starts_same xs d c two one)

bad_cases : (tohost : ℕ) (core : CoreState) (n : ℕ) (xs : List ℕ) (column : ℕ) → IsColumn xs column → ((e : Event) → IsSpellable e → xs ≡ line e → ⊥) → (r : Result Event ℕ) → event_of xs ≡ r → after_line tohost xs (Passed core n) ≡ Found (BadLine n column)
bad_cases tohost core n xs column stops none (Ok e) one = absurd (let found = found_lem xs e one in none e found.0 found.1)
bad_cases tohost core n xs column stops none (Err l) one =
    ap (after_reading core tohost n (length xs)) one ∙ ap (λ (c : ℕ). Found (BadLine n c)) (column_once xs (length xs - l) column (column_lem xs l one).column stops)

pub bad_reads : (tohost : ℕ) (core : CoreState) (n : ℕ) (xs : List ℕ) (column : ℕ) → IsColumn xs column → ((e : Event) → IsSpellable e → xs ≡ line e → ⊥) → after_line tohost xs (Passed core n) ≡ Found (BadLine n column)
bad_reads tohost core n xs column stops none = bad_cases tohost core n xs column stops none (event_of xs) refl

pub long_has_none : (xs : List ℕ) (e : Event) → length xs ≡ 255 → IsSpellable e → xs ≡ line e → ⊥
long_has_none xs e many good is = let short = short_lem e good.0 in let whole = ap (λ (zs : List ℕ). length zs) is in omega arith

-- ---- what a judge stands for

record Kept (tohost left n : ℕ) (core : CoreState) (front bytes : List ℕ) (l : ℕ) (c : CoreState) (m : ℕ) (f : List ℕ) : Type 0 where
  place : after_all tohost (whole_lines front bytes) (Passed core n) ≡ Passed c m
  rest : f ≡ last_part front bytes
  count : m + l ≡ n + left

over_at : (v : Verdict) (l : ℕ) (c : CoreState) (m : ℕ) (f : List ℕ) → Over v ≡ At l c m f → ⊥
over_at v l c m f is = cc

kept_here : (tohost left n : ℕ) (core : CoreState) (front : List ℕ) (l : ℕ) (c : CoreState) (m : ℕ) (f : List ℕ) → At left core n front ≡ At l c m f → Kept tohost left n core front [] l c m f
unfolding after_all whole_lines last_part
kept_here tohost left n core front l c m f is = record {
  place = let a : core ≡ c = cc in let b : n ≡ m = cc in rw (a, b) refl;
  rest = let a : front ≡ f = cc in sym a;
  count = let a : left ≡ l = cc in let b : n ≡ m = cc in omega arith;
}

kept_line : (tohost left n : ℕ) (core : CoreState) (front bytes : List ℕ) (l : ℕ) (c : CoreState) (m : ℕ) (f : List ℕ) → AfterLine tohost front core n → ((past : CoreState) → places tohost (At left past (n + 1) []) bytes ≡ At l c m f → Kept tohost left (n + 1) past [] bytes l c m f) → places tohost (place_past left (after_line tohost front (Passed core n))) bytes ≡ At l c m f → (after_all tohost (whole_lines [] bytes) (after_line tohost front (Passed core n)) ≡ Passed c m) × (f ≡ last_part [] bytes) × (m + l ≡ n + suc left)
kept_line tohost left n core front bytes l c m f (GoesOn past is) after at =
    let k = after past (ap (λ (g : Finding). places tohost (place_past left g) bytes) (sym is) ∙ at) in
    (ap (λ (g : Finding). after_all tohost (whole_lines [] bytes) g) is ∙ k.place, k.rest, (let count = k.count in omega arith))
kept_line tohost left n core front bytes l c m f (Ends v is) after at =
    absurd (over_at v l c m f (sym (over_stays tohost v bytes) ∙ ap (λ (g : Finding). places tohost (place_past left g) bytes) (sym is) ∙ at))

kept_cases : (k full : Bool) (tohost left n : ℕ) (core : CoreState) (front : List ℕ) (b : ℕ) (bytes : List ℕ) (l : ℕ) (c : CoreState) (m : ℕ) (f : List ℕ) → ((past : CoreState) → places tohost (At left past (n + 1) []) bytes ≡ At l c m f → Kept tohost left (n + 1) past [] bytes l c m f) → (places tohost (At (suc left) core n (front ++ b ∷ [])) bytes ≡ At l c m f → Kept tohost (suc left) n core (front ++ b ∷ []) bytes l c m f) → places tohost (if k then place_past left (after_line tohost front (Passed core n)) else if full then Over (passing (after_line tohost (front ++ b ∷ []) (Passed core n))) else At (suc left) core n (front ++ b ∷ [])) bytes ≡ At l c m f → (after_all tohost (if k then front ∷ whole_lines [] bytes else whole_lines (front ++ b ∷ []) bytes) (Passed core n) ≡ Passed c m) × (f ≡ (if k then last_part [] bytes else last_part (front ++ b ∷ []) bytes)) × (m + l ≡ n + suc left)
unfolding after_all
kept_cases true full tohost left n core front b bytes l c m f after next at = kept_line tohost left n core front bytes l c m f (after_one tohost front core n) after at
kept_cases false true tohost left n core front b bytes l c m f after next at = absurd (over_at _ l c m f (sym (over_stays tohost (passing (after_line tohost (front ++ b ∷ []) (Passed core n))) bytes) ∙ at))
kept_cases false false tohost left n core front b bytes l c m f after next at = let k = next at in (k.place, k.rest, k.count)

kept_on : (tohost left n : ℕ) (core : CoreState) (front bytes : List ℕ) (l : ℕ) (c : CoreState) (m : ℕ) (f : List ℕ) → places tohost (At left core n front) bytes ≡ At l c m f → Kept tohost left n core front bytes l c m f
unfolding places next_place whole_lines last_part
kept_on tohost left n core front [] l c m f at = kept_here tohost left n core front l c m f at
kept_on tohost zero n core front (b ∷ bytes) l c m f at = absurd (over_at (TooMany n) l c m f (sym (over_stays tohost (TooMany n) bytes) ∙ at))
kept_on tohost (suc left) n core front (b ∷ bytes) l c m f at =
    let k = kept_cases (b == 10) (length front == 255) tohost left n core front b bytes l c m f (λ past. kept_on tohost left (n + 1) past [] bytes l c m f) (kept_on tohost (suc left) n core (front ++ b ∷ []) bytes l c m f) at in
    record { place = k.0; rest = k.1; count = k.2 }

-- a verdict that is found is no Passing
final_same : (v w : Verdict) → IsFinal v → Over v ≡ Over w → IsFinal w
final_same v w last is = subst IsFinal (let same : v ≡ w = cc in same) last

data FinalLine (tohost : ℕ) (bytes : List ℕ) (core : CoreState) (n : ℕ) : Type 0 where
  On : (past : CoreState) (m : ℕ) → after_line tohost bytes (Passed core n) ≡ Passed past m → FinalLine tohost bytes core n
  Final : (v : Verdict) → IsFinal v → after_line tohost bytes (Passed core n) ≡ Found v → FinalLine tohost bytes core n

final_fault : (tohost : ℕ) (bytes : List ℕ) (core : CoreState) (n : ℕ) (e : Event) (f : Option Fault) → after_line tohost bytes (Passed core n) ≡ after_fault core tohost n e f → FinalLine tohost bytes core n
final_fault tohost bytes core n e None is = On (core_past core tohost e) (n + 1) is
final_fault tohost bytes core n e (Some fault) is = Final (Disallowed n fault.field fault.allowed fault.given) tt is

final_reading : (tohost : ℕ) (bytes : List ℕ) (core : CoreState) (n : ℕ) (r : Result Event ℕ) → event_of bytes ≡ r → FinalLine tohost bytes core n
final_reading tohost bytes core n (Ok e) is = final_fault tohost bytes core n e (fault_of core tohost e) (ap (after_reading core tohost n (length bytes)) is)
final_reading tohost bytes core n (Err left) is = Final (BadLine n (length bytes - left)) tt (ap (after_reading core tohost n (length bytes)) is)

final_line : (tohost left n : ℕ) (core : CoreState) (front bytes : List ℕ) (v : Verdict) → FinalLine tohost front core n → ((past : CoreState) (m : ℕ) → places tohost (At left past m []) bytes ≡ Over v → IsFinal v) → places tohost (place_past left (after_line tohost front (Passed core n))) bytes ≡ Over v → IsFinal v
final_line tohost left n core front bytes v (On past m is) after over = after past m (ap (λ (g : Finding). places tohost (place_past left g) bytes) (sym is) ∙ over)
final_line tohost left n core front bytes v (Final w last is) after over =
    final_same w v last (sym (over_stays tohost w bytes) ∙ ap (λ (g : Finding). places tohost (place_past left g) bytes) (sym is) ∙ over)

final_full : (tohost n : ℕ) (core : CoreState) (front bytes : List ℕ) (v : Verdict) → length front ≡ 256 → places tohost (Over (passing (after_line tohost front (Passed core n)))) bytes ≡ Over v → IsFinal v
final_full tohost n core front bytes v many over =
    let one = long_line tohost core n front front (take_all 256 front (omega arith)) many in
    final_same one.verdict v one.last (ap (λ (g : Finding). Over (passing g)) (sym one.front) ∙ sym (over_stays tohost _ bytes) ∙ over)

final_cases : (k full : Bool) (tohost left n : ℕ) (core : CoreState) (front : List ℕ) (b : ℕ) (bytes : List ℕ) (v : Verdict) → (length front == 255) ≡ full → ((past : CoreState) (m : ℕ) → places tohost (At left past m []) bytes ≡ Over v → IsFinal v) → (places tohost (At (suc left) core n (front ++ b ∷ [])) bytes ≡ Over v → IsFinal v) → places tohost (if k then place_past left (after_line tohost front (Passed core n)) else if full then Over (passing (after_line tohost (front ++ b ∷ []) (Passed core n))) else At (suc left) core n (front ++ b ∷ [])) bytes ≡ Over v → IsFinal v
final_cases true full tohost left n core front b bytes v is after next over = final_line tohost left n core front bytes v (final_reading tohost front core n (event_of front) refl) after over
final_cases false true tohost left n core front b bytes v is after next over =
    let whole : length front ≡ 255 = eqb-true (length front) 255 is in
    final_full tohost n core (front ++ b ∷ []) bytes v (omega (arith, length-append front (b ∷ []))) over
final_cases false false tohost left n core front b bytes v is after next over = next over

at_over : (v : Verdict) (l : ℕ) (c : CoreState) (m : ℕ) (f : List ℕ) → At l c m f ≡ Over v → ⊥
at_over v l c m f is = cc

over_final : (tohost left n : ℕ) (core : CoreState) (front bytes : List ℕ) (v : Verdict) → places tohost (At left core n front) bytes ≡ Over v → IsFinal v
unfolding places next_place
over_final tohost left n core front [] v over = absurd (at_over v left core n front over)
over_final tohost zero n core front (b ∷ bytes) v over = final_same (TooMany n) v tt (sym (over_stays tohost (TooMany n) bytes) ∙ over)
over_final tohost (suc left) n core front (b ∷ bytes) v over =
    final_cases (b == 10) (length front == 255) tohost left n core front b bytes v refl (λ past m. over_final tohost left m past [] bytes v) (over_final tohost (suc left) n core (front ++ b ∷ []) bytes v) over

pub passing_at : (tohost l : ℕ) (c : CoreState) (m : ℕ) (f : List ℕ) → verdict_at tohost false (At l c m f) ≡ Passing m
passing_at tohost zero c m f = refl
passing_at tohost (suc l) c m f = refl

verdict_here : (j : JudgeState) (v : Verdict) → verdict_at j.tohost false (place_by j v) ≡ v
verdict_here j (Passing n) = passing_at j.tohost (j.most - n) j.core n j.front
verdict_here j (Disallowed n field allowed given) = refl
verdict_here j (BadLine n column) = refl
verdict_here j (TooMany n) = refl

pub stands : (j : JudgeState) (core : CoreState) (bytes : List ℕ) → IsFalse j.finished → place_of j ≡ places j.tohost (At j.most core 0 []) bytes → StandsFor j core bytes
stands j core bytes unfinished is = record {
  unfinished = unfinished;
  verdict = sym (verdict_here j j.verdict) ∙ ap (verdict_at j.tohost false) is ∙ sym (verdict_placed core j.tohost j.most bytes false);
  kept = λ k passes.
      let at = sym is ∙ ap (place_by j) passes in
      let kept = kept_on j.tohost j.most 0 core [] bytes (j.most - k) j.core k j.front at in
      record { place = kept.place; front = kept.rest };
}

pub over_by : (j : JudgeState) (v : Verdict) → IsFinal v → place_by j v ≡ Over v
over_by j (Passing n) last = absurd last
over_by j (Disallowed n field allowed given) last = refl
over_by j (BadLine n column) last = refl
over_by j (TooMany n) last = refl

placed_cases : (j : JudgeState) (core : CoreState) (bytes : List ℕ) → StandsFor j core bytes → (p : Place) → places j.tohost (At j.most core 0 []) bytes ≡ p → place_of j ≡ p
placed_cases j core bytes s (At l c m f) is =
    let verdict : j.verdict ≡ Passing m = s.verdict ∙ verdict_placed core j.tohost j.most bytes false ∙ ap (verdict_at j.tohost false) is ∙ passing_at j.tohost l c m f in
    let mine = s.kept m verdict in
    let kept = kept_on j.tohost j.most 0 core [] bytes l c m f is in
    let same_core : j.core ≡ c = let a = mine.place in let b = kept.place in cc in
    let same_front : j.front ≡ f = mine.front ∙ sym kept.rest in
    let same_left : j.most - m ≡ l = let count = kept.count in omega arith in
    ap (place_by j) verdict ∙ ap (λ (n : ℕ). At n j.core m j.front) same_left ∙ ap (λ (x : CoreState). At l x m j.front) same_core ∙ ap (At l c m) same_front
placed_cases j core bytes s (Over v) is =
    let verdict : j.verdict ≡ v = s.verdict ∙ verdict_placed core j.tohost j.most bytes false ∙ ap (verdict_at j.tohost false) is in
    ap (place_by j) verdict ∙ over_by j v (over_final j.tohost j.most 0 core [] bytes v is)

pub placed : (j : JudgeState) (core : CoreState) (bytes : List ℕ) → StandsFor j core bytes → place_of j ≡ places j.tohost (At j.most core 0 []) bytes
placed j core bytes s = placed_cases j core bytes s (places j.tohost (At j.most core 0 []) bytes) refl

pub stands_on : (before after : JudgeState) (piece : List ℕ) → after.tohost ≡ before.tohost → after.most ≡ before.most → after.finished ≡ before.finished → place_of after ≡ places before.tohost (place_of before) piece → (core : CoreState) (bytes : List ℕ) → StandsFor before core bytes → StandsFor after core (bytes ++ piece)
stands_on before after piece tohost most finished is core bytes s =
    stands after core (bytes ++ piece) (finished ∙ s.unfinished)
    (is ∙ ap (λ (p : Place). places before.tohost p piece) (placed before core bytes s) ∙ sym (places_join before.tohost (At before.most core 0 []) bytes piece)
    ∙ ap (λ (t : ℕ). places t (At before.most core 0 []) (bytes ++ piece)) (sym tohost) ∙ ap (λ (m : ℕ). places after.tohost (At m core 0 []) (bytes ++ piece)) (sym most))

stays_cases : (tohost : ℕ) (v : Verdict) → IsFinal v → (later : List ℕ) (ended : Bool) (p : Place) → verdict_at tohost false p ≡ v → verdict_at tohost ended (places tohost p later) ≡ v
stays_cases tohost v last later ended (At l c m f) is = absurd (subst IsFinal (sym is ∙ passing_at tohost l c m f) last)
stays_cases tohost v last later ended (Over w) is = ap (verdict_at tohost ended) (over_stays tohost w later) ∙ is

-- a verdict that is found is that of every longer stream
pub stays_so : (core : CoreState) (tohost most : ℕ) (bytes : List ℕ) (v : Verdict) → verdict_of core tohost most bytes false ≡ v → IsFinal v → (later : List ℕ) (ended : Bool) → verdict_of core tohost most (bytes ++ later) ended ≡ v
stays_so core tohost most bytes v is last later ended =
    verdict_placed core tohost most (bytes ++ later) ended
    ∙ ap (verdict_at tohost ended) (places_join tohost (At most core 0 []) bytes later)
    ∙ stays_cases tohost v last later ended (places tohost (At most core 0 []) bytes) (sym (verdict_placed core tohost most bytes false) ∙ is)

-- a judge whose verdict stays stands for whatever follows
pub over_stands : (j : JudgeState) → IsFinal j.verdict → (piece : List ℕ) (core : CoreState) (bytes : List ℕ) → StandsFor j core bytes → StandsFor j core (bytes ++ piece)
over_stands j last piece core bytes s = record {
  unfinished = s.unfinished;
  verdict = sym (stays_so core j.tohost j.most bytes j.verdict (sym s.verdict) last piece false);
  kept = λ n is. absurd (subst IsFinal is last);
}
