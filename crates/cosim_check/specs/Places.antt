-- The verdict reckoned byte by byte, as a judge does it.
use Rattle.std.specs.Prelude.{◌≡◌, ℕ, zero, suc, ◌-◌, ◌==◌, ◌&&◌, not, Bool, List, [], ◌∷◌, ◌++◌, length, if◌then◌else◌}
use Rattle.hart_step.specs.Harts.{CoreState}
use Rattle.cosim_check.specs.declared.verdict.Verdict.{Verdict}
use Rattle.cosim_check.specs.declared.verdict.Verdict.TheVariants.{Passing, Disallowed, BadLine, TooMany}
use Rattle.cosim_check.specs.Lines.{is_nil, newline}
use Rattle.cosim_check.specs.Verdicts.{Finding, Found, Passed, after_line}
use Rattle.cosim_check.specs.Standing.{JudgeState}

-- no newline is among these bytes
abbrev pub IsPlain : List ℕ → Type 0
IsPlain [] = Unit {0}
IsPlain (b ∷ bytes) = (b ≡ newline → ⊥) × IsPlain bytes

-- the verdict where nothing follows
abbrev pub passing : Finding → Verdict
passing (Passed core n) = Passing n
passing (Found verdict) = verdict

-- ---- by recursion over the bytes

abbrev pub going_on : (CoreState → ℕ → Verdict) → Finding → Verdict
going_on next (Passed core n) = next core n
going_on next (Found verdict) = verdict

-- the verdict on bytes that come after n records passed and the front of a line has come; `left` records more may pass
unfoldable pub verdict_on : ℕ → ℕ → CoreState → ℕ → List ℕ → List ℕ → Bool → Verdict
verdict_on tohost zero core n front [] ended = Passing n
verdict_on tohost zero core n front (b ∷ bytes) ended = TooMany n
verdict_on tohost (suc left) core n front [] ended =
    if ended && not (is_nil front) then passing (after_line tohost front (Passed core n)) else Passing n
verdict_on tohost (suc left) core n front (b ∷ bytes) ended =
    if b == newline then going_on (λ past m. verdict_on tohost left past m [] bytes ended) (after_line tohost front (Passed core n))
    else if length front == 255 then passing (after_line tohost (front ++ b ∷ []) (Passed core n))
    else verdict_on tohost (suc left) core n (front ++ b ∷ []) bytes ended

-- ---- by a place that each byte moves

-- where a stream stands: so many records more may pass, the core, how many have passed, and the front of a line that
-- has come; or its verdict is found
pub data Place : Type 0 where
  At : ℕ → CoreState → ℕ → List ℕ → Place
  Over : Verdict → Place

abbrev pub place_past : ℕ → Finding → Place
place_past left (Passed core n) = At left core n []
place_past left (Found verdict) = Over verdict

-- after one byte
unfoldable pub next_place : ℕ → ℕ → Place → Place
next_place tohost b (Over verdict) = Over verdict
next_place tohost b (At zero core n front) = Over (TooMany n)
next_place tohost b (At (suc left) core n front) =
    if b == newline then place_past left (after_line tohost front (Passed core n))
    else if length front == 255 then Over (passing (after_line tohost (front ++ b ∷ []) (Passed core n)))
    else At (suc left) core n (front ++ b ∷ [])

-- after these bytes
unfoldable pub places : ℕ → Place → List ℕ → Place
places tohost place [] = place
places tohost place (b ∷ bytes) = places tohost (next_place tohost b place) bytes

-- the verdict there, so far or at the end of the stream
abbrev pub verdict_at : ℕ → Bool → Place → Verdict
verdict_at tohost ended (Over verdict) = verdict
verdict_at tohost ended (At zero core n front) = Passing n
verdict_at tohost ended (At (suc left) core n front) =
    if ended && not (is_nil front) then passing (after_line tohost front (Passed core n)) else Passing n

-- where a judge stands
abbrev pub place_by : JudgeState → Verdict → Place
place_by j (Passing n) = At (j.most - n) j.core n j.front
place_by j (Disallowed n field allowed given) = Over (Disallowed n field allowed given)
place_by j (BadLine n column) = Over (BadLine n column)
place_by j (TooMany n) = Over (TooMany n)

abbrev pub place_of : JudgeState → Place
place_of j = place_by j j.verdict
