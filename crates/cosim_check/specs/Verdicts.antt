-- The verdict on a stream.
use Rattle.std.specs.Prelude.{ℕ, ◌+◌, ◌-◌, ◌==◌, Bool, ◌&&◌, not, List, [], ◌∷◌, length, take, Option, Some, None, Result, Ok, Err, if◌then◌else◌}
use Rattle.hart_step.specs.declared.event.Event.{Event}
use Rattle.hart_step.specs.Harts.{CoreState}
use Rattle.commit_log.specs.Reading.{event_of}
use Rattle.cosim_check.specs.declared.record.Fault.{Fault}
use Rattle.cosim_check.specs.declared.verdict.Verdict.{Verdict}
use Rattle.cosim_check.specs.declared.verdict.Verdict.TheVariants.{Passing, Disallowed, BadLine, TooMany}
use Rattle.cosim_check.specs.Lines.{after_lines, is_nil, judged}
use Rattle.cosim_check.specs.Records.{core_past, fault_of}

-- after some lines: all of them passed, so many, and led to this core; or the verdict is found
pub data Finding : Type 0 where
  Passed : CoreState → ℕ → Finding
  Found : Verdict → Finding

-- line n is the line of this record, with which this is wrong
abbrev pub after_fault : CoreState → ℕ → ℕ → Event → Option Fault → Finding
after_fault core tohost n e None = Passed (core_past core tohost e) (n + 1)
after_fault core tohost n e (Some fault) = Found (Disallowed n fault.field fault.allowed fault.given)

-- line n, of so many bytes, was read to this; an error of reading is the number of bytes that are left where it stops
abbrev pub after_reading : CoreState → ℕ → ℕ → ℕ → Result Event ℕ → Finding
after_reading core tohost n count (Ok e) = after_fault core tohost n e (fault_of core tohost e)
after_reading core tohost n count (Err left) = Found (BadLine n (count - left))

-- after one line more
abbrev pub after_line : ℕ → List ℕ → Finding → Finding
after_line tohost bytes (Found verdict) = Found verdict
after_line tohost bytes (Passed core n) = after_reading core tohost n (length bytes) (event_of bytes)

unfoldable pub after_all : ℕ → List (List ℕ) → Finding → Finding
after_all tohost [] finding = finding
after_all tohost (l ∷ ls) finding = after_all tohost ls (after_line tohost l finding)

-- the verdict by what was found of the first `most` lines, and by whether a byte stands after them
abbrev pub verdict_by : ℕ → Bool → Finding → Verdict
verdict_by most more (Found verdict) = verdict
verdict_by most more (Passed core n) = if (n == most) && more then TooMany most else Passing n

-- whether a byte stands after the first `most` lines
abbrev pub goes_on : ℕ → List ℕ → Bool
goes_on most bytes = not (is_nil (after_lines most bytes))

-- the lines that decide: the first `most` that are judged
abbrev pub deciding : ℕ → List ℕ → Bool → List (List ℕ)
deciding most bytes ended = take most (judged bytes ended)

-- the verdict on a stream, on one that has ended or on its bytes so far, by the core that it begins with, the host
-- window and the limit of records
unfoldable pub verdict_of : CoreState → ℕ → ℕ → List ℕ → Bool → Verdict
verdict_of core tohost most bytes ended =
    verdict_by most (goes_on most bytes) (after_all tohost (deciding most bytes ended) (Passed core 0))

-- a verdict that stays, whatever follows
abbrev pub IsFinal : Verdict → Type 0
IsFinal (Passing n) = ⊥
IsFinal (Disallowed n field allowed given) = Unit {0}
IsFinal (BadLine n column) = Unit {0}
IsFinal (TooMany n) = Unit {0}

-- how many records passed
abbrev pub number : Verdict → ℕ
number (Passing n) = n
number (Disallowed n field allowed given) = n
number (BadLine n column) = n
number (TooMany n) = n
