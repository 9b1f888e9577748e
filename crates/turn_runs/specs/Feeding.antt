-- The input of a run, of which at most one byte was read that no turn has taken yet.
use Rattle.std.specs.Prelude.{◌≡◌, ◌<◌, ◌≤◌, ℕ, zero, suc, ◌+◌, List, [], ◌∷◌, length, drop, IfSome, IsTrue, IsFalse, Option, Some, None, slice_get}
use Rattle.std.specs.Io.KnownBytes.{Keeps}
use Rattle.outside_acts.specs.declared.Stop.{Stop}
use Rattle.outside_acts.specs.declared.Stop.TheVariants.{Input}
use Rattle.outside_acts.specs.Acts.{Act, ReadTo, Did, read}
use Rattle.outside_acts.specs.Calls.{OnlyRead}
use Rattle.outside_acts.specs.World.{World}
use Rattle.turn_runs.specs.declared.feed.Feed.{Feed}

-- how many bytes these are: none or one
abbrev pub byte_count : Option ℕ → ℕ
byte_count None = 0
byte_count (Some byte) = 1

-- of the whole input, so many bytes were taken, and the byte is the next, where there is one; the rest is left
pub record IsFed (bytes : List ℕ) (taken : ℕ) (feed : Feed) (left : Option (List ℕ)) : Type 0 where
  pub left_is : left ≡ Some (drop (taken + byte_count feed.byte) bytes)
  pub byte_is : IfSome feed.byte (λ byte. slice_get bytes taken ≡ Some byte)
  pub ended_is : IsTrue feed.ended → (feed.byte ≡ None) × (length bytes ≤ taken)

-- the same, where so many bytes were read in all: as many as were taken, where there is no byte of an input that goes on
pub record IsFedFrom (bytes : List ℕ) (taken from : ℕ) (feed : Feed) (left : Option (List ℕ)) : Type 0 where
  pub fed : IsFed bytes taken feed left
  pub left_from : left ≡ Some (drop from bytes)
  pub from_is : feed.byte ≡ None → IsFalse feed.ended → from ≡ taken

-- ---- the byte that is offered next

-- it was read, where the input has one
pub record IsFilled (bytes : List ℕ) (taken : ℕ) (feed : Feed) (left : Option (List ℕ)) : Type 0 where
  pub next_is : feed.byte ≡ slice_get bytes taken
  pub left_is : left ≡ Some (drop (taken + 1) bytes)
  pub fed : IsFed bytes taken feed left

-- the input was read for it, where there was none
pub record Fills (feed now : Feed) (before after : World) : Type 0 where
  pub filled : (bytes : List ℕ) (taken : ℕ) → IsFed bytes taken feed before.left → IsFilled bytes taken now after.left
  pub ended : now.byte ≡ None → IsTrue now.ended
  pub rest : OnlyRead before after

-- the input failed where there was no byte, and none was read
pub record ReadsNothing (stop : Stop) (feed : Feed) (before after : World) : Type 0 where
  pub stop_is : stop ≡ Input
  pub none : feed.byte ≡ None
  pub goes : IsFalse feed.ended
  pub same : Keeps before.left after.left
  pub rest : OnlyRead before after

-- ---- bytes that are passed over

-- of an input from its first byte on, so many are read, or all that it has
abbrev pub pass_acts : ℕ → List Act
pass_acts zero = []
pass_acts (suc n) = ReadTo (suc n) ∷ []

-- so many bytes were passed over, and a turn that is offered the next one finds its place. Where the input had fewer,
-- its end was met
pub record HasPassed (bytes : List ℕ) (count : ℕ) (feed : Feed) (before after : World) : Type 0 where
  pub fed : IsFedFrom bytes count (read (pass_acts count) 0) feed after.left
  pub ended : length bytes < count → IsTrue feed.ended
  pub did : Did bytes 0 (pass_acts count) before after
