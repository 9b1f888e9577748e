-- The verdict on a stream that comes as the input, and how far it was read.
use Rattle.std.specs.Prelude.{◌≡◌, ℕ, ◌-◌, ◌<◌, List, [], ◌∷◌, length, take, true, false}
use Rattle.hart_step.specs.Harts.{CoreState}
use Rattle.cosim_check.specs.declared.verdict.Verdict.{Verdict}
use Rattle.cosim_check.specs.declared.verdict.Verdict.TheVariants.{Passing, Disallowed, BadLine, TooMany}
use Rattle.cosim_check.specs.Verdicts.{verdict_of}
use Rattle.outside_acts.specs.declared.Stop.{Stop}
use Rattle.outside_acts.specs.Acts.{ReadTo, Did, DidCut}
use Rattle.outside_acts.specs.World.{World}

-- the most records of one stream
abbrev pub most_records : ℕ
most_records = 1000000000

-- the verdict on the whole stream, by the core that it begins with and the host window
abbrev pub stream_verdict : CoreState → ℕ → List ℕ → Verdict
stream_verdict core tohost bytes = verdict_of core tohost most_records bytes true

-- nothing was refused
abbrev pub IsPassing : Verdict → Type 0
IsPassing (Passing n) = Unit {0}
IsPassing (Disallowed n field allowed given) = ⊥
IsPassing (BadLine n column) = ⊥
IsPassing (TooMany n) = ⊥

-- how far a stream was read where its judging stopped: what was read, without its last 4,096 bytes, passes so far; and a
-- stream that passes is read to its end, which is seen by a read after its last byte
pub record IsReadTo (core : CoreState) (tohost : ℕ) (bytes : List ℕ) (count : ℕ) : Type 0 where
  pub passing : IsPassing (verdict_of core tohost most_records (take (count - 4096) bytes) false)
  pub whole : IsPassing (stream_verdict core tohost bytes) → length bytes < count

-- the bytes before the last of so many pass so far
abbrev pub PassesSoFar : CoreState → ℕ → List ℕ → ℕ → Type 0
PassesSoFar core tohost bytes count = IsPassing (verdict_of core tohost most_records (take (count - 1) bytes) false)

-- the whole stream was judged, and so far it was read
pub record IsJudged (core : CoreState) (tohost : ℕ) (bytes : List ℕ) (verdict : Verdict) (before now : World) : Type 0 where
  pub verdict_is : verdict ≡ stream_verdict core tohost bytes
  pub count : ℕ
  pub far : IsReadTo core tohost bytes count
  pub did : Did bytes 0 (ReadTo count ∷ []) before now

-- its reading was cut by this stop, and all that was read before it passes so far
pub record JudgingStops (stop : Stop) (core : CoreState) (tohost : ℕ) (bytes : List ℕ) (before now : World) : Type 0 where
  pub count : ℕ
  pub passed : PassesSoFar core tohost bytes count
  pub cut : DidCut stop bytes 0 (ReadTo count ∷ []) before now
