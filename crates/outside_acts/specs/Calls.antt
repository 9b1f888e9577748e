-- What a call on all that is outside leaves: its acts, which counts of faults rose, and quiet objects.
use Rattle.std.specs.Prelude.{◌≡◌, ℕ, List, drop, Some, Result, Ok, Err, IfErr, IsSome}
use Rattle.outside_io.specs.Content.{IsHeld}
use Rattle.outside_io.specs.declared.OutFault.{OutFault}
use Rattle.outside_io.specs.declared.OutFault.TheVariants as fault
use Rattle.outside_acts.specs.declared.Stop.{Stop}
use Rattle.outside_acts.specs.declared.Stop.TheVariants.{Input, Out, Files, NoMemory}
use Rattle.outside_acts.specs.Acts.{Act, Did, DidCut}
use Rattle.outside_acts.specs.World.{Counted, Writing, TheInput, Console, Counts, NonePassedOver, OnlyRose, World}

-- ---- acts, wherever the input stood

-- the acts were done
abbrev pub Does : List Act → World → World → Type 0
Does acts before now = (bytes : List ℕ) (from : ℕ) → before.left ≡ Some (drop from bytes) → Did bytes from acts before now

-- they were cut by this stop
abbrev pub Stops : Stop → List Act → World → World → Type 0
Stops stop acts before now = (bytes : List ℕ) (from : ℕ) → before.left ≡ Some (drop from bytes) → DidCut stop bytes from acts before now

-- the input alone changed
pub record OnlyRead (before now : World) : Type 0 where
  pub written : now.written ≡ before.written
  pub held : now.held ≡ before.held

-- ---- causes

-- the stop of an object's fault
abbrev pub stop_by : OutFault → Stop → Stop
stop_by fault.Failed stop = stop
stop_by fault.NoMemory stop = NoMemory

-- a job stops so only where the count of the object that the stop names rose and no other, and where memory lacked
-- none rose; it stops by no object but those that it uses
abbrev pub stop_cause : Stop → (Counted → Type 0) → Counts → Counts → Type 0
stop_cause Input Uses before now = Uses TheInput × OnlyRose TheInput before now
stop_cause Out Uses before now = Uses Console × OnlyRose Console before now
stop_cause Files Uses before now = Uses Writing × OnlyRose Writing before now
stop_cause NoMemory Uses before now = NonePassedOver before now

abbrev pub result_cause : {T : Type 0} → (Counted → Type 0) → Result T Stop → Counts → Counts → Type 0
result_cause Uses (Ok x) before now = NonePassedOver before now
result_cause Uses (Err stop) before now = stop_cause stop Uses before now

-- a call that uses one object
abbrev pub Only : Counted → Counted → Type 0
Only counted other = other ≡ counted

-- why a call answered so, whatever is told
pub record Caused {T : Type 0} (Uses : Counted → Type 0) (result : Result T Stop) (before now : World) : Type 0 where
  -- which counts rose
  pub count : result_cause Uses result before.counts now.counts
  -- the objects are the same ones
  pub same : now.objects ≡ before.objects
  -- files that tell what they hold go on to tell it
  pub told : IsSome before.held → IsSome now.held
  -- a file that is held stays held
  pub holds : (name : List ℕ) → IsHeld before.held name → IsHeld now.held name

-- ---- quiet objects

-- what was done over quiet objects stopped for want of memory at the most, and the objects are quiet still
pub record GoesQuietly {T : Type 0} (quiet_now : Type 0) (result : Result T Stop) : Type 0 where
  pub unfailed : IfErr result (λ stop. stop ≡ NoMemory)
  pub still : quiet_now
