-- What a run of the code that may save reaches, and how it is cut.
use Rattle.std.specs.Prelude.{◌≡◌, ◌⊎◌, ℕ, List, Bool, IfSome, is_some, ⊤}
use Rattle.hart_turns.specs.declared.machine.TurnEnd.{TurnEnd}
use Rattle.hart_turns.specs.Fit.{IsFit}
use Rattle.hart_turns.specs.Machine.{MachineState}
use Rattle.outside_acts.specs.declared.Stop.{Stop}
use Rattle.outside_acts.specs.Acts.{DidCut}
use Rattle.outside_acts.specs.Calls.{Does, Stops}
use Rattle.outside_acts.specs.World.{Counted, Reading, Writing, TheInput, Console, World}
use Rattle.image_saver.specs.Saving.{save_acts}
use Rattle.turn_runs.specs.declared.feed.Feed.{Feed}
use Rattle.turn_runs.specs.Reaching.{Reached}
use Rattle.turn_runs.specs.Run.{no_logs, run}
use Rattle.checkpoint_run.specs.Saving.{IsRomOf, SaveComesTo, IsSound, SaveRan}

-- so many turns were made in all, the last of which ended so, and whether the machine was saved
pub record IsSaveRun (bytes : List ℕ) (from : ℕ) (name : List ℕ) (m : MachineState) (turns more : ℕ) (now : MachineState)
    (made : ℕ) (end : TurnEnd) (saved : Bool) (feed : Feed) (before after : World) : Type 0 where
  pub ran : SaveRan
  pub is : SaveComesTo name bytes m turns more ran
  pub made_is : made ≡ ran.made
  pub end_is : end ≡ ran.last
  pub saved_is : saved ≡ is_some ran.saved
  -- what was saved is well formed, and its boot ROM restores it
  pub sound : IfSome ran.saved IsSound
  pub reached : Reached bytes from ran.acts ran.machine now feed before after

-- the acts of such a run were cut by this stop
pub record SaveStops (stop : Stop) (bytes : List ℕ) (from : ℕ) (name : List ℕ) (m : MachineState) (turns more : ℕ)
    (before after : World) : Type 0 where
  pub ran : SaveRan
  pub is : SaveComesTo name bytes m turns more ran
  pub cut : DidCut stop bytes from ran.acts before after

-- those of the turns before the save were, which says nothing of a boot ROM; or those of the whole run, and what was
-- saved is well formed, and its boot ROM restores it
abbrev pub StopsAnywhere : Stop → List ℕ → ℕ → List ℕ → MachineState → ℕ → ℕ → World → World → Type 0
StopsAnywhere stop bytes from name m turns more before after =
    DidCut stop bytes from (run no_logs bytes m turns).acts before after
    ⊎ ((stops : SaveStops stop bytes from name m turns more before after) × IfSome stops.ran.saved IsSound)

-- ---- the checkpoint alone

-- the machine, which is well formed, was saved with a boot ROM that restores it
pub record WasSaved (name : List ℕ) (m : MachineState) (before after : World) : Type 0 where
  pub fit : IsFit m
  pub rom : List ℕ
  pub is : IsRomOf m rom
  pub does : Does (save_acts name m rom) before after

-- the save of this machine, which is well formed, was cut by this stop
pub record SaveWasCut (stop : Stop) (name : List ℕ) (m : MachineState) (before after : World) : Type 0 where
  pub fit : IsFit m
  pub rom : List ℕ
  pub is : IsRomOf m rom
  pub stops : Stops stop (save_acts name m rom) before after

-- ---- what is used

-- the input and the console are, and files are written
abbrev pub save_uses : Counted → Type 0
save_uses Reading = ⊥
save_uses Writing = ⊤
save_uses TheInput = ⊤
save_uses Console = ⊤
