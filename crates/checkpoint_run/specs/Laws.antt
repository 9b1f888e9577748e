-- What follows from the definitions: what a run keeps, what logs do not change, what the written files restore, and what
-- a cut leaves.
use Rattle.std.specs.Prelude.{◌≡◌, ◌≤◌, ℕ, IsTrue, List, [], ◌++◌, None, Ok, Some}
use Rattle.hart_step.specs.Fit.{AreBytes}
use Rattle.hart_turns.specs.Boot.{Boots}
use Rattle.hart_turns.specs.Fit.{IsFit}
use Rattle.hart_turns.specs.Machine.{MachineState, cleared, is_running}
use Rattle.outside_io.specs.Content.{Held}
use Rattle.outside_acts.specs.declared.Stop.{Stop}
use Rattle.outside_acts.specs.Acts.{Act, IsCut, filed, sent}
use Rattle.outside_acts.specs.World.{World}
use Rattle.image_saver.specs.Checkpoint.{Checkpoint, checkpoint_of, debug_of}
use Rattle.image_saver.specs.Saving.{save_acts}
use Rattle.job_words.specs.Job.{Logs}
use Rattle.turn_runs.specs.Run.{Ran, no_logs, run}
use Rattle.checkpoint_run.specs.Leaves.{AfterCheckpoint, InTurns, SaveLeaves, SavePlace}
use Rattle.checkpoint_run.specs.Reaching.{SaveStops, StopsAnywhere}
use Rattle.checkpoint_run.specs.Saving.{IsRomOf, SaveComesTo, IsSound, SaveRan, Saved}

-- ---- runs

-- a machine is well formed and runs
pub record IsGoing (m : MachineState) : Type 0 where
  pub fit : IsFit m
  pub running : IsTrue (is_running m)

-- a run on bytes keeps a machine well formed and running
abbrev pub RunsKeep : Type 0
RunsKeep = (logs : Logs) (input : List ℕ) (m : MachineState) (turns : ℕ) → AreBytes input → IsGoing m → IsGoing (run logs input m turns).machine

-- two runs come to the same machine in the same turns, and send the same
pub record RunsAlike (a b : Ran) : Type 0 where
  pub machine : a.machine ≡ b.machine
  pub made : a.made ≡ b.made
  pub last : a.last ≡ b.last
  pub sent : sent a.acts ≡ sent b.acts

-- logs change nothing of a run but the files that they are written to
abbrev pub LogsChangeNothing : Type 0
LogsChangeNothing = (logs : Logs) (input : List ℕ) (m : MachineState) (turns : ℕ) → RunsAlike (run logs input m turns) (run no_logs input m turns)

-- ---- what was saved

-- these files are a checkpoint, whose boot leads to this machine and sends nothing
pub record RestoresTo (held : Held) (name : List ℕ) (m : MachineState) : Type 0 where
  pub checkpoint : Checkpoint
  pub loads : checkpoint_of held name ≡ Ok checkpoint
  pub steps : ℕ
  pub boots : Boots (debug_of checkpoint) steps m []

-- executing the written boot ROM from the written files leads to exactly the machine that was saved, without its
-- reservations
abbrev pub SavedIsRestored : Type 0
SavedIsRestored = (held : Held) (name : List ℕ) (m : MachineState) (rom : List ℕ)
    → IsFit m → m.taken ≤ 1000000000000 → IsRomOf m rom → RestoresTo (filed (save_acts name m rom) held) name (cleared m)

-- the turns that a save makes after it send what a run of the cleared machine sends, and end as it ends
abbrev pub MoreEqual : Type 0
MoreEqual = (name input : List ℕ) (m : MachineState) (turns more : ℕ) (ran : SaveRan) (saved : Saved)
    → SaveComesTo name input m turns more ran → ran.saved ≡ Some saved
    → (sent ran.acts ≡ sent (run no_logs input m turns).acts ++ sent (run no_logs input (cleared saved.machine) more).acts)
    × (ran.last ≡ (run no_logs input (cleared saved.machine) more).last)

-- ---- cuts

-- on an input of bytes, a cut in the turns before the save is one of the whole run too: a machine that goes on has a
-- boot ROM
abbrev pub EarlyCutsAreCuts : Type 0
EarlyCutsAreCuts = (stop : Stop) (bytes : List ℕ) (from : ℕ) (name : List ℕ) (m : MachineState) (turns more : ℕ) (before after : World)
    → AreBytes bytes → IsGoing m → StopsAnywhere stop bytes from name m turns more before after → SaveStops stop bytes from name m turns more before after

-- a cut of a run that saves leaves the three files so
abbrev pub SaveCases : Type 0
SaveCases = (stop : Stop) (bytes : List ℕ) (from : ℕ) (name : List ℕ) (m : MachineState) (turns more : ℕ) (ran : SaveRan) (saved : Saved) (front : List Act) (held : Held)
    → SaveComesTo name bytes m turns more ran → ran.saved ≡ Some saved → IsCut stop from ran.acts front → SaveLeaves name saved held (filed front held)

-- and it lies in one of three places, of which the first says that the three files are as before
abbrev pub SavePlaces : Type 0
SavePlaces = (stop : Stop) (bytes : List ℕ) (from : ℕ) (name : List ℕ) (m : MachineState) (turns more : ℕ) (ran : SaveRan) (saved : Saved) (front : List Act)
    → SaveComesTo name bytes m turns more ran → ran.saved ≡ Some saved → IsCut stop from ran.acts front → SavePlace stop bytes from name m turns more saved front

-- a cut in the turns after the checkpoint leaves it whole: it is read, and its boot leads to the machine without its
-- reservations
abbrev pub AfterIsWhole : Type 0
AfterIsWhole = (stop : Stop) (name bytes : List ℕ) (from : ℕ) (m : MachineState) (turns more : ℕ) (saved : Saved) (front : List Act) (held : Held)
    → IsSound saved → AfterCheckpoint stop bytes from saved.machine more ((run no_logs bytes m turns).acts ++ save_acts name saved.machine saved.rom) front
    → RestoresTo (filed front held) name (cleared saved.machine)

-- a cut of a run that ended before the save lies in one of its turns, and the three files are as before
abbrev pub UnsavedPlaces : Type 0
UnsavedPlaces = (stop : Stop) (bytes : List ℕ) (from : ℕ) (name : List ℕ) (m : MachineState) (turns more : ℕ) (ran : SaveRan) (front : List Act)
    → SaveComesTo name bytes m turns more ran → ran.saved ≡ None → IsCut stop from ran.acts front → InTurns stop bytes from name m turns front
