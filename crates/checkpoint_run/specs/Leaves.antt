-- What a run that may save leaves where it was cut: of the three files of the checkpoint, and of its turns.
use Rattle.std.specs.Prelude.{◌≡◌, ◌⊎◌, ℕ, List, [], ◌++◌, take, Some}
use Rattle.hart_turns.specs.Machine.{MachineState, cleared}
use Rattle.outside_io.specs.Content.{Held}
use Rattle.outside_acts.specs.declared.Stop.{Stop}
use Rattle.outside_acts.specs.declared.Stop.TheVariants.{Files, NoMemory}
use Rattle.outside_acts.specs.Acts.{Act, IsCut, filed, read}
use Rattle.sim_config.specs.Written.{meta_bytes}
use Rattle.image_saver.specs.declared.fault.Part.TheVariants.{Mainram, Bootram}
use Rattle.image_saver.specs.Checkpoint.{meta_file, part_file}
use Rattle.image_saver.specs.Saving.{save_acts, saved_meta}
use Rattle.turn_runs.specs.Leaves.{RunLeaves}
use Rattle.turn_runs.specs.Run.{no_logs, run}
use Rattle.checkpoint_run.specs.Saving.{Saved}

-- ---- the files

-- each of the three files is as before
pub record NotTouched (name : List ℕ) (before now : Held) : Type 0 where
  pub meta : now (meta_file name) ≡ before (meta_file name)
  pub mainram : now (part_file Mainram name) ≡ before (part_file Mainram name)
  pub bootram : now (part_file Bootram name) ≡ before (part_file Bootram name)

-- image and boot ROM are whole, and the file of the meta text has a front of its text
pub record HasParts (name : List ℕ) (saved : Saved) (now : Held) : Type 0 where
  pub size : ℕ
  pub meta : now (meta_file name) ≡ Some (take size (meta_bytes (saved_meta saved.machine saved.rom)))
  pub mainram : now (part_file Mainram name) ≡ Some saved.machine.core.ram
  pub bootram : now (part_file Bootram name) ≡ Some saved.rom

-- what a cut leaves of the three files: none was touched; or the file of the meta text is empty; or image and boot ROM
-- are whole
abbrev pub SaveLeaves : List ℕ → Saved → Held → Held → Type 0
SaveLeaves name saved before now =
    NotTouched name before now ⊎ (now (meta_file name) ≡ Some []) ⊎ HasParts name saved now

-- ---- the place of the cut

-- it lies in the turns before the checkpoint, and whatever the files held, none of the three was touched
pub record InTurns (stop : Stop) (bytes : List ℕ) (from : ℕ) (name : List ℕ) (m : MachineState) (turns : ℕ) (front : List Act)
    : Type 0 where
  pub leaves : RunLeaves stop no_logs bytes from m turns front
  pub files : (held : Held) → NotTouched name held (filed front held)

-- it lies in the checkpoint, at a file or for want of memory: all acts before it were done, and of its own a front
pub record InCheckpoint (stop : Stop) (from : ℕ) (acts save front : List Act) : Type 0 where
  pub left : List Act
  pub front_is : front ≡ acts ++ left
  pub cut : IsCut stop (read acts from) save left
  pub stop_is : (stop ≡ Files) ⊎ (stop ≡ NoMemory)

-- it lies in the turns after the checkpoint: all acts up to these were done
pub record AfterCheckpoint (stop : Stop) (bytes : List ℕ) (from : ℕ) (m : MachineState) (more : ℕ) (acts front : List Act)
    : Type 0 where
  pub left : List Act
  pub front_is : front ≡ acts ++ left
  pub leaves : RunLeaves stop no_logs bytes (read acts from) (cleared m) more left

-- where a run is cut that saves: in the turns before the checkpoint, in the checkpoint, or in the turns after it
abbrev pub SavePlace : Stop → List ℕ → ℕ → List ℕ → MachineState → ℕ → ℕ → Saved → List Act → Type 0
SavePlace stop bytes from name m turns more saved front =
    InTurns stop bytes from name m turns front
    ⊎ InCheckpoint stop from (run no_logs bytes m turns).acts (save_acts name saved.machine saved.rom) front
    ⊎ AfterCheckpoint stop bytes from saved.machine more ((run no_logs bytes m turns).acts ++ save_acts name saved.machine saved.rom) front
