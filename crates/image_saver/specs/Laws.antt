-- What follows from the definitions: what was saved is loaded.
use Rattle.std.specs.Prelude.{◌≡◌, ◌≤◌, ℕ, List, length, Ok}
use Rattle.outside_io.specs.Content.{Held}
use Rattle.outside_acts.specs.Acts.{filed}
use Rattle.hart_turns.specs.Fit.{IsFit}
use Rattle.hart_turns.specs.Machine.{MachineState}
use Rattle.image_saver.specs.Checkpoint.{Checkpoint, checkpoint_of}
use Rattle.image_saver.specs.Saving.{save_acts, saved_meta}

-- the checkpoint that a machine is saved as with this ROM
abbrev pub saved : MachineState → List ℕ → Checkpoint
saved m rom = record { meta = saved_meta m rom; ram = m.core.ram; rom = rom }

-- whatever the files held before, they hold it where all acts of the save were done
abbrev pub SavedIsLoaded : Type 0
SavedIsLoaded = (held : Held) (name : List ℕ) (m : MachineState) (rom : List ℕ)
    → IsFit m → m.taken ≤ 1000000000000 → length rom ≤ 131072
    → checkpoint_of (filed (save_acts name m rom) held) name ≡ Ok (saved m rom)
