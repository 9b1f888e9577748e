-- Saving a checkpoint: the acts on its three files, and what a call leaves that does them.
use Rattle.std.specs.Prelude.{◌≡◌, ℕ, List, [], ◌∷◌, length, Option, Result, Ok, Err, IfErr, IsSome, OnOk}
use Rattle.outside_io.specs.Causes.{Rose}
use Rattle.outside_io.specs.Content.{Held, IsHeld, Told}
use Rattle.outside_io.specs.declared.OutFault.{OutFault}
use Rattle.outside_io.specs.declared.OutFault.TheVariants as out_fault
use Rattle.outside_acts.specs.declared.Stop.{Stop}
use Rattle.outside_acts.specs.declared.Stop.TheVariants as stop
use Rattle.outside_acts.specs.Acts.{Act, Start, Append, IsCut, filed, read, sent}
use Rattle.sim_config.specs.declared.values.Meta.{Meta}
use Rattle.sim_config.specs.Written.{meta_bytes}
use Rattle.hart_turns.specs.Machine.{MachineState}
use Rattle.image_saver.specs.declared.fault.Part.TheVariants.{Mainram, Bootram}
use Rattle.image_saver.specs.declared.fault.SaveFault.{SaveFault}
use Rattle.image_saver.specs.declared.fault.SaveFault.TheVariants.{Failed, NoMemory}
use Rattle.image_saver.specs.Checkpoint.{meta_file, part_file}

-- what the meta text says of a machine and of the ROM that is saved with it
abbrev pub saved_meta : MachineState → List ℕ → Meta
saved_meta m rom = record { shape = m.shape; rom = length rom; taken = m.taken; version = 1 }

-- the acts that write three files of these names: the text comes last, so that once the first act was done its file has
-- the whole text only where all were
abbrev pub file_acts : List ℕ → List ℕ → List ℕ → List ℕ → List ℕ → List ℕ → List Act
file_acts meta mainram bootram ram rom text =
    Start meta ∷ Start mainram ∷ Append mainram ram ∷ Start bootram ∷ Append bootram rom ∷ Append meta text ∷ []

-- the acts of a save
unfoldable pub save_acts : List ℕ → MachineState → List ℕ → List Act
save_acts name m rom =
    file_acts (meta_file name) (part_file Mainram name) (part_file Bootram name) m.core.ram rom (meta_bytes (saved_meta m rom))

-- ---- acts on files alone

-- the acts were done
abbrev pub FilesDid : List Act → Held → Held → Type 0
FilesDid acts before now = now ≡ filed acts before

-- they were cut by this stop, wherever the input stood, and nothing was read or sent
pub record FilesCut (why : Stop) (acts : List Act) (before now : Held) : Type 0 where
  pub front : List Act
  pub cut : (from : ℕ) → IsCut why from acts front
  pub unread : (from : ℕ) → read front from ≡ from
  pub unsent : sent front ≡ []
  pub files_are : now ≡ filed front before

-- ---- faults

-- the fault of a write
abbrev pub write_refusal : OutFault → SaveFault
write_refusal out_fault.Failed = Failed
write_refusal out_fault.NoMemory = NoMemory

-- the stop of a job that saves
abbrev pub save_stop : SaveFault → Stop
save_stop Failed = stop.Files
save_stop NoMemory = stop.NoMemory

-- the count of failed writes rose where one failed, and is as before after every other answer
abbrev pub write_cause : {T : Type 0} → Result T SaveFault → ℕ → ℕ → Type 0
write_cause (Ok x) before now = now ≡ before
write_cause (Err Failed) before now = Rose before now
write_cause (Err NoMemory) before now = now ≡ before

-- ---- what a call leaves

-- what a call with this result leaves of the files on which it does these acts
pub record Writes {F T : Type 0} (held : F → Option Held) (read_faults write_faults : F → ℕ) (acts : List Act) (old new : F) (result : Result T SaveFault) : Type 0 where
  -- an answer says that all were done, and a fault that they were cut
  pub done : OnOk result (Told (held old) (held new) (FilesDid acts))
  pub cut : IfErr result (λ fault. Told (held old) (held new) (FilesCut (save_stop fault) acts))
  -- why a fault came
  pub cause : write_cause result (write_faults old) (write_faults new)
  -- every result leaves the count of failed reads
  pub reads : read_faults new ≡ read_faults old
  -- files that tell what they hold go on to tell it, and a file that is held stays held
  pub told : IsSome (held old) → IsSome (held new)
  pub holds : (name : List ℕ) → IsHeld (held old) name → IsHeld (held new) name

-- what was done over quiet files lacked memory at the most, and they are quiet still
pub record SavesQuietly {T : Type 0} (quiet_now : Type 0) (result : Result T SaveFault) : Type 0 where
  pub unfailed : IfErr result (λ fault. fault ≡ NoMemory)
  pub still : quiet_now
