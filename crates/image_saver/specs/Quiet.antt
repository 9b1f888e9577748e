-- Files that are known to fail at no call: which of them a load reads, and that it ends with no failed read.
use Rattle.std.specs.Prelude.{◌≡◌, List, ℕ, length, Option, Some, None, IsSome, Result, Ok, IsErrOf}
use Rattle.outside_io.specs.Content.{Held, file_of}
use Rattle.sim_config.specs.Reading.{meta_of}
use Rattle.sim_config.specs.declared.values.Meta.{Meta}
use Rattle.image_saver.specs.declared.fault.LoadFault.{LoadFault}
use Rattle.image_saver.specs.declared.fault.LoadFault.TheVariants.{Failed}
use Rattle.image_saver.specs.declared.fault.Part.TheVariants.{Mainram, Bootram}
use Rattle.image_saver.specs.Checkpoint.{meta_file, part_file}

-- the image is held where the meta text is accepted, and the ROM where the image has its length too
abbrev pub HoldsParts : Held → List ℕ → Type 0
HoldsParts held name = (meta : Meta) → meta_of (file_of held (meta_file name)) ≡ Ok meta →
    IsSome (held (part_file Mainram name))
    × (length (file_of held (part_file Mainram name)) ≡ meta.shape.ram → IsSome (held (part_file Bootram name)))

-- every file that a load reads is held
abbrev pub HoldsCheckpoint : Option Held → List ℕ → Type 0
HoldsCheckpoint None name = ⊥
HoldsCheckpoint (Some held) name = IsSome (held (meta_file name)) × HoldsParts held name

-- what was done over quiet files ended with no failed read, and they are quiet still
pub record LoadsQuietly {T : Type 0} (quiet_now : Type 0) (result : Result T LoadFault) : Type 0 where
  pub unfailed : IsErrOf result Failed → ⊥
  pub still : quiet_now
