-- Files that are known to fail at no call: which of them a start reads, and that it ends with no failed read.
use Rattle.std.specs.Prelude.{◌≡◌, List, ℕ, Option, Some, None, IsSome, Result, Ok, IsErrOf}
use Rattle.outside_io.specs.Content.{Held, file_of}
use Rattle.sim_config.specs.Reading.{config_of}
use Rattle.sim_config.specs.declared.values.Config.{Config}
use Rattle.machine_start.specs.declared.fault.StartFault.{StartFault}
use Rattle.machine_start.specs.declared.fault.StartFault.TheVariants.{Unread}

-- the program that a configuration names is held
abbrev pub HoldsProgram : Held → List ℕ → Type 0
HoldsProgram held name = (config : Config) → config_of (file_of held name) ≡ Ok config → IsSome (held config.program)

-- the file of a configuration is held, and that of the program that it names
abbrev pub HoldsConfig : Option Held → List ℕ → Type 0
HoldsConfig None name = ⊥
HoldsConfig (Some held) name = IsSome (held name) × HoldsProgram held name

-- what was done over quiet files ended with no failed read, and they are quiet still
pub record StartsQuietly {T : Type 0} (quiet_now : Type 0) (result : Result T StartFault) : Type 0 where
  pub unfailed : IsErrOf result Unread → ⊥
  pub still : quiet_now
