-- Why a checkpoint is not loaded.
use Rattle.std.specs.Prelude.{◌≡◌, ◌≢◌, ℕ, ⊤}
use Rattle.outside_io.specs.declared.OutFault.{OutFault}
use Rattle.outside_io.specs.declared.OutFault.TheVariants as out_fault
use Rattle.outside_io.specs.Causes.{Rose}
use Rattle.sim_config.specs.declared.fault.ConfigFault.{ConfigFault}
use Rattle.sim_config.specs.declared.fault.ConfigFault.TheVariants as config_fault
use Rattle.sim_config.specs.declared.values.Meta.{Meta}
use Rattle.sim_config.specs.Ranges.{IsMeta}
use Rattle.image_saver.specs.declared.fault.Part.{Part}
use Rattle.image_saver.specs.declared.fault.LoadFault.{LoadFault}
use Rattle.image_saver.specs.declared.fault.LoadFault.TheVariants.{Failed, Length, NoMemory}
use Rattle.image_saver.specs.declared.fault.LoadFault.TheVariants as load_fault
use Rattle.image_saver.specs.Checkpoint.{part_length}

-- the fault of a read
abbrev pub load_read_refusal : OutFault → LoadFault
load_read_refusal out_fault.Failed = Failed
load_read_refusal out_fault.NoMemory = NoMemory

-- the fault of a meta text: want of memory is no fault of the text
abbrev pub meta_refusal : ConfigFault → LoadFault
meta_refusal config_fault.NoMemory = NoMemory
meta_refusal fault = load_fault.Meta fault

-- why there is no checkpoint: a file is refused, as `defined` says, or memory lacked, and the count of failed reads is
-- as before; or a read failed
abbrev pub LoadIsRefused : LoadFault → Type 0 → ℕ → ℕ → Type 0
LoadIsRefused Failed defined before now = Rose before now
LoadIsRefused (load_fault.Meta fault) defined before now = (fault ≢ config_fault.NoMemory) × defined × (now ≡ before)
LoadIsRefused (Length part want have) defined before now = defined × (now ≡ before)
LoadIsRefused NoMemory defined before now = now ≡ before

-- ---- whatever the files hold, and also where nothing tells it

-- no part is refused
abbrev pub IsOfText : LoadFault → Type 0
IsOfText Failed = ⊤
IsOfText (load_fault.Meta fault) = ⊤
IsOfText (Length part want have) = ⊥
IsOfText NoMemory = ⊤

-- of this part, which was to have so many bytes, only another length is refused
abbrev pub IsOfPart : Part → ℕ → LoadFault → Type 0
IsOfPart part want Failed = ⊤
IsOfPart part want (load_fault.Meta fault) = ⊥
IsOfPart part want (Length refused asked have) = (refused ≡ part) × (asked ≡ want) × (have ≢ want)
IsOfPart part want NoMemory = ⊤

-- a length that is refused is another one than values in range give the part
abbrev pub IsOfValues : LoadFault → Type 0
IsOfValues Failed = ⊤
IsOfValues (load_fault.Meta fault) = ⊤
IsOfValues (Length part want have) = (meta : Meta) × IsMeta meta × (want ≡ part_length part meta) × (have ≢ want)
IsOfValues NoMemory = ⊤

-- it is a fault of the files themselves: of the meta text, which is no want of memory, or of a length
abbrev pub IsOfFiles : LoadFault → Type 0
IsOfFiles Failed = ⊥
IsOfFiles (load_fault.Meta fault) = fault ≢ config_fault.NoMemory
IsOfFiles (Length part want have) = ⊤
IsOfFiles NoMemory = ⊥
