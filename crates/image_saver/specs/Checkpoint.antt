-- A checkpoint: what its three files hold, or the first fault of them.
use Rattle.std.specs.Prelude.{◌≡◌, ℕ, ◌==◌, List, ◌++◌, length, codes, if◌then◌else◌, Result, Ok, Err}
use Rattle.outside_io.specs.Content.{Held, file_of}
use Rattle.sim_config.specs.declared.fault.ConfigFault.{ConfigFault}
use Rattle.sim_config.specs.declared.values.Meta.{Meta}
use Rattle.sim_config.specs.Ranges.{IsMeta}
use Rattle.sim_config.specs.Reading.{meta_of}
use Rattle.hart_turns.specs.Machine.{MachineState, debug_machine}
use Rattle.image_saver.specs.declared.fault.Part.{Part}
use Rattle.image_saver.specs.declared.fault.Part.TheVariants.{Mainram, Bootram}
use Rattle.image_saver.specs.declared.fault.LoadFault.{LoadFault}
use Rattle.image_saver.specs.declared.fault.LoadFault.TheVariants as load_fault
use Rattle.image_saver.specs.declared.loading.Loaded.{Loaded}

infixl 10 ◌>>=◌
abbrev pub ◌>>=◌ : {A B : Type 0} → Result A LoadFault → (A → Result B LoadFault) → Result B LoadFault
(Ok x) >>= next = next x
(Err fault) >>= next = Err fault

-- ---- the names of the files

abbrev pub meta_file : List ℕ → List ℕ
meta_file name = name ++ codes ".json"

abbrev pub part_ending : Part → List ℕ
part_ending Mainram = codes ".mainram"
part_ending Bootram = codes ".bootram"

abbrev pub part_file : Part → List ℕ → List ℕ
part_file part name = name ++ part_ending part

-- ---- what they hold

-- the values of the meta text, the bytes of RAM and those of the boot ROM
pub record Checkpoint : Type 0 where
  pub meta : Meta
  pub ram : List ℕ
  pub rom : List ℕ

-- the values of a meta text, or its first fault
abbrev pub with_meta : Result Meta ConfigFault → Result Meta LoadFault
with_meta (Ok meta) = Ok meta
with_meta (Err fault) = Err (load_fault.Meta fault)

-- how many bytes these values give a part
abbrev pub part_length : Part → Meta → ℕ
part_length Mainram meta = meta.shape.ram
part_length Bootram meta = meta.rom

-- the bytes of a part, which are as many as the meta text says
abbrev pub of_length : Part → ℕ → List ℕ → Result (List ℕ) LoadFault
of_length part want bytes = if length bytes == want then Ok bytes else Err (load_fault.Length part want (length bytes))

-- the checkpoint of this name, or the first fault: of the meta text, then of the image of RAM, then of the ROM
unfoldable pub checkpoint_of : Held → List ℕ → Result Checkpoint LoadFault
checkpoint_of held name = do
  meta ← with_meta (meta_of (file_of held (meta_file name)))
  ram ← of_length Mainram meta.shape.ram (file_of held (part_file Mainram name))
  rom ← of_length Bootram meta.rom (file_of held (part_file Bootram name))
  Ok (record { meta = meta; ram = ram; rom = rom })

-- the machine of a checkpoint before its boot: it is in debug mode, and executes the ROM
abbrev pub debug_of : Checkpoint → MachineState
debug_of c = debug_machine c.meta.shape c.meta.taken c.ram c.rom

-- ---- what the caller may rely on

-- what was read
abbrev pub seen : Loaded → Checkpoint
seen loaded = record { meta = loaded.meta; ram = loaded.ram; rom = loaded.rom.items }

-- the values are in their ranges, and the parts have their lengths
pub record IsCheckpoint (c : Checkpoint) : Type 0 where
  pub meta : IsMeta c.meta
  pub ram : length c.ram ≡ c.meta.shape.ram
  pub rom : length c.rom ≡ c.meta.rom
