-- Where a machine begins: its shape, the bytes of its memory and its entry, or why the files that it comes
-- from are refused.
use Rattle.std.specs.Prelude.{◌≡◌, ℕ, ◌-◌, ◌%◌, List, ◌++◌, length, replicate, codes, nat_lt, if◌then◌else◌, Option, Some, None, Result, Ok, Err}
use Rattle.guest_ram.specs.Bytes.{base}
use Rattle.outside_io.specs.Content.{Held, file_of}
use Rattle.sim_config.specs.declared.fault.ConfigFault.{ConfigFault}
use Rattle.sim_config.specs.declared.values.Config.{Config}
use Rattle.sim_config.specs.declared.values.Shape.{Shape}
use Rattle.sim_config.specs.Faults.{is_host_word}
use Rattle.sim_config.specs.Ranges.{IsShape}
use Rattle.sim_config.specs.Reading.{config_of}
use Rattle.elf_load.specs.declared.fault.ElfFault.{ElfFault}
use Rattle.elf_load.specs.declared.fault.ElfFault.TheVariants.{OutsideRam, WrongKind}
use Rattle.elf_load.specs.declared.fault.ElfField.TheVariants.{Tohost}
use Rattle.elf_load.specs.Loading.{entry_of, load_fault, loaded_memory}
use Rattle.elf_load.specs.Symbols.{symbol_value}
use Rattle.machine_start.specs.declared.start.Start.{Start}
use Rattle.machine_start.specs.declared.fault.StartFault.{StartFault}
use Rattle.machine_start.specs.declared.fault.StartFault.TheVariants as start_fault

-- ---- a flat image

-- the length of the memory
abbrev pub flat_ram : ℕ
flat_ram = 65536

-- one hart, 16 steps in a turn, and no host window
abbrev pub flat_shape : Shape
flat_shape = record { harts = 1; ram = flat_ram; slice = 16; tohost = 0 }

-- an image at the start of the memory, with zeros after it
abbrev pub image_ram : List ℕ → List ℕ
image_ram image = image ++ replicate (flat_ram - length image) 0

-- its hart begins at the first byte of the memory
abbrev pub flat_start : List ℕ → Start
flat_start image = record { shape = flat_shape; ram = image_ram image; entry = base }

-- an image that is longer than the memory is refused
abbrev pub start_of_image : List ℕ → Result Start StartFault
start_of_image image =
    if nat_lt flat_ram (length image) then Err (start_fault.Elf (OutsideRam 0)) else Ok (flat_start image)

-- the start of the image in the file of this name
unfoldable pub start_from_image : Held → List ℕ → Result Start StartFault
start_from_image held name = start_of_image (file_of held name)

-- ---- an ELF file on the machine of a configuration

-- the host window at a symbol's value, and none where there is no such symbol
abbrev pub symbol_window : ℕ → Result (Option ℕ) ElfFault → Result ℕ ElfFault
symbol_window ram_len (Err fault) = Err fault
symbol_window ram_len (Ok None) = Ok 0
symbol_window ram_len (Ok (Some at)) = if is_host_word ram_len at then Ok at else Err (WrongKind Tohost)

-- the host window: the configuration's, and else that of the file's symbol `tohost`
abbrev pub window_of : Option ℕ → ℕ → List ℕ → Result ℕ ElfFault
window_of (Some at) ram_len file = Ok at
window_of None ram_len file = symbol_window ram_len (symbol_value file (codes "tohost"))

-- the start with this window: the program's bytes and its entry, in the configuration's shape
abbrev pub program_start : Config → List ℕ → ℕ → Start
program_start config file tohost = record {
  shape = record { harts = config.harts; ram = config.ram; slice = config.slice; tohost = tohost };
  ram = loaded_memory file config.ram;
  entry = entry_of file;
}

-- the start with the window, or the window's fault
abbrev pub start_with_window : Config → List ℕ → Result ℕ ElfFault → Result Start StartFault
start_with_window config file (Err fault) = Err (start_fault.Elf fault)
start_with_window config file (Ok tohost) = Ok (program_start config file tohost)

-- the window's fault comes after those of the loading
abbrev pub start_unless : Config → List ℕ → Option ElfFault → Result Start StartFault
start_unless config file (Some fault) = Err (start_fault.Elf fault)
start_unless config file None = start_with_window config file (window_of config.tohost config.ram file)

-- the start of the program in an ELF file
unfoldable pub start_of_program : Config → List ℕ → Result Start StartFault
start_of_program config file = start_unless config file (load_fault file config.ram)

-- ---- a configuration

-- the program is read where the configuration has no fault
abbrev pub program_of : Held → Result Config ConfigFault → Result Start StartFault
program_of held (Err fault) = Err (start_fault.Config fault)
program_of held (Ok config) = start_of_program config (file_of held config.program)

-- the start of the configuration in the file of this name
unfoldable pub start_of_config : Held → List ℕ → Result Start StartFault
start_of_config held name = program_of held (config_of (file_of held name))

-- ---- what the caller may rely on

-- the shape keeps its ranges, the memory has its length, and the entry is even
pub record IsStart (start : Start) : Type 0 where
  pub shape : IsShape start.shape
  pub length : length start.ram ≡ start.shape.ram
  pub entry : start.entry % 2 ≡ 0
