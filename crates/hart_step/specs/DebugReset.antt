-- Reset into debug mode, in which harts begin to execute a boot ROM (External Debug Support, "Debug Mode"; that a hart
-- begins there, and at the first byte of the ROM, is this project's own).
use Rattle.std.specs.Prelude.{ℕ, zero, suc, List, [], ◌∷◌, ◌++◌, Some}
use Rattle.csr_file.specs.Kept.{reset_debug_registers, reset_registers}
use Rattle.csr_file.specs.declared.registers.Registers.{Registers}
use Rattle.hart_step.specs.declared.hart.Hart.{Hart}
use Rattle.hart_step.specs.Harts.{CoreState, reset_hart}
use Rattle.hart_step.specs.Memory.{rom_base}

-- the control and status registers of hart h at reset, with those of debug mode
abbrev pub debug_registers : ℕ → Registers
debug_registers h = record (reset_registers h) { debug = Some reset_debug_registers }

-- hart h at reset in debug mode is at the first byte of the boot ROM; all else of it is as at reset
abbrev pub reset_debug_hart : ℕ → Hart
reset_debug_hart h = record (reset_hart h rom_base) { csrs = debug_registers h }

-- so many harts at reset in debug mode, in order of number
unfoldable pub debug_harts : ℕ → List Hart
debug_harts zero = []
debug_harts (suc n) = debug_harts n ++ reset_debug_hart n ∷ []

abbrev pub debug_core : ℕ → List ℕ → List ℕ → CoreState
debug_core harts ram rom = record { harts = debug_harts harts; ram = ram; rom = rom }
