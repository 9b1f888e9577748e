-- Why there is no start.
use Rattle.std.specs.Prelude.{◌≡◌, ◌≢◌, ℕ}
use Rattle.outside_io.specs.declared.OutFault.{OutFault}
use Rattle.outside_io.specs.declared.OutFault.TheVariants as out_fault
use Rattle.outside_io.specs.Causes.{Rose}
use Rattle.sim_config.specs.declared.fault.ConfigFault.{ConfigFault}
use Rattle.sim_config.specs.declared.fault.ConfigFault.TheVariants as config_fault
use Rattle.machine_start.specs.declared.fault.StartFault.{StartFault}
use Rattle.machine_start.specs.declared.fault.StartFault.TheVariants.{Config, Elf, Unread, NoMemory}

-- the fault of a read
abbrev pub start_read_refusal : OutFault → StartFault
start_read_refusal out_fault.Failed = Unread
start_read_refusal out_fault.NoMemory = NoMemory

-- the fault of a text: want of memory is no fault of the configuration
abbrev pub config_refusal : ConfigFault → StartFault
config_refusal config_fault.NoMemory = NoMemory
config_refusal fault = Config fault

-- why there is no start: a file is refused, as `defined` says, or memory lacked, and the count of failed reads is
-- as before; or a read failed
abbrev pub StartIsRefused : StartFault → Type 0 → ℕ → ℕ → Type 0
StartIsRefused (Config fault) defined before now = (fault ≢ config_fault.NoMemory) × defined × (now ≡ before)
StartIsRefused (Elf fault) defined before now = defined × (now ≡ before)
StartIsRefused Unread defined before now = Rose before now
StartIsRefused NoMemory defined before now = now ≡ before
