-- Why there is no start, from why a step before it failed.
use Rattle.std.proofs.Common.{◌≡◌, ◌≢◌, ℕ, subst, ◌∙◌}
use Rattle.outside_io.specs.Causes.{Rose}
use Rattle.sim_config.specs.declared.fault.ConfigFault.{ConfigFault}
use Rattle.sim_config.specs.declared.fault.ConfigFault.TheVariants as config_fault
use Rattle.machine_start.specs.declared.fault.StartFault.{StartFault}
use Rattle.machine_start.specs.declared.fault.StartFault.TheVariants.{Config, Elf, Unread, NoMemory}
use Rattle.machine_start.specs.Refusal.{StartIsRefused, config_refusal}

-- a fault of a text, where its cause is told unless memory lacked
pub config_refused : (fault : ConfigFault) (X : StartFault → Type 0) (before now : ℕ) → now ≡ before → (fault ≢ config_fault.NoMemory → X (Config fault)) → StartIsRefused (config_refusal fault) (X (config_refusal fault)) before now
config_refused config_fault.NoMemory X before now same why = same
config_refused fault X before now same why = let other : fault ≢ config_fault.NoMemory = λ e. cc in (other, why other, same)

-- a refusal for one reason is one for what follows from it, also from an earlier count that was the same
pub refused_on : (fault : StartFault) (X Y : Type 0) (first before now : ℕ) → before ≡ first → (X → Y) → StartIsRefused fault X before now → StartIsRefused fault Y first now
refused_on (Config fault) X Y first before now same step why = (why.0, step why.1, why.2 ∙ same)
refused_on (Elf fault) X Y first before now same step why = (step why.0, why.1 ∙ same)
refused_on Unread X Y first before now same step why = subst (λ (n : ℕ). Rose n now) same why
refused_on NoMemory X Y first before now same step why = why ∙ same
