-- Over quiet files: names that are held stay held.
use Rattle.std.proofs.Common.{◌≡◌, ℕ, List, Option, Some, None, Ok, IfSome, IsSome, sym, subst}
use Rattle.outside_io.specs.Content.{Held, IsHeld, Told, file_of}
use Rattle.sim_config.specs.Reading.{config_of}
use Rattle.sim_config.specs.declared.values.Config.{Config}
use Rattle.machine_start.specs.Quiet.{HoldsConfig}

pub held_still : (before now : Option Held) → Told before now (λ old new. new ≡ old) → (name : List ℕ) → IsHeld before name → IsHeld now name
held_still (Some old) (Some new) same name held = subst (λ (files : Held). IsSome (files name)) (sym same) held
held_still (Some old) None told name held = told
held_still None now told name held = absurd held

-- the program that a configuration names, when the configuration was read
pub program_held : (before now : Option Held) → Told before now (λ old new. new ≡ old) → (name : List ℕ) (config : Config) → HoldsConfig before name → IfSome before (λ held. config_of (file_of held name) ≡ Ok config) → IsHeld now config.program
program_held (Some old) (Some new) same name config files is = subst (λ (held : Held). IsSome (held config.program)) (sym same) (files.1 config is)
program_held (Some old) None told name config files is = told
program_held None now told name config files is = absurd files
