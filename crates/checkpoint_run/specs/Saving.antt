-- A run that may save a checkpoint on its way: so many turns are made, and where none of them ends the run, the machine
-- is saved with a boot ROM that restores it, loses its reservations as a machine that is restored has none, and goes on.
use Rattle.std.specs.Prelude.{◌≡◌, ◌≤◌, ℕ, ◌+◌, List, ◌++◌, length, Option, Some, None}
use Rattle.hart_step.specs.Fit.{AreBytes}
use Rattle.hart_step.specs.Memory.{most_rom}
use Rattle.hart_turns.specs.declared.machine.TurnEnd.{TurnEnd}
use Rattle.hart_turns.specs.declared.machine.TurnEnd.TheVariants.{Goes, Ended, BadHost}
use Rattle.hart_turns.specs.Fit.{IsFit}
use Rattle.hart_turns.specs.Machine.{MachineState, cleared}
use Rattle.rom_gen.specs.Executed.{Restores}
use Rattle.outside_acts.specs.Acts.{Act}
use Rattle.image_saver.specs.Saving.{save_acts}
use Rattle.turn_runs.specs.Run.{Ran, no_logs, run}

-- ---- what is saved

-- bytes that may stand as the boot ROM of a machine's checkpoint: executing them from reset in debug mode restores it
-- without its reservations
pub record IsRomOf (m : MachineState) (rom : List ℕ) : Type 0 where
  pub short : length rom ≤ most_rom
  pub bytes : AreBytes rom
  pub restores : Restores m rom

-- what was saved: the machine, and the boot ROM beside it
pub record Saved : Type 0 where
  pub machine : MachineState
  pub rom : List ℕ

-- what was saved is well formed, its boot ROM restores it, and it has taken no more of the input than a meta text may say
pub record IsSound (saved : Saved) : Type 0 where
  pub fit : IsFit saved.machine
  pub few : saved.machine.taken ≤ 1000000000000
  pub rom : IsRomOf saved.machine saved.rom

-- ---- the run

-- a run that may save: the last machine, what was done to the outside, the turns made in all, how the last of them
-- ended, and what was saved
pub record SaveRan : Type 0 where
  pub machine : MachineState
  pub acts : List Act
  pub made : ℕ
  pub last : TurnEnd
  pub saved : Option Saved

-- the run ended before the save
abbrev pub unsaved : Ran → SaveRan
unsaved first = record { machine = first.machine; acts = first.acts; made = first.made; last = first.last; saved = None }

-- the machine was saved after the first run, and has gone on by the second
abbrev pub saved_between : List ℕ → Ran → List ℕ → Ran → SaveRan
saved_between name first rom second = record {
  machine = second.machine;
  acts = first.acts ++ (save_acts name first.machine rom ++ second.acts);
  made = first.made + second.made;
  last = second.last;
  saved = Some (record { machine = first.machine; rom = rom });
}

-- what the run comes to, by how the turns before the save ended. The boot ROM is left open: any that restores the
-- machine may stand
abbrev pub ComesTo : List ℕ → List ℕ → Ran → ℕ → TurnEnd → SaveRan → Type 0
ComesTo name input first more Goes ran =
    (rom : List ℕ) × IsRomOf first.machine rom × (ran ≡ saved_between name first rom (run no_logs input (cleared first.machine) more))
ComesTo name input first more (Ended code) ran = ran ≡ unsaved first
ComesTo name input first more (BadHost word) ran = ran ≡ unsaved first

-- a run of so many turns on an input, that saves under this name where none of them ended it, and then of so many more
abbrev pub SaveComesTo : List ℕ → List ℕ → MachineState → ℕ → ℕ → SaveRan → Type 0
SaveComesTo name input m turns more ran =
    ComesTo name input (run no_logs input m turns) more (run no_logs input m turns).last ran
