-- A save as acts of a job, over all that is outside.
use Rattle.std.proofs.Common.{◌≡◌, ℕ, List, [], Option, Some, None}
use Rattle.outside_io.specs.Content.{Held, Told}
use Rattle.outside_acts.specs.Acts.{Act, IsCut}
use Rattle.outside_acts.specs.Calls.{Does, Stops}
use Rattle.outside_acts.specs.declared.Stop.{Stop}
use Rattle.outside_acts.specs.World.{World}
use Rattle.outside_acts.proofs.Algebra.{IsFiled}
use Rattle.outside_acts.proofs.OneAct.{OnFiles, does_files, on_append, on_none, on_start}
use Rattle.hart_turns.specs.Machine.{MachineState}
use Rattle.image_saver.specs.declared.fault.SaveFault.{SaveFault}
use Rattle.image_saver.specs.declared.fault.SaveFault.TheVariants.{Failed, NoMemory}
use Rattle.image_saver.specs.Saving.{FilesCut, FilesDid, save_acts, save_stop}
use Rattle.image_saver.proofs.Pieces.{on_made}
use Rattle.image_saver.proofs.Saves.{none_done, on_both}

-- a save reads no input and sends nothing
pub on_save : (name : List ℕ) (m : MachineState) (rom : List ℕ) → OnFiles (save_acts name m rom)
unfolding save_acts
on_save name m rom = on_both (on_start _) (on_both (on_made _ _) (on_both (on_made _ _) (on_append _ _)))

-- where it was done and nothing else changed, its acts were done
pub save_does : (name : List ℕ) (m : MachineState) (rom : List ℕ) {before now : World} → now.left ≡ before.left → now.written ≡ before.written
    → Told before.held now.held (FilesDid (save_acts name m rom)) → Does (save_acts name m rom) before now
save_does name m rom left written told = does_files (on_save name m rom) left written told

-- a front on files alone, whether they tell what they hold or not
record Front (why : Stop) (acts : List Act) (before now : Option Held) : Type 0 where
  front : List Act
  cut : (from : ℕ) → IsCut why from acts front
  on : OnFiles front
  filed : Told before now (IsFiled front)

front_of : (why : Stop) (acts : List Act) (a b : Option Held) → ((from : ℕ) → IsCut why from acts []) → Told a b (FilesCut why acts) → Front why acts a b
front_of why acts None b none cut = record { front = []; cut = none; on = on_none; filed = tt }
front_of why acts (Some x) None none cut = absurd cut
front_of why acts (Some x) (Some y) none cut = record {
  front = cut.front;
  cut = cut.cut;
  on = record { silent = cut.unsent; unread = cut.unread };
  filed = cut.files_are;
}

none_saved_at : (fault : SaveFault) (name : List ℕ) (m : MachineState) (rom : List ℕ) (from : ℕ) → IsCut (save_stop fault) from (save_acts name m rom) []
unfolding save_acts
none_saved_at Failed name m rom from = none_done _ _ _ tt from
none_saved_at NoMemory name m rom from = none_done _ _ _ tt from

-- where it was cut and nothing else changed, its acts were cut
pub save_stops : (fault : SaveFault) (name : List ℕ) (m : MachineState) (rom : List ℕ) {before now : World} → now.left ≡ before.left → now.written ≡ before.written
    → Told before.held now.held (FilesCut (save_stop fault) (save_acts name m rom)) → Stops (save_stop fault) (save_acts name m rom) before now
save_stops fault name m rom {before} {now} left written told = λ bytes from is.
    let cut = front_of (save_stop fault) (save_acts name m rom) before.held now.held (none_saved_at fault name m rom) told in
    record { front = cut.front; cut = cut.cut from; did = does_files cut.on left written cut.filed bytes from is }
