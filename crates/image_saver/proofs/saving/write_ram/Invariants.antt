-- The file has so many bytes of memory.
use Rattle.std.proofs.Common.{◌≤◌, ◌-◌, [], ◌∷◌, length, take, Ok}
use Rattle.std.specs.Prelude.{IsSome}
use Rattle.outside_io.specs.Content.{IsHeld}
use Rattle.outside_acts.specs.Acts.{Append, Start}
use Rattle.image_saver.specs.Saving.{Writes}
use Rattle.image_saver.proofs.saving.write_ram.Given as goal

abbrev pub invariant-loop-done : goal.invariant-loop-done
invariant-loop-done g l = record {
  within : l.done ≤ length l.ram;
  written : Writes {T = Unit {0}} g.F.Files.held g.F.Files.read_faults g.F.Files.write_faults
      (Start l.file ∷ Append l.file (take l.done l.ram) ∷ []) l.fn.files l.files (Ok tt);
  calm : g.F.Files.quiet l.fn.files → IsSome (g.F.Files.held l.fn.files) → g.F.Files.quiet l.files × IsHeld (g.F.Files.held l.files) l.file;
}

abbrev pub decreases-loop-done : goal.decreases-loop-done
decreases-loop-done g l = length l.ram - l.done
