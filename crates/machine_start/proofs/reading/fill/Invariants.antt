use Rattle.std.proofs.Common.{◌≡◌, ◌≤◌, ◌-◌, Ok, IfSome, length, take}
use Rattle.outside_io.specs.Content.{IsHeld, file_of}
use Rattle.outside_io.specs.declared.OutFault.{OutFault}
use Rattle.machine_start.specs.Reading.{OnlyReads}
use Rattle.machine_start.proofs.reading.fill.Given as goal

-- the first bytes of the file stand in the buffer
abbrev pub invariant-loop-done : goal.invariant-loop-done
invariant-loop-done g l = record {
  within : l.done ≤ length l.buf;
  same_length : length l.buf ≡ length l.fn.buf;
  front : IfSome (g.F.Files.held l.fn.files) (λ held. take l.done l.buf ≡ take l.done (file_of held l.name));
  leaves : OnlyReads {E = OutFault} g.F.Files.held g.F.Files.read_faults g.F.Files.write_faults l.fn.files l.files (Ok l.done);
  quiet : g.F.Files.quiet l.fn.files → IsHeld (g.F.Files.held l.fn.files) l.name → g.F.Files.quiet l.files × IsHeld (g.F.Files.held l.files) l.name;
}

abbrev pub decreases-loop-done : goal.decreases-loop-done
decreases-loop-done g l = length l.buf - l.done
