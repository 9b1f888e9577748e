-- One more piece of the file stands in the buffer.
use Rattle.std.proofs.Common.{◌≤◌, ◌-◌, ◌∙◌, ℕ, List, Option, length, arith}
use Rattle.std.proofs.lemmas.Grind.{common_steps}
use Rattle.outside_io.specs.Content.{ReadsFrom, file_of}
use Rattle.machine_start.proofs.Filling.{filled_more}
use Rattle.machine_start.proofs.Quiets.{held_still}
use Rattle.machine_start.proofs.Telling.{stays_on, told_before, told_both}
use Rattle.machine_start.proofs.reading.fill.Goals as goal

pub loop-done-preserved : goal.loop-done-preserved
loop-done-preserved g c =
    let found = c.in_ok-count.ensures in
    let before = c.loop-done.invariant in
    let short : c.in_ok-count.count ≤ length c.read_at.new.buf = found.bound.0 in
    let pieces = told_before (λ (held : List ℕ → Option (List ℕ)). ReadsFrom (file_of held c.args.name.now) c.loop-done.done c.in_ok-count.count c.read_at.new.buf)
    (g.F.Files.held c.args.files.now) (g.F.Files.held c.loop-done.files) before.leaves.content found.bytes in
    record {
      within = grind (arith, common_steps);
      same_length = grind (arith, common_steps);
      front = told_both _ _ _ (g.F.Files.held c.args.files.now) (λ held front piece. filled_more (file_of held c.args.name.now) c.loop-done.buf c.read_at.new.buf c.loop-done.done (length c.loop-done.buf - c.loop-done.done) c.in_ok-count.count before.within short front piece.front) before.front pieces;
      leaves = record {
        content = stays_on _ _ _ before.leaves.content found.content;
        reads = found.cause.kept ∙ before.leaves.reads;
        writes = found.other_count ∙ before.leaves.writes;
      };
      quiet = λ quiet held. ((found.calm (before.quiet quiet held).0 (before.quiet quiet held).1).still, held_still (g.F.Files.held c.loop-done.files) (g.F.Files.held c.read_at.new.self) found.content c.args.name.now (before.quiet quiet held).1);
    }
