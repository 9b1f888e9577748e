-- The file is started, and grows piece by piece.
use Rattle.std.proofs.Common.{[], ◌∷◌, arith}
use Rattle.std.proofs.lemmas.Result.{err_from_is_err_and}
use Rattle.outside_acts.specs.Acts.{Append}
use Rattle.image_saver.proofs.Pieces.{made_empty, piece_unwritten, piece_written}
use Rattle.image_saver.proofs.Saves.{appends, writes_sooner}
use Rattle.image_saver.proofs.saving.write_ram.Goals as goal

pub returns-in_err-start-clause-writes : goal.returns-in_err-start-clause-writes
returns-in_err-start-clause-writes g c =
    let p = err_from_is_err_and c.from_residual.result c.from_residual.ensures.1 in
    rw (p.1, p.2) (writes_sooner (Append c.args.file.now c.args.ram.now ∷ []) c.in_err-start.ensures.writes)

pub loop-done-init : goal.loop-done-init
loop-done-init g c = record {
  within = omega arith;
  written = made_empty tt c.args.file.now c.in_ok-start.ensures.writes;
  calm = λ quiet some. ((c.in_ok-start.ensures.calm quiet).still, c.in_ok-start.ensures.there some);
}

pub returns-in_err-append-clause-writes : goal.returns-in_err-append-clause-writes
returns-in_err-append-clause-writes g c =
    let p = err_from_is_err_and c.from_residual-in_err-append.result c.from_residual-in_err-append.ensures.1 in
    let said = c.in_err-append.ensures in
    rw (p.1, p.2) (piece_unwritten c.in_err-append.field-0.0 c.args.file.now c.args.ram.now c.part.result.now c.loop-done.done c.min-size.result
    c.part.ensures.bytes c.part.ensures.length c.loop-done.invariant.written said.after_error said.others said.cause said.other_count)

pub loop-done-preserved : goal.loop-done-preserved
loop-done-preserved g c =
    let said = c.in_ok-append.ensures in
    let next = piece_written c.args.file.now c.args.ram.now c.part.result.now c.loop-done.done c.min-size.result
    c.part.ensures.bytes c.loop-done.invariant.written said.named said.others said.cause said.other_count in
    let grown = appends {held = g.F.Files.held} {reads = g.F.Files.read_faults} {writes = g.F.Files.write_faults}
    c.in_ok-append.field-0 c.args.file.now c.part.result.now said.named said.others said.cause said.other_count in
    record {
      within = grind arith;
      written = next;
      calm = λ quiet some.
          let both = c.loop-done.invariant.calm quiet some in
          ((said.calm both.0 both.1).still, grown.holds c.args.file.now both.1);
    }
