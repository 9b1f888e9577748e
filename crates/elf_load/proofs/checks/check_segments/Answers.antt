use Rattle.std.proofs.lemmas.Result.{err_from_is_err_and}
use Rattle.elf_load.proofs.HeaderLemmas.{segment_inside, segments_fault-found}
use Rattle.elf_load.proofs.checks.check_segments.Goals as goal

pub segment-segment-requires-clause-inside : goal.segment-segment-requires-clause-inside
segment-segment-requires-clause-inside c =
    segment_inside c.args.bytes.now c.args.header.now c.requires.whole c.requires.header c.loop-i.i c.loop-i-test.true

pub returns-in_err-check : goal.returns-in_err-check
returns-in_err-check c =
    let p = err_from_is_err_and c.from_residual.result c.from_residual.ensures.1 in
    rw (p.1, p.2)
    (segments_fault-found c.args.bytes.now c.args.header.now c.args.ram_len c.loop-i.i c.segment-segment.result _ c.requires.header c.loop-i-test.true c.loop-i.invariant c.segment-segment.ensures c.in_err-check.ensures)
