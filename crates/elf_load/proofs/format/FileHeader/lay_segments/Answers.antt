use Rattle.std.proofs.Common.{◌≡◌, ℕ, length, sym, ap, subst, ◌∙◌}
use Rattle.elf_load.specs.Loading.{FitsIn}
use Rattle.elf_load.proofs.HeaderLemmas.{segment_inside}
use Rattle.elf_load.proofs.MemoryLemmas.{each_fits, length-memory_with, memory_with-more, memory_with-none}
use Rattle.elf_load.proofs.format.FileHeader.lay_segments.Goals as goal

pub loop-i-init : goal.loop-i-init
loop-i-init c = memory_with-none c.args.bytes.now c.args.ram.now c.requires.zero

pub segment-segment-requires-clause-inside : goal.segment-segment-requires-clause-inside
segment-segment-requires-clause-inside c =
    segment_inside c.args.bytes.now c.args.self.now c.requires.whole c.requires.header c.loop-i.i c.loop-i-test.true

pub lay-requires : goal.lay-requires
lay-requires c = λ loaded.
    let len : length c.loop-i.ram ≡ length c.args.ram.now =
    ap length c.loop-i.invariant ∙ length-memory_with c.args.bytes.now c.loop-i.i (length c.args.ram.now) in
    let P : ℕ → Type 0 = λ n. FitsIn (length c.args.bytes.now) n c.segment-segment.result in
    subst P (sym len)
    (each_fits c.args.bytes.now c.args.self.now (length c.args.ram.now) c.requires.header c.requires.no_fault c.loop-i.i c.loop-i-test.true c.segment-segment.result c.segment-segment.ensures loaded)

pub loop-i-preserved : goal.loop-i-preserved
loop-i-preserved c =
    memory_with-more c.args.bytes.now c.loop-i.i (length c.args.ram.now) c.segment-segment.result c.loop-i.ram c.lay.new.ram c.segment-segment.ensures c.loop-i.invariant c.lay.ensures
