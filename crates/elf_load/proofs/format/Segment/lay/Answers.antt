use Rattle.std.proofs.Common.{IsTrue, refl, rules}
use Rattle.elf_load.proofs.LayingLemmas.{laid_by_store}
use Rattle.elf_load.specs.Loading.{is_loaded}
use Rattle.elf_load.proofs.format.Segment.lay.Goals as goal

pub returns : goal.returns
returns c =
    let s = c.args.self.now in
    let loaded : IsTrue (is_loaded s) = search rules in
    laid_by_store c.args.bytes.now s c.args.ram.now c.fill_part.new.part loaded c.if-self-eq0.false (c.requires loaded)
    (rw (c.fill_part.ensures, c.part_mut.ensures.length, c.file_bytes-file.ensures.length, c.file_bytes-file.ensures.bytes) refl)
