use Rattle.outside_io.proofs.ReadingLemmas.{next_bytes}
use Rattle.outside_io.proofs.sure.SureSourceSource.read.Goals as goal

pub returns-clause-bytes : goal.returns-clause-bytes
returns-clause-bytes c =
    let count = rw c.deref.ensures.value at c.copy_from-count.ensures.count in
    let front = rw c.deref.ensures.value at c.copy_from-count.ensures.front in
    next_bytes c.args.self.now.bytes.items c.copy_from-count.new.buf c.args.self.now.at c.copy_from-count.result count front
