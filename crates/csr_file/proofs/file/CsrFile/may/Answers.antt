use Rattle.std.proofs.Common.{sym}
use Rattle.csr_file.proofs.AccessLaws.{may_access-present, may_access-writable}
use Rattle.csr_file.proofs.file.CsrFile.may.Goals as goal

pub returns-then-may-clause-present : goal.returns-then-may-clause-present
returns-then-may-clause-present c = rw (← c.self.view_is) (may_access-present _ c.args.mode _ c.args.write (sym c.if-may.ensures))

pub returns-then-may-clause-writable : goal.returns-then-may-clause-writable
returns-then-may-clause-writable c = may_access-writable _ c.args.mode _ _ (sym c.if-may.ensures)
