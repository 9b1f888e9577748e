use Rattle.rv_decode.proofs.TableLaws.{one_row_lem}
use Rattle.rv_decode.proofs.one_row.Goals as goal

pub returns : goal.returns
returns c = one_row_lem
