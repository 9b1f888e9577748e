use Rattle.std.proofs.Common.{rules, w64}
use Rattle.rv_alu.proofs.Remainders.{modulo_64, remainder_at, signed_64}
use Rattle.rv_alu.proofs.quotient.remain.Goals as goal

pub returns-else-b-eq0 : goal.returns-else-b-eq0
returns-else-b-eq0 c =
    remainder_at w64 signed_64 modulo_64 c.args.a c.args.b c.cast_signed.result c.cast_signed-else-b-eq0.result c.wrapping_rem.result _ (search rules) (search rules) (search rules) c.cast_signed.ensures c.cast_signed-else-b-eq0.ensures c.wrapping_rem.ensures (search rules) (search rules) (search rules) c.cast_unsigned.ensures
