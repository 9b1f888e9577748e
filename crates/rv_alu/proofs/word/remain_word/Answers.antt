use Rattle.std.proofs.Common.{rules, w32}
use Rattle.rv_alu.proofs.Remainders.{modulo_32, remainder_at, signed_32}
use Rattle.rv_alu.proofs.word.remain_word.Goals as goal

pub returns-else-b-eq0 : goal.returns-else-b-eq0
returns-else-b-eq0 c =
    remainder_at w32 signed_32 modulo_32 c.args.a c.args.b c.cast_signed.result c.cast_signed-else-b-eq0.result c.wrapping_rem.result _ (search rules) (search rules) (search rules) c.cast_signed.ensures c.cast_signed-else-b-eq0.ensures c.wrapping_rem.ensures (search rules) (search rules) (search rules) c.cast_unsigned.ensures
