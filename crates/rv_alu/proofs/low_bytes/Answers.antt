use Rattle.std.proofs.Common.{◌<◌, ◌^◌, sym, subst, ◌∙◌}
use Rattle.std.proofs.Math.Nat.{mod-eq_of_lt}
use Rattle.rv_alu.proofs.Bytes.{bytes_fit, field_of_bytes, word_fits}
use Rattle.rv_alu.proofs.low_bytes.Goals as goal

pub returns-then-size-lt8-clause-value : goal.returns-then-size-lt8-clause-value
returns-then-size-lt8-clause-value c = c.bits.ensures ∙ field_of_bytes c.args.size c.args.value

pub returns-then-size-lt8-clause-fits : goal.returns-then-size-lt8-clause-fits
returns-then-size-lt8-clause-fits c =
    subst (λ x. x < 256 ^ c.args.size) (sym (returns-then-size-lt8-clause-value c)) (bytes_fit c.args.size c.args.value)

pub returns-else-size-lt8-clause-value : goal.returns-else-size-lt8-clause-value
returns-else-size-lt8-clause-value c =
    sym (mod-eq_of_lt (word_fits c.args.size c.args.value c.if-size-lt8.false c.ranges.value.fits))

pub returns-else-size-lt8-clause-fits : goal.returns-else-size-lt8-clause-fits
returns-else-size-lt8-clause-fits c = word_fits c.args.size c.args.value c.if-size-lt8.false c.ranges.value.fits
