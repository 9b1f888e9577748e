-- A text that does not parse spells a number of more than 64 bits.
use Rattle.std.proofs.Common.{◌≡◌, true, sym, arith}
use Rattle.job_words.specs.CommandLine.{is_number}
use Rattle.job_words.proofs.Numbers.{too_large}
use Rattle.job_words.proofs.values.number.Goals as goal

pub returns-in_default-clause-value : goal.returns-in_default-clause-value
returns-in_default-clause-value c =
    let is : is_number c.args.text.now ≡ true = grind arith in
    sym (too_large c.args.most c.args.text.now c.in_default.field-0 (omega arith) is c.in_default.ensures.value.0)
