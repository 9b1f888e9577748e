use Rattle.std.proofs.Common.{◌≡◌, ℕ, ◌+◌, ◌-◌, ◌*◌, ◌^◌, ◌≤◌, sym, ap, ◌∙◌, arith}
use Rattle.std.proofs.Math.Pow.{pow_mono}
use Rattle.commit_log.specs.Reading.{digits_of}
use Rattle.commit_log.proofs.ReadDigits.{below_more, digits_done, digits_go_on, digits_stop, fits_more}
use Rattle.commit_log.proofs.parts.read_digits.Goals as goal

pub returns-in-Err-clause-value : goal.returns-in-Err-clause-value
returns-in-Err-clause-value c =
    digits_stop _ (c.args.count - c.digits.counter) c.digits.value _ _ (omega arith) c.in-Err.ensures.value c.digits.invariant.read

pub overflow_mul-value : goal.overflow_mul-value
overflow_mul-value c = omega (arith, fits_more c.digits.value 0 c.digits.counter c.digits.invariant.below (omega arith) (omega arith))

pub overflow_add-value : goal.overflow_add-value
overflow_add-value c =
    rw c.from.ensures (omega (arith, fits_more c.digits.value c.in-Ok.x.0 c.digits.counter c.digits.invariant.below c.in-Ok.ensures.below (omega arith)))

pub digits-preserved : goal.digits-preserved
digits-preserved c =
    let same : c.args.count - (c.digits.counter + 1) ≡ c.args.count - c.digits.counter - 1 = omega arith in
    rw c.from.ensures record {
      read = digits_go_on _ (c.args.count - c.digits.counter) c.digits.value _ _ _ (omega arith) c.in-Ok.ensures.value c.digits.invariant.read ∙ ap (λ (n : ℕ). digits_of n (16 * c.digits.value + c.in-Ok.x.0) c.in-Ok.x.1.now) (sym same);
      below = below_more c.digits.value _ c.digits.counter c.digits.invariant.below c.in-Ok.ensures.below;
    }

pub returns-clause-value : goal.returns-clause-value
returns-clause-value c =
    digits_done _ (c.args.count - c.digits.counter) c.digits.value _ (omega arith) c.digits.invariant.read

pub returns-clause-below : goal.returns-clause-below
returns-clause-below c =
    let most : 4 * c.digits.counter ≤ 4 * c.args.count = omega arith in
    let p : 2 ^ (4 * c.digits.counter) ≤ 2 ^ (4 * c.args.count) = pow_mono most in
    omega (arith, c.digits.invariant.below)
