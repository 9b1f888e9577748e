use Rattle.std.proofs.Common.{◌≡◌, ℕ, ◌+◌, ◌*◌, take, refl, ap, ◌∙◌, arith}
use Rattle.commit_log.proofs.Digits.{hex_done, hex_goes_on}
use Rattle.commit_log.proofs.pairs.write_pairs.Goals as goal

pub loop-place-preserved : goal.loop-place-preserved
loop-place-preserved c = record {
  digits = hex_goes_on _ _ _ c.loop-place.place c.args.value _ (omega arith) c.write_pair.ensures.written refl c.loop-place.invariant.digits;
  place = omega arith;
  length = c.write_pair.ensures.length ∙ c.loop-place.invariant.length;
}

pub returns-clause-written : goal.returns-clause-written
returns-clause-written c =
    let end : c.args.start + 2 * c.args.count ≡ c.loop-place.at = omega arith in
    ap (λ (n : ℕ). take n c.loop-place.bytes) end
    ∙ hex_done _ _ c.loop-place.place c.args.value c.loop-place-test.false c.loop-place.invariant.digits
