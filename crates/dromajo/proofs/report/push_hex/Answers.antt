-- The next digit is written.
use Rattle.std.proofs.Common.{List, ◌++◌, ℕ, ap, string_bytes, ◌∙◌, arith}
use Rattle.dromajo.proofs.HexDigits.{digits_go_on}
use Rattle.dromajo.proofs.report.push_hex.Goals as goal

pub loop-place-preserved : goal.loop-place-preserved
loop-place-preserved c = digits_go_on _ _ _ c.loop-place.place c.args.value c.hex_digit.result (omega arith) (c.in_ok-push.ensures.bytes ∙ ap (λ (xs : List ℕ). string_bytes c.loop-place.line ++ xs) (c.push.ensures.ascii c.hex_digit.ensures.ascii)) c.hex_digit.ensures.value c.loop-place.invariant
