use Rattle.std.proofs.Common.{◌≡◌, ◌-◌, drop, length, length-drop, take, arith}
use Rattle.std.proofs.lemmas.List.{take_all}
use Rattle.commit_log.proofs.ReadDigits.{two_parts, two_parts_below}
use Rattle.commit_log.proofs.values.number_in_front.Goals as goal

pub returns-clause-value : goal.returns-clause-value
returns-clause-value c =
    let line = c.args.line.now in
    let rest : take (length line - 8) (drop 8 line) ≡ drop 8 line = take_all (length line - 8) (drop 8 line) (omega (arith, length-drop 8 line)) in
    two_parts c.args.count _ _ line (omega arith) c.requires.0 c.in_ok-high.ensures.below c.in_ok-low.ensures.below c.in_ok-high.ensures.value
    (rw rest at c.in_ok-low.ensures.value)

pub returns-clause-below : goal.returns-clause-below
returns-clause-below c =
    two_parts_below c.args.count _ _ (omega arith) c.requires.0 c.in_ok-high.ensures.below c.in_ok-low.ensures.below
