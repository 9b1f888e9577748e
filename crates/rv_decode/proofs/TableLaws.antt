-- The laws of the table of instruction words.
use Rattle.std.proofs.Common.{◌≡◌, ℕ, Bool, true, Some, refl}
use Rattle.std.specs.Prelude.{◌==◌, find}
use Rattle.rv_decode.specs.Words.{OneRow, Row, decoded, is_match, match_count, rows}
use Rattle.rv_decode.proofs.Table.{are_apart, at_most_one, decoded_by_row}

pub rows_are_apart : are_apart rows ≡ true
unfolding rows
rows_are_apart = refl

pub one_row_lem : OneRow
unfolding match_count
one_row_lem w = at_most_one rows w rows_are_apart

-- the row with this value
abbrev pub has_value : ℕ → Row → Bool
has_value v r = r.value == v

-- a word that matches a row of the table is decoded by it
pub decoded_as : (v : ℕ) (r : Row) (w : ℕ) → find (has_value v) rows ≡ Some r → is_match r w ≡ true → decoded w ≡ Some (r.make w)
unfolding decoded
decoded_as v r w found matched = decoded_by_row (has_value v) rows r w rows_are_apart found matched
