-- Filling a buffer from a file, piece by piece.
use Rattle.std.proofs.Common.{◌≡◌, ℕ, ◌+◌, ◌≤◌, List, ◌++◌, length, take, drop, sym, ap₂, ◌∙◌, arith}
use Rattle.std.proofs.lemmas.List.{places, same_lists}
use borrow.Rule.Slice.PartMut.{post_of, put_mid}

take_split : (xs : List ℕ) (d n : ℕ) → take (d + n) xs ≡ take d xs ++ take n (drop d xs)
take_split xs d n = same_lists _ _ (grind (arith, places)) (λ k x h. grind (arith, places))

take_joined : (old piece rest : List ℕ) (d n : ℕ) → d ≤ length old → n ≤ length piece → take (d + n) (take d old ++ (piece ++ rest)) ≡ take d old ++ take n piece
take_joined old piece rest d n inside within = same_lists _ _ (grind (arith, places)) (λ k x h. grind (arith, places))

-- n more bytes of the file stand in the buffer, whose end was lent
pub filled_more : (file old piece : List ℕ) (d lent n : ℕ) → d ≤ length old → n ≤ length piece → take d old ≡ take d file → take n piece ≡ take n (drop d file) → take (d + n) (put_mid d lent old piece) ≡ take (d + n) file
filled_more file old piece d lent n inside within before more =
    take_joined old piece (post_of d lent old) d n inside within ∙ ap₂ (λ (a b : List ℕ). a ++ b) before more ∙ sym (take_split file d n)
