-- What two reads or two writes in turn do to the known bytes.
use Rattle.std.proofs.Common.{◌≡◌, ℕ, ◌+◌, ◌-◌, ◌≤◌, List, ◌++◌, length, take, drop, Option, None, Some, arith, sym, append_assoc}
use Rattle.std.specs.Io.KnownBytes.{Consumes, Appends}
use Rattle.std.proofs.Math.Seq.{take-add, take-append-add}
use Rattle.std.proofs.lemmas.List.{take_all, length-drop, length-take-le, take-append-le}
use borrow.Rule.Slice.PartMut.{put_mid, post_of}

-- two reads take the one part and then the other
pub more_consumed : (a b c : Option (List ℕ)) (xs ys : List ℕ) → Consumes a b xs → Consumes b c ys → Consumes a c (xs ++ ys)
more_consumed None b c xs ys p q = tt
more_consumed (Some xs₀) None c xs ys p q = absurd p
more_consumed (Some xs₀) (Some xs₁) None xs ys p q = absurd q
more_consumed (Some xs₀) (Some xs₁) (Some xs₂) xs ys p q = rw (p, q) (sym (append_assoc xs ys xs₂))

-- two writes append the one part and then the other
pub more_appended : (a b c : Option (List ℕ)) (xs ys : List ℕ) → Appends a b xs → Appends b c ys → Appends a c (xs ++ ys)
more_appended None b c xs ys p q = tt
more_appended (Some xs₀) None c xs ys p q = absurd p
more_appended (Some xs₀) (Some xs₁) None xs ys p q = absurd q
more_appended (Some xs₀) (Some xs₁) (Some xs₂) xs ys p q = rw (q, p) (append_assoc xs₀ xs ys)

-- a buffer whose part from `filled` on was replaced begins with what stood before that place, and then the part
pub front_filled : (buf part : List ℕ) (filled n : ℕ) → filled ≤ length buf → length part ≡ length buf - filled → n ≤ length part
    → take (filled + n) (put_mid filled (length buf - filled) buf part) ≡ take filled buf ++ take n part
front_filled buf part filled n within size fits =
    let rest : List ℕ = part ++ post_of filled (length buf - filled) buf in
    let front : take (filled + n) (take filled buf ++ rest) ≡ take filled buf ++ take n rest = rw (length-take-le filled buf within) at (take-append-add (take filled buf) rest n) in
    rw (front, take-append-le n part (post_of filled (length buf - filled) buf) fits)

-- what stands before a place of a piece, and then n bytes of its rest
part_more : (piece : List ℕ) (done n : ℕ) → take done piece ++ take n (take (length piece - done) (drop done piece)) ≡ take (done + n) piece
part_more piece done n =
    let rest : take (length piece - done) (drop done piece) ≡ drop done piece = take_all (length piece - done) (drop done piece) (omega (arith, length-drop done piece)) in
    rw rest (sym (take-add done n piece))

-- a write of n bytes of the rest leaves so much more written
pub more_written : (a b c : Option (List ℕ)) (piece : List ℕ) (done n : ℕ) → Appends a b (take done piece) → Appends b c (take n (take (length piece - done) (drop done piece))) → Appends a c (take (done + n) piece)
more_written a b c piece done n p q = rw (← part_more piece done n) (more_appended a b c _ _ p q)

-- a read of n bytes into the rest of a buffer leaves so much more read
pub more_read : (a b c : Option (List ℕ)) (buf part : List ℕ) (filled n : ℕ) → filled ≤ length buf → length part ≡ length buf - filled → n ≤ length part
    → Consumes a b (take filled buf) → Consumes b c (take n part) → Consumes a c (take (filled + n) (put_mid filled (length buf - filled) buf part))
more_read a b c buf part filled n within size fits p q = rw (front_filled buf part filled n within size fits) (more_consumed a b c _ _ p q)
