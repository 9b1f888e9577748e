-- What a copy to the front of a buffer reads, of a list from some place on.
use Rattle.std.proofs.Common.{◌≡◌, ℕ, ◌+◌, ◌<◌, List, [], ◌++◌, length, take, drop, min, arith, sym}
use Rattle.std.proofs.lemmas.List.{drop-drop, drop_all, length-drop, take-append-drop}

-- the bytes from place a on are the next n, and then those from place a + n on
next_part : (bytes : List ℕ) (a n : ℕ) → drop a bytes ≡ take n (drop a bytes) ++ drop (a + n) bytes
next_part bytes a n = rw (← drop-drop n a bytes) (sym (take-append-drop n (drop a bytes)))

-- where none was copied though there was room, none is left
none_left : (bytes buf : List ℕ) (a n : ℕ) → n ≡ min (length buf) (length (drop a bytes)) → n ≡ 0 → 0 < length buf → drop (a + n) bytes ≡ []
none_left bytes buf a n e z room = drop_all (a + n) bytes (omega (arith, length-drop a bytes))

-- the bytes from place a on are those that were copied, and then the rest
pub next_bytes : (bytes buf : List ℕ) (a n : ℕ) → n ≡ min (length buf) (length (drop a bytes)) → take n buf ≡ take n (drop a bytes)
    → (drop a bytes ≡ take n buf ++ drop (a + n) bytes) × (n ≡ 0 → 0 < length buf → drop (a + n) bytes ≡ [])
next_bytes bytes buf a n e f = (rw f (next_part bytes a n), none_left bytes buf a n e)
