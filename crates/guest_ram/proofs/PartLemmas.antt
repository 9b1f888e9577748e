-- The test of a part, and laws of `with_part`: what a read finds at, below and above the bytes that were stored.
use Rattle.std.proofs.Common.{◌≡◌, ℕ, ◌+◌, ◌%◌, ◌^◌, ◌≤◌, List, [], length, IsTrue, sym, ap, subst, ◌∙◌, arith, rules}
use Rattle.std.specs.Prelude.{◌↔◌}
use Rattle.std.proofs.lemmas.Bool.{and_from, and_parts, le-leb, leb-true}
use Rattle.std.proofs.lemmas.List.{append-nil, places, same_lists}
use Rattle.std.proofs.Math.Nat.{div-one}
use Rattle.byteorder.specs.Endian.{little_bytes, little_number}
use Rattle.byteorder.specs.Numbers.{length-bytes_low_first, little_from-bytes}
use Rattle.guest_ram.specs.Bytes.{HasPart, base, has_part, number_at, part_of, with_part}

-- the test answers as `HasPart` says
pub has_part_is : (ram : List ℕ) (at n : ℕ) → IsTrue (has_part ram at n) ↔ HasPart ram at n
has_part_is ram at n = (
  (λ holds. let parts = and_parts _ _ holds in record { low = leb-true base at parts.0; high = leb-true (at + n) (base + length ram) parts.1 }),
  (λ part. and_from _ _ (le-leb base at part.low) (le-leb (at + n) (base + length ram) part.high)),
)

-- a store keeps the length
pub length-with_part : (ram : List ℕ) (at : ℕ) (bytes : List ℕ) → length (with_part ram at bytes) ≡ length ram
length-with_part ram at bytes = search (rules, places)

-- a store moves no bound
pub HasPart-with_part : (ram : List ℕ) (at : ℕ) (bytes : List ℕ) (other n : ℕ) → HasPart ram other n → HasPart (with_part ram at bytes) other n
HasPart-with_part ram at bytes other n h = record { low = h.low; high = rw (length-with_part ram at bytes) h.high }

-- the part at a store holds the stored bytes
pub part_of-with_part_same : (ram : List ℕ) (at : ℕ) (bytes : List ℕ) → HasPart ram at (length bytes) → part_of (with_part ram at bytes) at (length bytes) ≡ bytes
part_of-with_part_same ram at bytes h =
    let low = h.low in
    let high = h.high in
    same_lists _ _ (grind (arith, places)) (λ k d h. grind (arith, places))

-- a part that ends at or below a store is unchanged
pub part_of-with_part_below : (ram : List ℕ) (at : ℕ) (bytes : List ℕ) (other n : ℕ) → base ≤ other → other + n ≤ at → part_of (with_part ram at bytes) other n ≡ part_of ram other n
part_of-with_part_below ram at bytes other n low below =
    same_lists _ _ (grind (arith, places)) (λ k d h. grind (arith, places))

-- a part that begins at the end of a store or above it is unchanged
pub part_of-with_part_above : (ram : List ℕ) (at : ℕ) (bytes : List ℕ) (other n : ℕ) → HasPart ram at (length bytes) → at + length bytes ≤ other → part_of (with_part ram at bytes) other n ≡ part_of ram other n
part_of-with_part_above ram at bytes other n h above =
    let low = h.low in
    let high = h.high in
    same_lists _ _ (grind (arith, places)) (λ k d h. grind (arith, places))

-- a number reads the bytes that were stored there: the low `size` bytes of v
pub number_at-with_part_same : (ram : List ℕ) (at size v : ℕ) → HasPart ram at size → number_at (with_part ram at (little_bytes size v)) at size ≡ v % 256 ^ size
number_at-with_part_same ram at size v h =
    let len : length (little_bytes size v) ≡ size = length-bytes_low_first 0 size v in
    let P : ℕ → Type 0 = λ n. HasPart ram at n in
    let there = part_of-with_part_same ram at (little_bytes size v) (subst P (sym len) h) in
    let Q : ℕ → Type 0 = λ n. part_of (with_part ram at (little_bytes size v)) at n ≡ little_bytes size v in
    ap (little_number size) (subst Q len there ∙ sym (append-nil (little_bytes size v)))
    ∙ little_from-bytes size 0 v []
    ∙ ap (λ x. x % 256 ^ size) (div-one v)

-- a number that ends at or below a store is unchanged
pub number_at-with_part_below : (ram : List ℕ) (at : ℕ) (bytes : List ℕ) (other n : ℕ) → base ≤ other → other + n ≤ at → number_at (with_part ram at bytes) other n ≡ number_at ram other n
number_at-with_part_below ram at bytes other n low below =
    ap (little_number n) (part_of-with_part_below ram at bytes other n low below)

-- a number that begins at the end of a store or above it is unchanged
pub number_at-with_part_above : (ram : List ℕ) (at : ℕ) (bytes : List ℕ) (other n : ℕ) → HasPart ram at (length bytes) → at + length bytes ≤ other → number_at (with_part ram at bytes) other n ≡ number_at ram other n
number_at-with_part_above ram at bytes other n h above =
    ap (little_number n) (part_of-with_part_above ram at bytes other n h above)
