-- Two parcels that are read at once.
use Rattle.std.proofs.Common.{◌≡◌, ℕ, ◌+◌, ◌-◌, ◌*◌, ◌≤◌, List, ap, ◌∙◌, arith, drop, slice_index}
use Rattle.std.proofs.lemmas.List.{get_or-drop}
use Rattle.byteorder.specs.Endian.{little_from}
use Rattle.byteorder.specs.Numbers.{little_from-take}
use Rattle.guest_ram.specs.Bytes.{base, number_at}

-- the number in four bytes is that of the first two and, above it, that of the last two
pub two_parcels : (ram : List ℕ) (at : ℕ) → base ≤ at → number_at ram at 4 ≡ number_at ram at 2 + 0x10000 * number_at ram (at + 2) 2
two_parcels ram at low =
    let whole : number_at ram at 4 ≡ little_from 0 4 (drop (at - base) ram) = little_from-take 0 4 4 (drop (at - base) ram) (omega arith) in
    let first : number_at ram at 2 ≡ little_from 0 2 (drop (at - base) ram) = little_from-take 0 2 2 (drop (at - base) ram) (omega arith) in
    let last : number_at ram (at + 2) 2 ≡ little_from 0 2 (drop (at + 2 - base) ram) = little_from-take 0 2 2 (drop (at + 2 - base) ram) (omega arith) in
    let moved : at + 2 - base ≡ (at - base) + 2 = omega arith in
    let third : slice_index (drop (at - base) ram) 2 ≡ slice_index ram ((at - base) + 2) = get_or-drop (at - base) ram 2 0 in
    let fourth : slice_index (drop (at - base) ram) 3 ≡ slice_index ram ((at - base) + 3) = get_or-drop (at - base) ram 3 0 in
    let low_last : slice_index (drop (at + 2 - base) ram) 0 ≡ slice_index ram ((at - base) + 2) = get_or-drop (at + 2 - base) ram 0 0 ∙ ap (slice_index ram) (omega arith) in
    let high_last : slice_index (drop (at + 2 - base) ram) 1 ≡ slice_index ram ((at - base) + 3) = get_or-drop (at + 2 - base) ram 1 0 ∙ ap (slice_index ram) (omega arith) in
    omega (arith, whole, first, last, third, fourth, low_last, high_last)
