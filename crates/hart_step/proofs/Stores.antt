-- A walker that was told of a store agrees with memory after it.
use Rattle.std.proofs.Common.{◌≡◌, ℕ, List, length, IsTrue, subst, sym}
use Rattle.byteorder.specs.Endian.{little_bytes}
use Rattle.byteorder.specs.Numbers.{length-bytes_low_first}
use Rattle.guest_ram.specs.Bytes.{HasPart, has_part, with_part}
use Rattle.guest_ram.proofs.PartLemmas.{has_part_is}
use Rattle.sv39_walk.specs.Laws.{StoreDiffers}
use Rattle.sv39_walk.specs.Remembered.{Agrees, DiffersOnlyIn, Remembered}

pub noted_agrees : (old new : List Remembered) (ram : List ℕ) (at size value : ℕ) → IsTrue (has_part ram at size) → StoreDiffers → Agrees old ram → ((before after : List ℕ) → Agrees old before → DiffersOnlyIn at size before after → Agrees new after) → Agrees new (with_part ram at (little_bytes size value))
noted_agrees old new ram at size value inside differs agrees told =
    let bytes : List ℕ = little_bytes size value in
    let long : length bytes ≡ size = length-bytes_low_first 0 size value in
    let part : HasPart ram at (length bytes) = subst (λ (n : ℕ). HasPart ram at n) (sym long) ((has_part_is ram at size).0 inside) in
    let only : DiffersOnlyIn at (length bytes) ram (with_part ram at bytes) = differs ram bytes at part in
    told ram (with_part ram at bytes) agrees (subst (λ (n : ℕ). DiffersOnlyIn at n ram (with_part ram at bytes)) long only)

pub stored_length : (ram : List ℕ) (at size value : ℕ) → IsTrue (has_part ram at size) → StoreDiffers → length (with_part ram at (little_bytes size value)) ≡ length ram
stored_length ram at size value inside differs =
    let bytes : List ℕ = little_bytes size value in
    let long : length bytes ≡ size = length-bytes_low_first 0 size value in
    let part : HasPart ram at (length bytes) = subst (λ (n : ℕ). HasPart ram at n) (sym long) ((has_part_is ram at size).0 inside) in
    (differs ram bytes at part).as_long
