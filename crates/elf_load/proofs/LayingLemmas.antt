-- What memory holds once a segment is laid.
use Rattle.std.proofs.Common.{◌≡◌, ◌≢◌, ℕ, ◌+◌, ◌-◌, ◌<◌, ◌≤◌, ◌++◌, ◌⊎◌, List, length, take, drop, replicate, get_or, true, false, cond, nat_lt, IsTrue, sym, ap, ◌∙◌, inl, inr, arith}
use Rattle.std.proofs.lemmas.Bool.{cases_lt}
use Rattle.std.proofs.lemmas.Bool.Decides.{nat_tests}
use Rattle.std.proofs.lemmas.List.{places}
use Rattle.guest_ram.specs.Bytes.{HasPart, base, with_part}
use Rattle.guest_ram.proofs.PartLemmas.{length-with_part}
use Rattle.elf_load.specs.Loading.{FitsIn, IsLaid, covers, is_loaded, segment_byte}
use Rattle.elf_load.specs.declared.format.Segment.{Segment}

-- the bytes of a store, and those below and above it
get_or-with_part_inside : (ram : List ℕ) (at : ℕ) (bytes : List ℕ) → HasPart ram at (length bytes) → (k : ℕ) → at ≤ base + k → base + k < at + length bytes → get_or (with_part ram at bytes) k 0 ≡ get_or bytes (base + k - at) 0
get_or-with_part_inside ram at bytes h k low high =
    let low' = h.low in
    let high' = h.high in
    grind (arith, places)

get_or-with_part_below : (ram : List ℕ) (at : ℕ) (bytes : List ℕ) → HasPart ram at (length bytes) → (k : ℕ) → base + k < at → get_or (with_part ram at bytes) k 0 ≡ get_or ram k 0
get_or-with_part_below ram at bytes h k below =
    let low' = h.low in
    let high' = h.high in
    grind (arith, places)

get_or-with_part_above : (ram : List ℕ) (at : ℕ) (bytes : List ℕ) → HasPart ram at (length bytes) → (k : ℕ) → k < length ram → at + length bytes ≤ base + k → get_or (with_part ram at bytes) k 0 ≡ get_or ram k 0
get_or-with_part_above ram at bytes h k within above =
    let low' = h.low in
    let high' = h.high in
    grind (arith, places)

-- the bytes that are written for a segment: those of the file, and zeros after them
abbrev pub written : List ℕ → Segment → List ℕ
written file s = take s.filesz (drop s.offset file) ++ replicate (s.memsz - s.filesz) 0

length-written : (file : List ℕ) (s : Segment) → s.filesz ≤ s.memsz → (s.filesz ≡ 0) ⊎ (s.offset + s.filesz ≤ length file) → length (written file s) ≡ s.memsz
length-written file s grows in_file = grind (arith, places)

get_or-written : (file : List ℕ) (s : Segment) (j : ℕ) → (s.filesz ≡ 0) ⊎ (s.offset + s.filesz ≤ length file) → j < s.memsz → get_or (written file s) j 0 ≡ cond (nat_lt j s.filesz) (get_or file (s.offset + j) 0) 0
get_or-written file s j in_file within = grind (arith, places, nat_tests)

covered : (s : Segment) (at : ℕ) → IsTrue (is_loaded s) → s.paddr ≤ at → at < s.paddr + s.memsz → covers s at ≡ true
covered s at loaded low high = grind (arith, nat_tests)

not_below : (s : Segment) (at : ℕ) → at < s.paddr → covers s at ≡ false
not_below s at below = grind (arith, nat_tests)

not_above : (s : Segment) (at : ℕ) → s.paddr + s.memsz ≤ at → covers s at ≡ false
not_above s at above = grind (arith, nat_tests)

-- a store of its bytes lays a segment
pub laid_by_store : (file : List ℕ) (s : Segment) (old bytes : List ℕ) → IsTrue (is_loaded s) → s.memsz ≢ 0 → FitsIn (length file) (length old) s → bytes ≡ written file s → IsLaid file s old (with_part old s.paddr bytes)
laid_by_store file s old bytes loaded some fits is =
    let grows = fits.grows in
    let in_file = fits.in_file in
    let in_ram = fits.in_ram in
    let len : length bytes ≡ s.memsz = ap length is ∙ length-written file s grows in_file in
    let low : base ≤ s.paddr = omega arith in
    let high : s.paddr + length bytes ≤ base + length old = omega arith in
    let part : HasPart old s.paddr (length bytes) = record { low = low; high = high } in
    record {
      same_length = length-with_part old s.paddr bytes;
      bytes = λ k within.
          elim (cases_lt (base + k) s.paddr) [
            | inl below ↦ get_or-with_part_below old s.paddr bytes part k below
                ∙ sym (ap (λ b. cond b (segment_byte file s (base + k)) (get_or old k 0)) (not_below s (base + k) below))
            | inr from ↦ elim (cases_lt (base + k) (s.paddr + s.memsz)) [
              | inr above ↦ get_or-with_part_above old s.paddr bytes part k within (omega arith)
                  ∙ sym (ap (λ b. cond b (segment_byte file s (base + k)) (get_or old k 0)) (not_above s (base + k) above))
              | inl inside ↦ get_or-with_part_inside old s.paddr bytes part k from (omega arith)
                  ∙ ap (λ xs. get_or xs (base + k - s.paddr) 0) is
                  ∙ get_or-written file s (base + k - s.paddr) in_file (omega arith)
                  ∙ sym (ap (λ b. cond b (segment_byte file s (base + k)) (get_or old k 0)) (covered s (base + k) loaded from inside))
            ]
          ];
    }
