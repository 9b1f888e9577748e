-- How memory grows by one segment.
use Rattle.std.proofs.Common.{◌≡◌, ℕ, ◌+◌, ◌<◌, List, length, get_or, cond, IsTrue, None, refl, sym, ap, subst, ◌∙◌, add-one, arith}
use Rattle.std.proofs.lemmas.Bool.Decides.{nat_tests}
use Rattle.std.proofs.lemmas.List.{places}
use Rattle.std.proofs.lemmas.List.FromFn.{length-map-range_with_len, get_or-map-range_with_len, fill_by_all}
use Rattle.guest_ram.specs.Bytes.{base}
use Rattle.elf_load.specs.Format.{header_of, segment_of}
use Rattle.elf_load.specs.Loading.{FitsIn, IsLaid, IsZero, byte_at, covers, is_loaded, memory_with, segment_byte, segment_fault, segments_fault}
use Rattle.elf_load.specs.declared.format.FileHeader.{FileHeader}
use Rattle.elf_load.specs.declared.format.Segment.{Segment}
use Rattle.elf_load.proofs.FirstLemmas.{first_of-none}

-- a segment to load that has no fault fits in
pub fits_in : (len ram_len i : ℕ) (s : Segment) → segment_fault len ram_len i s ≡ None → IsTrue (is_loaded s) → FitsIn len ram_len s
unfolding segment_fault
fits_in len ram_len i s none loaded = record {
  grows = grind (arith, nat_tests);
  in_file = grind (arith, nat_tests);
  in_ram = grind (arith, nat_tests);
}

-- and so each segment of a file whose segments have none
pub each_fits : (file : List ℕ) (h : FileHeader) (ram_len : ℕ) → h ≡ header_of file → segments_fault file ram_len ≡ None → (i : ℕ) → i < h.phnum → (s : Segment) → s ≡ segment_of file i → IsTrue (is_loaded s) → FitsIn (length file) ram_len s
unfolding segments_fault
each_fits file h ram_len is none i within s same loaded =
    let P : FileHeader → Type 0 = λ (g : FileHeader). i < g.phnum in
    let here = first_of-none (λ k. segment_fault (length file) ram_len k (segment_of file k)) (header_of file).phnum none i (subst P is within) in
    fits_in (length file) ram_len i s (ap (segment_fault (length file) ram_len i) same ∙ here) loaded

-- the memory has the length that is asked
pub length-memory_with : (file : List ℕ) (n ram_len : ℕ) → length (memory_with file n ram_len) ≡ ram_len
unfolding memory_with
length-memory_with file n ram_len = length-map-range_with_len _ 0 ram_len

-- a memory of zeros has no segment
pub memory_with-none : (file : List ℕ) (ram : List ℕ) → IsZero ram → ram ≡ memory_with file 0 (length ram)
unfolding memory_with byte_at
memory_with-none file ram zero =
    fill_by_all (λ k. byte_at file 0 (base + k)) ram (length ram) 0 refl
    (λ k within. ap (λ xs. get_or xs k 0) zero ∙ grind (arith, places))

-- its bytes
get_or-memory_with : (file : List ℕ) (n ram_len k : ℕ) → k < ram_len → get_or (memory_with file n ram_len) k 0 ≡ byte_at file n (base + k)
unfolding memory_with
get_or-memory_with file n ram_len k within =
    get_or-map-range_with_len (λ j. byte_at file n (base + j)) 0 ram_len k k 0 within (omega arith)

-- a byte with one more segment
byte_at-more : (file : List ℕ) (n at : ℕ) → byte_at file (n + 1) at ≡ cond (covers (segment_of file n) at) (segment_byte file (segment_of file n) at) (byte_at file n at)
unfolding byte_at
byte_at-more file n at = rw (add-one n) refl

-- one more segment
pub memory_with-more : (file : List ℕ) (n ram_len : ℕ) (s : Segment) (old new : List ℕ) → s ≡ segment_of file n → old ≡ memory_with file n ram_len → IsLaid file s old new → new ≡ memory_with file (n + 1) ram_len
unfolding memory_with
memory_with-more file n ram_len s old new same before laid =
    let len : length old ≡ ram_len = ap length before ∙ length-memory_with file n ram_len in
    fill_by_all (λ k. byte_at file (n + 1) (base + k)) new ram_len 0 (laid.same_length ∙ len)
    (λ k within.
    let old_byte : get_or old k 0 ≡ byte_at file n (base + k) = ap (λ xs. get_or xs k 0) before ∙ get_or-memory_with file n ram_len k within in
    laid.bytes k (omega arith)
    ∙ ap (cond (covers s (base + k)) (segment_byte file s (base + k))) old_byte
    ∙ ap (λ (x : Segment). cond (covers x (base + k)) (segment_byte file x (base + k)) (byte_at file n (base + k))) same
    ∙ sym (byte_at-more file n (base + k)))
