-- What loading a file gives: the first fault, or the bytes of memory and the entry.
use Rattle.std.specs.Prelude.{◌≡◌, ◌≤◌, ◌<◌, ◌⊎◌, ◌+◌, ◌-◌, ◌*◌, ◌%◌, ◌==◌, ◌&&◌, ℕ, zero, suc, List, Bool, not, nat_lt, nat_le, nat_eq, if◌then◌else◌, Option, Some, None, length, map, replicate, slice_index}
use Rattle.std.specs.List.{range_with_len, starts_with}
use Rattle.std.specs.Option.{option_or}
use Rattle.guest_ram.specs.Bytes.{IsInRam, base, is_in_ram}
use Rattle.elf_load.specs.First.{first_of}
use Rattle.elf_load.specs.Format.{header_of, header_size, magic, reaches_past, segment_of, segment_size}
use Rattle.elf_load.specs.declared.fault.ElfFault.{ElfFault}
use Rattle.elf_load.specs.declared.fault.ElfFault.TheVariants.{NotElf, WrongKind, Truncated, OutsideRam, Shrinks, TooLong}
use Rattle.elf_load.specs.declared.fault.ElfField.TheVariants.{Class, Order, Type2, Machine, Phentsize, Entry}
use Rattle.elf_load.specs.declared.format.FileHeader.{FileHeader}
use Rattle.elf_load.specs.declared.format.Segment.{Segment}

-- ---- the first fault

-- the greatest length of a file, 64 MiB
abbrev pub longest_file : ℕ
longest_file = 67108864

-- a field of the header that is refused: the file is for 64 bits (2), little-endian (1), executable
-- (2), for RISC-V (243), its program headers, if any, have 56 bytes, and its entry is even
unfoldable pub field_fault : FileHeader → Option ElfFault
field_fault h =
    if not (h.class == 2) then Some (WrongKind Class)
    else if not (h.order == 1) then Some (WrongKind Order)
    else if not (h.kind == 2) then Some (WrongKind Type2)
    else if not (h.machine == 243) then Some (WrongKind Machine)
    else if not (h.phnum == 0) && not (h.phentsize == segment_size) then Some (WrongKind Phentsize)
    else if not (h.entry % 2 == 0) then Some (WrongKind Entry)
    else None

-- the table of program headers, if there is one, reaches past the end of a file of len bytes
unfoldable pub table_fault : ℕ → FileHeader → Option ElfFault
table_fault len h =
    if not (h.phnum == 0) && reaches_past len h.phoff (segment_size * h.phnum) then Some (Truncated h.phoff)
    else None

-- the first fault of the file as a whole: too long, not an ELF file, no whole header, a field that is
-- refused, no whole table of program headers
unfoldable pub header_fault : List ℕ → Option ElfFault
header_fault file =
    if nat_lt longest_file (length file) then Some (TooLong (length file))
    else if not (starts_with nat_eq file magic) then Some NotElf
    else if nat_lt (length file) header_size then Some (Truncated 0)
    else option_or (field_fault (header_of file)) (table_fault (length file) (header_of file))

-- the segment is one to load (PT_LOAD)
abbrev pub is_loaded : Segment → Bool
is_loaded s = s.kind == 1

-- the first fault of the segment of index i, if it is one to load: it has fewer bytes in memory than
-- in the file, its bytes reach past the end of the file, or its place in memory is not all in RAM
unfoldable pub segment_fault : ℕ → ℕ → ℕ → Segment → Option ElfFault
segment_fault len ram_len i s =
    if not (is_loaded s) then None
    else if nat_lt s.memsz s.filesz then Some (Shrinks i)
    else if not (s.filesz == 0) && reaches_past len s.offset s.filesz then Some (Truncated s.offset)
    else if not (s.memsz == 0) && not (is_in_ram ram_len s.paddr s.memsz) then Some (OutsideRam i)
    else None

-- the first fault of the segments, in the table's order
unfoldable pub segments_fault : List ℕ → ℕ → Option ElfFault
segments_fault file ram_len =
    first_of (λ i. segment_fault (length file) ram_len i (segment_of file i)) (header_of file).phnum

-- the first fault of a file that is to be loaded into a memory of ram_len bytes
abbrev pub load_fault : List ℕ → ℕ → Option ElfFault
load_fault file ram_len = option_or (header_fault file) (segments_fault file ram_len)

-- the file as a whole has no fault, as is so of each file that was loaded
abbrev pub HasHeader : List ℕ → Type 0
HasHeader file = header_fault file ≡ None

-- ---- the bytes of memory

-- the segment covers the address
abbrev pub covers : Segment → ℕ → Bool
covers s at = is_loaded s && (nat_le s.paddr at && nat_lt at (s.paddr + s.memsz))

-- the byte of the segment at the address: the file's, or 0 past the segment's bytes in the file
abbrev pub segment_byte : List ℕ → Segment → ℕ → ℕ
segment_byte file s at =
    if nat_lt (at - s.paddr) s.filesz then slice_index file (s.offset + (at - s.paddr)) else 0

-- the byte at the address of the last among the first n segments that covers it, and 0 where none does
unfoldable pub byte_at : List ℕ → ℕ → ℕ → ℕ
byte_at file zero at = 0
byte_at file (suc i) at =
    if covers (segment_of file i) at then segment_byte file (segment_of file i) at else byte_at file i at

-- a memory of ram_len bytes with the first n segments
unfoldable pub memory_with : List ℕ → ℕ → ℕ → List ℕ
memory_with file n ram_len = map (λ k. byte_at file n (base + k)) (range_with_len 0 ram_len)

-- a memory of ram_len bytes with all segments
abbrev pub loaded_memory : List ℕ → ℕ → List ℕ
loaded_memory file ram_len = memory_with file (header_of file).phnum ram_len

-- where execution begins
abbrev pub entry_of : List ℕ → ℕ
entry_of file = (header_of file).entry

-- every byte of memory is 0
abbrev pub IsZero : List ℕ → Type 0
IsZero ram = ram ≡ replicate (length ram) 0

-- a segment that has no fault: it does not shrink, its bytes lie in the file, and its place lies in
-- memory, where it has any
pub record FitsIn (len ram_len : ℕ) (s : Segment) : Type 0 where
  pub grows : s.filesz ≤ s.memsz
  pub in_file : (s.filesz ≡ 0) ⊎ (s.offset + s.filesz ≤ len)
  pub in_ram : (s.memsz ≡ 0) ⊎ IsInRam ram_len s.paddr s.memsz

-- the memory `new` is `old` with the segment's bytes at the addresses that it covers
pub record IsLaid (file : List ℕ) (s : Segment) (old new : List ℕ) : Type 0 where
  pub same_length : length new ≡ length old
  pub bytes : (k : ℕ) → k < length old → slice_index new k ≡ (if covers s (base + k) then segment_byte file s (base + k) else slice_index old k)
