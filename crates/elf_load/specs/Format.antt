-- The records of an ELF64 file in the little-endian order, by the places of their fields
-- (System V ABI, 4, Object Files, and 5, Program Loading). A place is a number of bytes from the
-- file's start.
use Rattle.std.specs.Prelude.{◌+◌, ◌*◌, ℕ, List, [], ◌∷◌, Bool, drop, take, nat_lt}
use Rattle.byteorder.specs.Endian.{little_number}
use Rattle.elf_load.specs.declared.format.FileHeader.{FileHeader}
use Rattle.elf_load.specs.declared.format.Segment.{Segment}
use Rattle.elf_load.specs.declared.format.Section.{Section}
use Rattle.elf_load.specs.declared.format.Symbol.{Symbol}

-- the number in the `size` bytes from the place `at`, the lowest byte first
unfoldable pub field : List ℕ → ℕ → ℕ → ℕ
field file at size = little_number size (drop at file)

-- the n bytes from the place `at` reach past the end of a file of len bytes
abbrev pub reaches_past : ℕ → ℕ → ℕ → Bool
reaches_past len at n = nat_lt len (at + n)

-- the bytes that an ELF file begins with: 0x7f and the letters ELF
abbrev pub magic : List ℕ
magic = 0x7f ∷ 0x45 ∷ 0x4c ∷ 0x46 ∷ []

-- the length of the file's header, of a program header, of a section header and of a symbol
abbrev pub header_size : ℕ
header_size = 64

abbrev pub segment_size : ℕ
segment_size = 56

abbrev pub section_size : ℕ
section_size = 64

abbrev pub symbol_size : ℕ
symbol_size = 24

-- the header at the file's start
abbrev pub header_of : List ℕ → FileHeader
header_of file = record {
  class = field file 4 1;
  order = field file 5 1;
  kind = field file 16 2;
  machine = field file 18 2;
  entry = field file 24 8;
  phoff = field file 32 8;
  phentsize = field file 54 2;
  phnum = field file 56 2;
  shoff = field file 40 8;
  shentsize = field file 58 2;
  shnum = field file 60 2;
}

-- the program header at the place `at`
abbrev pub segment_at : List ℕ → ℕ → Segment
segment_at file at = record {
  kind = field file at 4;
  offset = field file (at + 8) 8;
  paddr = field file (at + 24) 8;
  filesz = field file (at + 32) 8;
  memsz = field file (at + 40) 8;
}

-- the section header at the place `at`
abbrev pub section_at : List ℕ → ℕ → Section
section_at file at = record {
  kind = field file (at + 4) 4;
  offset = field file (at + 24) 8;
  size = field file (at + 32) 8;
  link = field file (at + 40) 4;
}

-- the symbol at the place `at`
abbrev pub symbol_at : List ℕ → ℕ → Symbol
symbol_at file at = record {
  name = field file at 4;
  shndx = field file (at + 6) 2;
  value = field file (at + 8) 8;
}

-- the program header of index i
unfoldable pub segment_of : List ℕ → ℕ → Segment
segment_of file i = segment_at file ((header_of file).phoff + segment_size * i)

-- the section header of index i
unfoldable pub section_of : List ℕ → ℕ → Section
section_of file i = section_at file ((header_of file).shoff + section_size * i)

-- the symbol of index i in the symbol table
unfoldable pub symbol_of : List ℕ → Section → ℕ → Symbol
symbol_of file table i = symbol_at file (table.offset + symbol_size * i)

-- the bytes of a section
abbrev pub section_bytes : List ℕ → Section → List ℕ
section_bytes file s = take s.size (drop s.offset file)
