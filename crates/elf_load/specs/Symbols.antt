-- The value of a symbol by its name (System V ABI, 4, Symbol Table and String Table).
use Rattle.std.specs.Prelude.{◌*◌, ◌/◌, ◌==◌, ◌&&◌, ◌||◌, ℕ, List, Bool, not, nat_le, if◌then◌else◌, Option, Some, None, Result, Ok, Err, length, drop}
use Rattle.std.specs.List.{before_first, list_any}
use Rattle.std.specs.Str.{bytes_eq}
use Rattle.elf_load.specs.First.{first_of}
use Rattle.elf_load.specs.Format.{header_of, reaches_past, section_bytes, section_of, section_size, symbol_of, symbol_size}
use Rattle.elf_load.specs.declared.fault.ElfFault.{ElfFault}
use Rattle.elf_load.specs.declared.fault.ElfFault.TheVariants.{WrongKind, Truncated}
use Rattle.elf_load.specs.declared.fault.ElfField.TheVariants.{Shentsize, Link}
use Rattle.elf_load.specs.declared.format.FileHeader.{FileHeader}
use Rattle.elf_load.specs.declared.format.Section.{Section}
use Rattle.elf_load.specs.declared.format.Symbol.{Symbol}

-- the byte that ends a name
abbrev pub is_zero : ℕ → Bool
is_zero byte = byte == 0

-- the bytes up to the first zero byte are the name. Without a zero byte no name ends there.
unfoldable pub begins_with_name : List ℕ → List ℕ → Bool
begins_with_name bytes name = list_any is_zero bytes && bytes_eq (before_first is_zero bytes) name

-- the symbol is defined in some section, and its name in the section of names is the asked one
abbrev pub is_named : List ℕ → List ℕ → Symbol → Bool
is_named names name s = not (s.shndx == 0) && begins_with_name (drop s.name names) name

-- the value of the symbol, if it is a defined one of that name
unfoldable pub named_value : List ℕ → List ℕ → Symbol → Option ℕ
named_value names name s = if is_named names name s then Some s.value else None

-- the section, if it is the symbol table (SHT_SYMTAB)
abbrev pub if_symbol_table : Section → Option Section
if_symbol_table s = if s.kind == 2 then Some s else None

-- the first symbol table among the sections
unfoldable pub symbol_table : List ℕ → Option Section
symbol_table file = first_of (λ i. if_symbol_table (section_of file i)) (header_of file).shnum

-- the value of the first defined symbol of that name in the table, whose names are in the other section
unfoldable pub value_in : List ℕ → List ℕ → Section → Section → Option ℕ
value_in file name table names =
    first_of (λ k. named_value (section_bytes file names) name (symbol_of file table k)) (table.size / symbol_size)

-- the same, where both sections lie in the file
unfoldable pub checked_value_in : List ℕ → List ℕ → Section → Section → Result (Option ℕ) ElfFault
checked_value_in file name table names =
    if reaches_past (length file) table.offset table.size then Err (Truncated table.offset)
    else if reaches_past (length file) names.offset names.size then Err (Truncated names.offset)
    else Ok (value_in file name table names)

-- the same, where there is a symbol table and its link is the number of a section
unfoldable pub value_by_table : List ℕ → List ℕ → Option Section → Result (Option ℕ) ElfFault
value_by_table file name None = Ok None
value_by_table file name (Some table) =
    if nat_le (header_of file).shnum table.link then Err (WrongKind Link)
    else checked_value_in file name table (section_of file table.link)

-- a file without a table of sections
abbrev pub has_no_sections : FileHeader → Bool
has_no_sections h = h.shoff == 0 || h.shnum == 0

-- the value of the first defined symbol of that name, none where there is no such symbol, or the first
-- fault of the tables that lead to it
unfoldable pub symbol_value : List ℕ → List ℕ → Result (Option ℕ) ElfFault
symbol_value file name =
    let h = header_of file in
    if has_no_sections h then Ok None
    else if not (h.shentsize == section_size) then Err (WrongKind Shentsize)
    else if reaches_past (length file) h.shoff (section_size * h.shnum) then Err (Truncated h.shoff)
    else value_by_table file name (symbol_table file)
