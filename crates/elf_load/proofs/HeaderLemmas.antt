-- What the checks of the header say of a file that passes them.
use Rattle.std.proofs.Common.{◌≡◌, ℕ, ◌+◌, ◌*◌, ◌%◌, ◌<◌, ◌≤◌, List, length, Bool, true, false, cond, not, nat_lt, nat_eq, Option, Some, None, refl, sym, ap, subst, ◌∙◌, arith}
use Rattle.std.proofs.lemmas.Bool.Decides.{nat_tests}
use Rattle.std.specs.Prelude.{◌==◌, ◌&&◌}
use Rattle.std.specs.List.{starts_with}
use Rattle.elf_load.specs.Format.{header_of, header_size, magic, segment_of, segment_size}
use Rattle.elf_load.specs.Loading.{HasHeader, entry_of, field_fault, header_fault, longest_file, segment_fault, segments_fault, table_fault}
use Rattle.elf_load.specs.First.{first_of}
use Rattle.elf_load.specs.declared.fault.ElfFault.{ElfFault}
use Rattle.elf_load.specs.declared.format.FileHeader.{FileHeader}
use Rattle.elf_load.specs.declared.format.Segment.{Segment}
use Rattle.elf_load.proofs.FirstLemmas.{first_of-found, option_or-none}

-- a table of program headers that passes lies in the file, each of them
pub table_inside : (len : ℕ) (h : FileHeader) → table_fault len h ≡ None → (i : ℕ) → i < h.phnum → h.phoff + segment_size * (i + 1) ≤ len
unfolding table_fault
table_inside len h none i within = grind (arith, nat_tests)

-- the file's length, and the place of each program header
pub record IsWhole (file : List ℕ) : Type 0 where
  pub short : length file ≤ longest_file
  pub header : header_size ≤ length file
  pub table : (i : ℕ) → i < (header_of file).phnum → (header_of file).phoff + segment_size * (i + 1) ≤ length file

-- a check that is passed, and what comes after it
passed : {X : Type 0} (b : Bool) (x : X) (rest : Option X) → cond b (Some x) rest ≡ None → (b ≡ false) × (rest ≡ None)
passed true x rest h = absurd (let h = h in cc)
passed false x rest h = (refl, h)

pub whole_file : (file : List ℕ) → header_fault file ≡ None → IsWhole file
unfolding header_fault
whole_file file none =
    let is_short = passed (nat_lt longest_file (length file)) _ _ none in
    let is_elf = passed (not (starts_with nat_eq file magic)) _ _ is_short.1 in
    let has_header = passed (nat_lt (length file) header_size) _ _ is_elf.1 in
    let parts = option_or-none (field_fault (header_of file)) (table_fault (length file) (header_of file)) has_header.1 in
    record {
      short = grind (arith, nat_tests, is_short.0);
      header = grind (arith, nat_tests, has_header.0);
      table = table_inside (length file) (header_of file) parts.1;
    }

even_field : (file : List ℕ) → field_fault (header_of file) ≡ None → entry_of file % 2 ≡ 0
unfolding field_fault
even_field file none =
    let class = passed (not ((header_of file).class == 2)) _ _ none in
    let order = passed (not ((header_of file).order == 1)) _ _ class.1 in
    let kind = passed (not ((header_of file).kind == 2)) _ _ order.1 in
    let machine = passed (not ((header_of file).machine == 243)) _ _ kind.1 in
    let phentsize = passed (not ((header_of file).phnum == 0) && not ((header_of file).phentsize == segment_size)) _ _ machine.1 in
    let entry = passed (not (entry_of file % 2 == 0)) _ _ phentsize.1 in
    grind (arith, nat_tests, entry.0)

-- the entry of a file that was loaded is even
pub even_entry : (file : List ℕ) → HasHeader file → entry_of file % 2 ≡ 0
unfolding header_fault
even_entry file none =
    let short = passed (nat_lt longest_file (length file)) _ _ none in
    let elf = passed (not (starts_with nat_eq file magic)) _ _ short.1 in
    let whole = passed (nat_lt (length file) header_size) _ _ elf.1 in
    even_field file (option_or-none (field_fault (header_of file)) (table_fault (length file) (header_of file)) whole.1).0

-- each program header lies in the file
pub segment_inside : (file : List ℕ) (h : FileHeader) → HasHeader file → h ≡ header_of file → (i : ℕ) → i < h.phnum → h.phoff + segment_size * (i + 1) ≤ length file
segment_inside file h whole is i within =
    let P : FileHeader → Type 0 = λ (g : FileHeader). i < g.phnum → g.phoff + segment_size * (i + 1) ≤ length file in
    subst P (sym is) ((whole_file file whole).table i) within

-- a segment's fault is the file's where no earlier segment has one
pub segments_fault-found : (file : List ℕ) (h : FileHeader) (ram_len i : ℕ) (s : Segment) (fault : ElfFault) → h ≡ header_of file → i < h.phnum → first_of (λ k. segment_fault (length file) ram_len k (segment_of file k)) i ≡ None → s ≡ segment_of file i → segment_fault (length file) ram_len i s ≡ Some fault → segments_fault file ram_len ≡ Some fault
unfolding segments_fault
segments_fault-found file h ram_len i s fault is within before same here =
    let P : FileHeader → Type 0 = λ (g : FileHeader). i < g.phnum in
    first_of-found (λ k. segment_fault (length file) ram_len k (segment_of file k)) i (header_of file).phnum fault (subst P is within) before (ap (segment_fault (length file) ram_len i) (sym same) ∙ here)
