-- The first symbol table and the first symbol, where the loops stop.
use Rattle.std.proofs.Common.{◌≡◌, ℕ, ◌<◌, ◌/◌, List, true, Option, Some, None, sym, ap, subst, ◌∙◌}
use Rattle.std.specs.Option.{is_some}
use Rattle.elf_load.specs.First.{first_of}
use Rattle.elf_load.specs.Format.{header_of, section_bytes, section_of, symbol_of, symbol_size}
use Rattle.elf_load.specs.Symbols.{if_symbol_table, named_value, symbol_table, value_in}
use Rattle.elf_load.specs.declared.format.FileHeader.{FileHeader}
use Rattle.elf_load.specs.declared.format.Section.{Section}
use Rattle.elf_load.specs.declared.format.Symbol.{Symbol}
use Rattle.elf_load.proofs.FirstLemmas.{first_of-found}

-- a symbol table is the first where no earlier section is one
pub symbol_table-found : (file : List ℕ) (h : FileHeader) (i : ℕ) (s : Section) → h ≡ header_of file → i < h.shnum → first_of (λ k. if_symbol_table (section_of file k)) i ≡ None → s ≡ section_of file i → if_symbol_table s ≡ Some s → Some s ≡ symbol_table file
unfolding symbol_table
symbol_table-found file h i s is within before same here =
    let P : FileHeader → Type 0 = λ (g : FileHeader). i < g.shnum in
    sym (first_of-found (λ k. if_symbol_table (section_of file k)) i (header_of file).shnum s (subst P is within) before (ap if_symbol_table (sym same) ∙ here))

-- a value is the first where no earlier symbol has one
first_value : (f : ℕ → Option ℕ) (k n : ℕ) (value : Option ℕ) → k < n → first_of f k ≡ None → f k ≡ value → is_some value ≡ true → value ≡ first_of f n
first_value f k n None within before here some = absurd (let some = some in cc)
first_value f k n (Some x) within before here some = sym (first_of-found f k n x within before here)

pub value_in-found : (file name text : List ℕ) (table names : Section) (k : ℕ) (s : Symbol) (value : Option ℕ) → text ≡ section_bytes file names → k < table.size / symbol_size → first_of (λ j. named_value text name (symbol_of file table j)) k ≡ None → s ≡ symbol_of file table k → value ≡ named_value text name s → is_some value ≡ true → value ≡ value_in file name table names
unfolding value_in
value_in-found file name text table names k s value is within before same here some =
    first_value (λ j. named_value text name (symbol_of file table j)) k (table.size / symbol_size) value within before (ap (named_value text name) (sym same) ∙ sym here) some
    ∙ ap (λ (xs : List ℕ). first_of (λ j. named_value xs name (symbol_of file table j)) (table.size / symbol_size)) is
