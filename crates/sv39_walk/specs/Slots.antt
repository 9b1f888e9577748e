-- The slots in which a walker remembers translations, and the marks of the pages in which it has read their
-- entries.
use Rattle.std.specs.Prelude.{◌≡◌, ◌==◌, ◌+◌, ◌-◌, ◌*◌, ◌/◌, ◌%◌, ◌<◌, ◌≤◌, ℕ, Bool, true, false, List, [], ◌∷◌, All, IsFalse, IsTrue, Ok, length, slice_index_or, if◌then◌else◌}
use Rattle.rv_alu.specs.declared.Mode.{Mode}
use Rattle.sv39_walk.specs.declared.Kind.{Kind}
use Rattle.sv39_walk.specs.declared.slots.Slot.{Slot}
use Rattle.sv39_walk.specs.Entry.{address_in, is_accessed, is_aligned, permits_kind, permits_mode}
use Rattle.sv39_walk.specs.Found.{known_by}
use Rattle.sv39_walk.specs.Plain.{translated}
use Rattle.sv39_walk.specs.Remembered.{Remembered}
use Rattle.sv39_walk.specs.Walk.{is_bare, is_canonical, is_untranslated, root_of}

-- ---- what is remembered

-- the translation in a slot
abbrev pub known_of : Slot → Remembered
known_of s = known_by s.satp s.page s.found

-- those in a list of slots, of which the ones with satp 0 are free
unfoldable pub known_in : List Slot → List Remembered
known_in [] = []
known_in (s ∷ rest) = if s.satp == 0 then known_in rest else known_of s ∷ known_in rest

-- a slot holds the translation for this root table and this page
abbrev pub Holds : Slot → ℕ → ℕ → Type 0
Holds s root page = (s.satp ≡ 0 → ⊥) × (root_of s.satp ≡ root) × (s.page ≡ page)

-- ---- marks

-- the page of RAM, counted from its first one, in which an address lies
abbrev pub mark_of : ℕ → ℕ
mark_of at = at / 4096 % 65536

-- an entry's address, in a page that is marked
pub record IsMarked (tables : List Bool) (at : ℕ) : Type 0 where
  pub aligned : at % 8 ≡ 0
  pub marked : slice_index_or tables (mark_of at) false ≡ true

-- an entry's address, in another page than `at`
abbrev pub IsElsewhere : ℕ → ℕ → Type 0
IsElsewhere at entry = (entry % 8 ≡ 0) × (mark_of entry ≡ mark_of at → ⊥)

-- no remembered translation has an entry in the page of an address
abbrev pub HasNoneNear : ℕ → List Remembered → Type 0
HasNoneNear at walker = All (λ known. All (IsElsewhere at) known.path) walker

-- ---- what a slot answers

-- a leaf whose own bits permit an access below machine mode, whatever SUM and MXR say
pub record IsOpen (mode : Mode) (kind : Kind) (leaf : ℕ) : Type 0 where
  pub kind_may : (mxr : Bool) → IsTrue (permits_kind mxr kind leaf)
  pub mode_may : (sum : Bool) → IsTrue (permits_mode mode sum kind leaf)
  pub below : (satp : ℕ) → is_untranslated satp mode ≡ is_bare satp

-- a leaf of this level to which `va` leads under `satp`, and the physical address of `va` by it
pub record IsPlace (satp va pa leaf level : ℕ) : Type 0 where
  pub translated : IsFalse (is_bare satp)
  pub canonical : IsTrue (is_canonical va)
  pub aligned : IsTrue (is_aligned level leaf)
  pub accessed : IsTrue (is_accessed leaf)
  pub address : pa ≡ address_in level leaf va

-- every access of the page of `va` in this mode and of this kind goes to the page at `base`
abbrev pub LeadsTo : List ℕ → ℕ → Mode → Kind → ℕ → ℕ → Type 0
LeadsTo ram satp mode kind va base = (sum mxr : Bool) (other : ℕ) → other / 4096 ≡ va / 4096 →
    translated ram satp mode sum mxr kind other ≡ Ok (base + other % 4096)

-- ---- what a walker keeps

-- of a slot with a translation: its number is that of its page modulo 64, its way has one to three entries,
-- all of them in marked pages, and `base` is the physical address of its page
pub record IsKept (tables : List Bool) (number : ℕ) (s : Slot) : Type 0 where
  pub number_is : s.page % 64 ≡ number
  pub some : 1 ≤ s.found.count
  pub most : s.found.count ≤ 3
  pub first : IsMarked tables s.found.first
  pub second : IsMarked tables s.found.second
  pub third : IsMarked tables s.found.third
  pub place : IsPlace s.satp (s.page * 4096) s.base s.found.leaf (3 - s.found.count)

-- each slot is free, or kept so
abbrev pub AreKept : List Bool → List Slot → Type 0
AreKept tables slots = (i : ℕ) (other : Slot) → i < length slots →
    ((slice_index_or slots i other).satp ≡ 0 → ⊥) → IsKept tables i (slice_index_or slots i other)
