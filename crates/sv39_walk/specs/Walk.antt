-- Which physical address a virtual address is mapped to, and how its translation faults otherwise
-- (Privileged ISA, "Virtual Address Translation Process"). Memory is the list of its bytes, and the way
-- of a walk is the list of the addresses of the entries on it.
use Rattle.std.specs.Prelude.{◌≡◌, ◌+◌, ◌-◌, ◌*◌, ◌<◌, ◌^◌, ◌==◌, ℕ, Bool, true, List, [], ◌∷◌, length, IsTrue, IsFalse, MatchBool, if◌then◌else◌}
use Rattle.rv_alu.specs.Arithmetic.{bits_of}
use Rattle.rv_alu.specs.Bits.{has_bit}
use Rattle.rv_alu.specs.declared.Mode.{Mode}
use Rattle.guest_ram.specs.Bytes.{HasPart, number_at}
use Rattle.sv39_walk.specs.declared.Kind.{Kind}
use Rattle.sv39_walk.specs.declared.WalkFault.{WalkFault}
use Rattle.sv39_walk.specs.Entry.{address_in, is_pointer, page_of, permits}

-- ---- satp and the virtual address

-- MODE, bits 63 to 60 of satp, is Bare
abbrev pub is_bare : ℕ → Bool
is_bare satp = bits_of satp 60 4 == 0

-- the page of the root table, bits 43 to 0 of satp
abbrev pub root_of : ℕ → ℕ
root_of satp = bits_of satp 0 44

-- machine mode and MODE Bare leave an address as it is
abbrev pub is_untranslated : ℕ → Mode → Bool
is_untranslated satp Mode.U = is_bare satp
is_untranslated satp Mode.S = is_bare satp
is_untranslated satp Mode.M = true

-- bits 63 to 39 all equal bit 38
abbrev pub is_canonical : ℕ → Bool
is_canonical va = bits_of va 39 25 == (if has_bit va 38 then 2 ^ 25 - 1 else 0)

-- ---- the way of a walk

-- the address of the entry for `va` in the table in this page: a table at level 2, 1 or 0 has its
-- entries in the order of bits 38 to 30, 29 to 21 or 20 to 12
abbrev pub entry_address : ℕ → ℕ → ℕ → ℕ
entry_address va level table = table * 4096 + 8 * bits_of va (12 + 9 * level) 9

-- the entry at an address, the 8 bytes there
abbrev pub entry_at : List ℕ → ℕ → ℕ
entry_at ram at = number_at ram at 8

-- a good pointer: it lies in memory, is a pointer, and stands above level 0
pub record LeadsOn (ram : List ℕ) (level at : ℕ) : Type 0 where
  pub inside : HasPart ram at 8
  pub pointer : IsTrue (is_pointer (entry_at ram at))
  pub above : 0 < level

-- the way from the table in this page, which is at this level: the address of its entry for `va`, and
-- where more follow, that entry is a good pointer, and they are the way from the table that it points to
abbrev pub IsWay : List ℕ → ℕ → ℕ → ℕ → List ℕ → Type 0
IsWay ram va level table [] = ⊥
IsWay ram va level table (at ∷ []) = at ≡ entry_address va level table
IsWay ram va level table (at ∷ next ∷ rest) =
    (at ≡ entry_address va level table) × LeadsOn ram level at
    × IsWay ram va (level - 1) (page_of (entry_at ram at)) (next ∷ rest)

-- the last address on a way
abbrev pub last_of : List ℕ → ℕ
last_of [] = 0
last_of (at ∷ []) = at
last_of (at ∷ next ∷ rest) = last_of (next ∷ rest)

-- the level of the last entry on a way from the root
abbrev pub last_level : List ℕ → ℕ
last_level path = 3 - length path

-- ---- where it ends

-- the walk ends at the entry at `at`, of this level: a leaf in memory that permits the access and maps
-- `va` to `pa`
pub record Arrives (ram : List ℕ) (mode : Mode) (sum mxr : Bool) (kind : Kind) (va pa level at : ℕ) : Type 0 where
  pub inside : HasPart ram at 8
  pub permitted : IsTrue (permits mode sum mxr kind level (entry_at ram at))
  pub address : pa ≡ address_in level (entry_at ram at) va

-- there is a way from the root that arrives at `pa`
abbrev pub WalksTo : List ℕ → ℕ → Mode → Bool → Bool → Kind → ℕ → ℕ → Type 0
WalksTo ram satp mode sum mxr kind va pa =
    (path : List ℕ) × IsWay ram va 2 (root_of satp) path
    × Arrives ram mode sum mxr kind va pa (last_level path) (last_of path)

-- the access to `va` goes to `pa`
abbrev pub Maps : List ℕ → ℕ → Mode → Bool → Bool → Kind → ℕ → ℕ → Type 0
Maps ram satp mode sum mxr kind va pa =
    MatchBool (is_untranslated satp mode)
    (pa ≡ va)
    (IsTrue (is_canonical va) × WalksTo ram satp mode sum mxr kind va pa)

-- the walk stops at the entry at `at`, of this level, which neither leads on nor permits the access: an
-- access fault where it lies outside memory, and else a page fault
abbrev pub Stops : List ℕ → Mode → Bool → Bool → Kind → ℕ → ℕ → WalkFault → Type 0
Stops ram mode sum mxr kind level at WalkFault.Access = HasPart ram at 8 → ⊥
Stops ram mode sum mxr kind level at WalkFault.Page =
    HasPart ram at 8 × (LeadsOn ram level at → ⊥) × IsFalse (permits mode sum mxr kind level (entry_at ram at))

-- there is a way from the root that stops with this fault
abbrev pub WalkStops : List ℕ → ℕ → Mode → Bool → Bool → Kind → ℕ → WalkFault → Type 0
WalkStops ram satp mode sum mxr kind va fault =
    (path : List ℕ) × IsWay ram va 2 (root_of satp) path
    × Stops ram mode sum mxr kind (last_level path) (last_of path) fault

-- the access to `va` faults: with a page fault where its high bits are wrong, and else as its walk stops
abbrev pub Faults : List ℕ → ℕ → Mode → Bool → Bool → Kind → ℕ → WalkFault → Type 0
Faults ram satp mode sum mxr kind va fault =
    IsFalse (is_untranslated satp mode)
    × MatchBool (is_canonical va)
    (WalkStops ram satp mode sum mxr kind va fault)
    (fault ≡ WalkFault.Page)
