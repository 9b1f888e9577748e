-- What a walker remembers of the walks that it made, and what a store leaves of it.
use Rattle.std.specs.Prelude.{◌≡◌, ◌+◌, ◌*◌, ◌<◌, ◌≤◌, ◌⊎◌, ℕ, List, All, Contains, length, slice_get, IsTrue}
use Rattle.guest_ram.specs.Bytes.{HasPart, base}
use Rattle.sv39_walk.specs.Entry.{is_leaf}
use Rattle.sv39_walk.specs.Walk.{IsWay, entry_at, last_of}

-- a translation: the page of the root table, the virtual page number (an address without its low 12
-- bits), the addresses of the entries on the way, and the leaf at its end
pub record Remembered : Type 0 where
  pub root : ℕ
  pub page : ℕ
  pub path : List ℕ
  pub leaf : ℕ

-- by this memory alone, the walk from that root for that page reads these entries and ends at this leaf
pub record IsWalked (ram : List ℕ) (known : Remembered) : Type 0 where
  pub way : IsWay ram (known.page * 4096) 2 known.root known.path
  pub inside : HasPart ram (last_of known.path) 8
  pub same : entry_at ram (last_of known.path) ≡ known.leaf
  pub leaf_ends : IsTrue (is_leaf known.leaf)

-- every remembered translation is as memory has it
abbrev pub Agrees : List Remembered → List ℕ → Type 0
Agrees walker ram = All (λ known. IsWalked ram known) walker

-- a translation is remembered for this root table and this page
abbrev pub IsRemembered : List Remembered → ℕ → ℕ → Type 0
IsRemembered walker root page =
    (known : Remembered) × Contains walker known × (known.root ≡ root) × (known.page ≡ page)

-- the entry of 8 bytes at `entry` has none of the n bytes from `at`
abbrev pub IsApart : ℕ → ℕ → ℕ → Type 0
IsApart at n entry = (byte : ℕ) → entry ≤ byte → byte < entry + 8 → at ≤ byte → byte < at + n → ⊥

-- no remembered translation has an entry with one of the n bytes from `at`
abbrev pub IsUntouched : ℕ → ℕ → List Remembered → Type 0
IsUntouched at n walker = All (λ known. All (λ entry. IsApart at n entry) known.path) walker

-- each translation that is remembered was remembered before
abbrev pub IsPartOf : List Remembered → List Remembered → Type 0
IsPartOf before after = All (λ known. Contains before known) after

-- memory of the same length, with every byte as it was but the n bytes from the address `at`; byte i of
-- the list has the address base + i
pub record DiffersOnlyIn (at n : ℕ) (before after : List ℕ) : Type 0 where
  pub as_long : length after ≡ length before
  pub others : (i : ℕ) → (base + i < at) ⊎ (at + n ≤ base + i) → slice_get after i ≡ slice_get before i
