-- Where a walk ends at an entry that is no pointer.
use Rattle.std.specs.Prelude.{◌≡◌, ◌%◌, ◌≤◌, ℕ, zero, suc, List, [], ◌∷◌, IsFalse}
use Rattle.guest_ram.specs.Bytes.{HasPart}
use Rattle.sv39_walk.specs.declared.walk.Found.{Found}
use Rattle.sv39_walk.specs.Entry.{is_pointer}
use Rattle.sv39_walk.specs.Remembered.{Remembered}
use Rattle.sv39_walk.specs.Walk.{IsWay, entry_at, last_of, root_of}

-- the first ones of three addresses, so many as are counted
abbrev pub path_by : ℕ → ℕ → ℕ → ℕ → List ℕ
path_by zero first second third = []
path_by (suc zero) first second third = first ∷ []
path_by (suc (suc zero)) first second third = first ∷ second ∷ []
path_by (suc (suc (suc n))) first second third = first ∷ second ∷ third ∷ []

-- the addresses of the entries on the way
abbrev pub path_of : Found → List ℕ
path_of f = path_by f.count f.first f.second f.third

-- the walk for `va` ends so: its way has one to three entries, of which the last one is no pointer; each
-- address that is kept, also one that is not on the way, is that of an entry
pub record IsFound (ram : List ℕ) (satp va : ℕ) (f : Found) : Type 0 where
  pub some : 1 ≤ f.count
  pub most : f.count ≤ 3
  pub first : f.first % 8 ≡ 0
  pub second : f.second % 8 ≡ 0
  pub third : f.third % 8 ≡ 0
  pub way : IsWay ram va 2 (root_of satp) (path_of f)
  pub inside : HasPart ram (last_of (path_of f)) 8
  pub leaf : f.leaf ≡ entry_at ram (last_of (path_of f))
  pub ends : IsFalse (is_pointer f.leaf)

-- what is remembered of it, for this register and page
abbrev pub known_by : ℕ → ℕ → Found → Remembered
known_by satp page f = record { root = root_of satp; page = page; path = path_of f; leaf = f.leaf }
