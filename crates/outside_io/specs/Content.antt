-- What an object outside holds, where it tells it.
use Rattle.std.specs.Prelude.{◌≡◌, ◌≢◌, ◌⊎◌, ℕ, ◌-◌, ◌<◌, ◌≤◌, List, [], ◌++◌, length, take, drop, Option, None, Some, IsSome, unwrap_or, ⊤}

-- from a name's bytes to what the file of that name holds, where there is one
abbrev pub Held : Type 0
Held = List ℕ → Option (List ℕ)

-- the name is told to be held
abbrev pub IsHeld : Option Held → List ℕ → Type 0
IsHeld None name = ⊥
IsHeld (Some held) name = IsSome (held name)

-- what the named file holds, and nothing where the name is not held
abbrev pub file_of : Held → List ℕ → List ℕ
file_of held name = unwrap_or (held name) []

-- told content stays told and is related; nothing is said where it was not told
abbrev pub Told : {C : Type 0} → Option C → Option C → (C → C → Type 0) → Type 0
Told None now related = ⊤
Told (Some before) None related = ⊥
Told (Some before) (Some now) related = related before now

-- n bytes of the file, from place `at` on, stand at the front of buf
pub record ReadsFrom (file : List ℕ) (at n : ℕ) (buf : List ℕ) : Type 0 where
  -- so many bytes stand there
  pub within : n ≤ length file - at
  -- they are the file's
  pub front : take n buf ≡ take n (drop at file)
  -- none for a buffer that is not empty means that the file ends at or before that place
  pub ended : n ≡ 0 → 0 < length buf → length file ≤ at

-- the named file is there and empty
abbrev pub IsEmptied : List ℕ → Held → Held → Type 0
IsEmptied name before now = now name ≡ Some []

-- the named file is as before, or it is there and empty
abbrev pub MayBeEmptied : List ℕ → Held → Held → Type 0
MayBeEmptied name before now = (now name ≡ before name) ⊎ IsEmptied name before now

-- the piece was added at the end of the named file, which was empty where it was not held
abbrev pub GrowsBy : List ℕ → List ℕ → Held → Held → Type 0
GrowsBy piece name before now = now name ≡ Some (file_of before name ++ piece)

-- the named file is as before, or a prefix of the piece was added at its end
abbrev pub GrowsByPrefix : List ℕ → List ℕ → Held → Held → Type 0
GrowsByPrefix piece name before now = (now name ≡ before name) ⊎ ((n : ℕ) × (n ≤ length piece) × GrowsBy (take n piece) name before now)

-- every file of another name is as before
abbrev pub KeepsOthers : List ℕ → Held → Held → Type 0
KeepsOthers name before now = (other : List ℕ) → other ≢ name → now other ≡ before other
