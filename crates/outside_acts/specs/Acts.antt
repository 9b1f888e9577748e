-- What a job does to all that is outside: a list of acts. A finished job did all of them, and one that was cut did
-- those before the act that failed, and a part of that one.
use Rattle.std.specs.Prelude.{◌≡◌, ◌≤◌, ◌<◌, ◌⊎◌, ℕ, List, [], ◌∷◌, ◌++◌, drop, take, Some, if◌then◌else◌, ⊤}
use Rattle.std.specs.Io.KnownBytes.{Appends}
use Rattle.std.specs.Str.{bytes_eq}
use Rattle.outside_io.specs.Content.{Held, Told, file_of}
use Rattle.outside_acts.specs.declared.Stop.{Stop}
use Rattle.outside_acts.specs.declared.Stop.TheVariants.{Input, Out, Files, NoMemory}
use Rattle.outside_acts.specs.World.{World}

pub data Act : Type 0 where
  -- so many bytes of the input were read in all
  ReadTo : ℕ → Act
  -- bytes go to the console
  Send : List ℕ → Act
  -- the file of this name is made, and emptied
  Start : List ℕ → Act
  -- the file of this name grows by these bytes
  Append : List ℕ → List ℕ → Act

-- ---- what acts leave

abbrev pub sent_by : Act → List ℕ
sent_by (Send bytes) = bytes
sent_by act = []

-- all that acts send to the console
unfoldable pub sent : List Act → List ℕ
sent [] = []
sent (act ∷ acts) = sent_by act ++ sent acts

-- the files with one more of this name and content
abbrev pub with_file : List ℕ → List ℕ → Held → Held
with_file name bytes held = λ other. if bytes_eq other name then Some bytes else held other

abbrev pub filed_by : Act → Held → Held
filed_by (Start name) held = with_file name [] held
filed_by (Append name piece) held = with_file name (file_of held name ++ piece) held
filed_by act held = held

-- the files after acts
unfoldable pub filed : List Act → Held → Held
filed [] held = held
filed (act ∷ acts) held = filed acts (filed_by act held)

abbrev pub read_by : Act → ℕ → ℕ
read_by (ReadTo n) from = n
read_by act from = from

-- how many bytes of the input were read in all after acts, where so many were read before
unfoldable pub read : List Act → ℕ → ℕ
read [] from = from
read (act ∷ acts) from = read acts (read_by act from)

-- the acts were done, on an input of which `from` bytes had been read before
pub record Did (bytes : List ℕ) (from : ℕ) (acts : List Act) (before now : World) : Type 0 where
  pub left_is : now.left ≡ Some (drop (read acts from) bytes)
  pub console : Appends before.written now.written (sent acts)
  pub files : Told before.held now.held (λ held held'. held' ≡ filed acts held)

-- ---- what a fault leaves

-- a part of an act that failed: fewer bytes were read, a front of the bytes was sent, the file may have been made, a
-- front of the bytes may have been added
abbrev pub IsPart : ℕ → Act → List Act → Type 0
IsPart from (ReadTo n) part = (j : ℕ) × (from ≤ j) × (j < n) × (part ≡ ReadTo j ∷ [])
IsPart from (Send bytes) part = (n : ℕ) × (part ≡ Send (take n bytes) ∷ [])
IsPart from (Start name) part = (part ≡ []) ⊎ (part ≡ Start name ∷ [])
IsPart from (Append name bytes) part = (part ≡ []) ⊎ ((n : ℕ) × (part ≡ Append name (take n bytes) ∷ []))

-- the acts at which a job may stop so; memory may lack where bytes are written
abbrev pub StopsAt : Stop → Act → Type 0
StopsAt Input (ReadTo n) = ⊤
StopsAt Out (Send bytes) = ⊤
StopsAt Files (Start name) = ⊤
StopsAt Files (Append name bytes) = ⊤
StopsAt NoMemory (Send bytes) = ⊤
StopsAt NoMemory (Start name) = ⊤
StopsAt NoMemory (Append name bytes) = ⊤
StopsAt stop act = ⊥

-- of these acts those before one were done, and a part of that one
pub record IsCut (stop : Stop) (from : ℕ) (acts left : List Act) : Type 0 where
  pub done : List Act
  pub next : Act
  pub rest : List Act
  pub part : List Act
  pub acts_are : acts ≡ done ++ next ∷ rest
  pub stops : StopsAt stop next
  pub part_is : IsPart (read done from) next part
  pub left_are : left ≡ done ++ part

-- the acts were cut by this stop
pub record DidCut (stop : Stop) (bytes : List ℕ) (from : ℕ) (acts : List Act) (before now : World) : Type 0 where
  pub front : List Act
  pub cut : IsCut stop from acts front
  pub did : Did bytes from front before now
