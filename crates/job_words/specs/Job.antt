-- A job: where a machine begins, and what is done with it.
use Rattle.std.specs.Prelude.{ℕ, List, Option}

-- where a machine begins: at a configuration or a flat image, by the file's name, at a seed, or at a checkpoint, by its
-- name
pub data Begin : Type 0 where
  FromConfig : List ℕ → Begin
  FromImage : List ℕ → Begin
  FromSeed : ℕ → Begin
  FromCheckpoint : List ℕ → Begin

-- the files that a run logs to, by their names: the trace, if one is given
pub record Logs : Type 0 where
  pub trace : Option (List ℕ)

-- what is done with the machine
pub data Work : Type 0 where
  -- it makes so many turns, which are logged to these files
  Turns : ℕ → Logs → Work
  -- it makes so many turns, and where none of them ends the run is saved as a checkpoint of this name and makes so many
  -- turns more
  Save : ℕ → List ℕ → ℕ → Work
  -- the input is judged as the commit stream of another core
  Judge : Work

-- what the program is asked to do
pub record Job : Type 0 where
  pub begin : Begin
  pub work : Work
