-- What reading a file gives, and what it leaves as it was.
use Rattle.std.specs.Prelude.{◌≡◌, ◌≤◌, ◌<◌, ℕ, List, length, Option, Result, OnOk}
use Rattle.outside_io.specs.Content.{Held, Told}
use Rattle.machine_start.specs.declared.reading.Contents.{Contents}
use Rattle.machine_start.specs.declared.reading.Contents.TheVariants.{Bytes, TooLong}

-- the bytes of the file, which has at most so many, or its length, which is more
abbrev pub IsContents : ℕ → List ℕ → Contents → Type 0
IsContents most file (Bytes bytes) = (bytes.items ≡ file) × (length file ≤ most)
IsContents most file (TooLong len) = (len ≡ length file) × (most < length file)

-- what is answered of a file: at most so many bytes, or a length that is more
abbrev pub HasAtMost : ℕ → Contents → Type 0
HasAtMost most (Bytes bytes) = length bytes.items ≤ most
HasAtMost most (TooLong len) = most < len

-- what a call with this result leaves of the files that it only reads
pub record OnlyReads {F T E : Type 0} (held : F → Option Held) (read_faults write_faults : F → ℕ) (old new : F) (result : Result T E) : Type 0 where
  -- what they are told to hold stays told, and is the same
  pub content : Told (held old) (held new) (λ before now. now ≡ before)
  -- an answer leaves the count of failed reads
  pub reads : OnOk result (read_faults new ≡ read_faults old)
  -- every result leaves the count of failed writes
  pub writes : write_faults new ≡ write_faults old
