-- Which lines of a stream are judged.
use Rattle.std.specs.Prelude.{ℕ, zero, suc, ◌==◌, Bool, true, false, ◌&&◌, not, List, [], ◌∷◌, ◌++◌, length, take, nat_le, if◌then◌else◌}

-- the code of a newline
abbrev pub newline : ℕ
newline = 10

-- each line that is ended by a newline, without it; the bytes stand after the front of a line
unfoldable pub whole_lines : List ℕ → List ℕ → List (List ℕ)
whole_lines front [] = []
whole_lines front (b ∷ bytes) = if b == newline then front ∷ whole_lines [] bytes else whole_lines (front ++ b ∷ []) bytes

-- what stands after the last newline
unfoldable pub last_part : List ℕ → List ℕ → List ℕ
last_part front [] = front
last_part front (b ∷ bytes) = if b == newline then last_part [] bytes else last_part (front ++ b ∷ []) bytes

abbrev pub is_nil : List ℕ → Bool
is_nil [] = true
is_nil (b ∷ bytes) = false

-- of a line without a newline so many bytes are waited for. No spelling of a record is longer than 131
abbrev pub most_waiting : ℕ
most_waiting = 256

-- the last part is judged by its first 256 bytes where so many have come, and else as it is where the stream has ended
-- and it is not empty
abbrev pub rest_lines : Bool → List ℕ → List (List ℕ)
rest_lines ended part =
    if nat_le most_waiting (length part) then take most_waiting part ∷ []
    else if ended && not (is_nil part) then part ∷ []
    else []

-- the lines that are judged of a stream: of one that has ended, or of its bytes so far
abbrev pub judged : List ℕ → Bool → List (List ℕ)
judged bytes ended = whole_lines [] bytes ++ rest_lines ended (last_part [] bytes)

-- what stands after the first n newlines
unfoldable pub after_lines : ℕ → List ℕ → List ℕ
after_lines zero bytes = bytes
after_lines (suc n) [] = []
after_lines (suc n) (b ∷ bytes) = if b == newline then after_lines n bytes else after_lines (suc n) bytes
