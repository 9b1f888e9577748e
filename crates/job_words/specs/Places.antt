-- The values of a command's names, each in the place of its name.
use Rattle.std.specs.Prelude.{ℕ, List, [], ◌∷◌, map, Option, None, if◌then◌else◌}
use Rattle.std.specs.Borrow.{Bor}
use Rattle.std.specs.Option.{option_copied}
use Rattle.std.specs.Str.{bytes_eq}
use Rattle.job_words.specs.CommandLine.{Given}
use Rattle.job_words.specs.Seen.{text_seen}

-- the bytes of each name
abbrev pub texts_of : List (Bor (List ℕ)) → List (List ℕ)
texts_of names = map text_seen names

-- the value in the place of a name, and none for any other name
abbrev pub in_places : List (List ℕ) → List (Option (Bor (List ℕ))) → Given
in_places [] values name = None
in_places (first ∷ names) [] name = None
in_places (first ∷ names) (value ∷ values) name = if bytes_eq name first then option_copied value else in_places names values name

abbrev pub by_place : List (Bor (List ℕ)) → List (Option (Bor (List ℕ))) → Given
by_place names values = in_places (texts_of names) values
