-- The calls of an object in memory, which are numbered from 1, and the numbers of those that are to fail.
use Rattle.std.specs.Prelude.{◌≡◌, ◌<◌, ℕ, All, List, [], ◌++◌, Contains}
use Rattle.outside_io.specs.declared.calls.Calls.{Calls}
use Rattle.outside_io.specs.Causes.{raised}

-- the numbers that are listed, in the order of listing
abbrev pub listed_numbers : Calls → List ℕ
listed_numbers calls = calls.listed.items

-- the number of the next call: 1 at first, and 2^64 - 1 from that call on
abbrev pub next_number : Calls → ℕ
next_number calls = raised calls.made

-- the next call is to fail
abbrev pub IsToFail : Calls → Type 0
IsToFail calls = Contains (listed_numbers calls) (next_number calls)

-- no call still to come is to fail: every number that is listed is below that of the next call
abbrev pub AreQuiet : Calls → Type 0
AreQuiet calls = All (λ number. number < next_number calls) (listed_numbers calls)

-- no number is listed, and no call was made
pub record AreFresh (calls : Calls) : Type 0 where
  pub none_listed : listed_numbers calls ≡ []
  pub first : next_number calls ≡ 1

-- one more call was made, and the same numbers are listed
pub record OneMore (before now : Calls) : Type 0 where
  pub listed : listed_numbers now ≡ listed_numbers before
  pub made : now.made ≡ next_number before

-- the numbers are listed too, and no call was made
pub record Lists (before now : Calls) (numbers : List ℕ) : Type 0 where
  pub listed : listed_numbers now ≡ listed_numbers before ++ numbers
  pub made : now.made ≡ before.made
