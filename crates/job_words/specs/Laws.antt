-- What the walk finds, in the terms of all the words.
use Rattle.std.specs.Prelude.{◌≡◌, ◌≢◌, ◌↔◌, ℕ, List, [], ◌∷◌, Some, None}
use Rattle.std.specs.List.{All, AllPairs, Contains}
use Rattle.job_words.specs.CommandLine.{Given, found_in, none_given}

-- the words of pairs, one pair after another
abbrev pub paired : List (List ℕ × List ℕ) → List (List ℕ)
paired [] = []
paired (p ∷ ps) = p.0 ∷ p.1 ∷ paired ps

-- the words are pairs of one of the names and its value, no two pairs have one name, and a name has the value of its
-- pair, or none where it has no pair
pub record AreGiven (names words : List (List ℕ)) (given : Given) : Type 0 where
  pub pairs : List (List ℕ × List ℕ)
  pub words_are : words ≡ paired pairs
  pub allowed : All (λ p. Contains names p.0) pairs
  pub distinct : AllPairs (λ p q. p.0 ≢ q.0) pairs
  pub values : All (λ p. given p.0 ≡ Some p.1) pairs
  pub others : (name : List ℕ) → All (λ p. p.0 ≢ name) pairs → given name ≡ None

-- the walk finds exactly what is given
abbrev pub FindsGiven : Type 0
FindsGiven = (names words : List (List ℕ)) (given : Given) →
    (found_in names none_given words ≡ Some given) ↔ AreGiven names words given

-- the walk finds nothing exactly where the words give nothing in this way
abbrev pub FindsNone : Type 0
FindsNone = (names words : List (List ℕ)) →
    (found_in names none_given words ≡ None) ↔ ((given : Given) → ¬ (AreGiven names words given))
