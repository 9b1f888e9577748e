-- The texts of words that begin with a pair of name and value, and what is given after them.
use Rattle.std.proofs.Common.{◌≡◌, ℕ, Bool, true, List, ◌∷◌, None, ap, sym, ◌∙◌}
use Rattle.std.specs.Prelude.{String, string_bytes, if◌then◌else◌}
use Rattle.std.specs.declared.alloc.Global.{Global}
use Rattle.job_words.specs.CommandLine.{Given, found_in, may_be_given, texts, with_value}

pub texts_of_pair : (words others rest : List (String Global)) (name value : String Global) → words ≡ name ∷ others → others ≡ value ∷ rest → texts words ≡ string_bytes name ∷ string_bytes value ∷ texts rest
texts_of_pair words others rest name value first second = ap texts (first ∙ ap (λ (ws : List (String Global)). name ∷ ws) second)

-- a name that may be given has its value from then on
pub pair_given : (names : List (List ℕ)) (given next : Given) (name value : List ℕ) (words : List (List ℕ)) → may_be_given names given name ≡ true → next ≡ with_value name value given → found_in names given (name ∷ value ∷ words) ≡ found_in names next words
pair_given names given next name value words may is =
    ap (λ (b : Bool). if b then found_in names (with_value name value given) words else None) may ∙ ap (λ (g : Given). found_in names g words) (sym is)
