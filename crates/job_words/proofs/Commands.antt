-- The job of a row, by the values that the walk over its words gives.
use Rattle.std.proofs.Common.{◌≡◌, ℕ, zero, suc, ◌+◌, Bool, true, false, List, [], ◌∷◌, length, drop, get_or, drop-cons, Option, Some, None, if◌then◌else◌, Bor, refl, ap, sym, ◌∙◌, arith}
use Rattle.std.specs.Prelude.{replicate}
use Rattle.std.specs.Option.{option_and_then}
use Rattle.std.specs.Str.{bytes_eq}
use Rattle.std.proofs.lemmas.List.{drop_all}
use Rattle.job_words.specs.declared.jobs.Begin.{Begin as NamedBegin}
use Rattle.job_words.specs.declared.jobs.Begin.TheVariants.{Checkpoint, Config, Image, Seed}
use Rattle.job_words.specs.declared.jobs.Work.TheVariants as named
use Rattle.job_words.specs.Job.{Job, Logs}
use Rattle.job_words.specs.Seen.{MayBegin}
use Rattle.job_words.specs.CommandLine.{Given, Row, found_in, job_with, none_given, row_job}
use Rattle.job_words.specs.Places.{in_places}

no_value : (here : Bool) (other : Option (List ℕ)) → other ≡ None → (if here then None else other) ≡ None
no_value true other is = refl
no_value false other is = is

none_at : (names : List (List ℕ)) (n : ℕ) (name : List ℕ) → in_places names (replicate n None) name ≡ None
none_at [] n name = refl
none_at (first ∷ names) zero name = refl
none_at (first ∷ names) (suc n) name = no_value (bytes_eq name first) (in_places names (replicate n None) name) (none_at names n name)

-- where no place has a value, none is given
none_placed : (names : List (List ℕ)) (n : ℕ) → in_places names (replicate n None) ≡ none_given
none_placed names n = λ i. λ name. none_at names n name i

-- so many elements one by one, from an index on
abbrev pub each_from : ℕ → ℕ → List (Option (Bor (List ℕ))) → List (Option (Bor (List ℕ)))
each_from i zero values = []
each_from i (suc n) values = get_or values i None ∷ each_from (i + 1) n values

each_of : (i n : ℕ) (values : List (Option (Bor (List ℕ)))) → length values ≡ i + n → drop i values ≡ each_from i n values
each_of i zero values size = drop_all i values (omega arith)
each_of i (suc n) values size =
    let next : suc i ≡ i + 1 = omega arith in
    let rest : drop (suc i) values ≡ each_from (i + 1) n values = ap (λ (k : ℕ). drop k values) next ∙ each_of (i + 1) n values (omega arith) in
    drop-cons values i None (omega arith) ∙ ap (λ (vs : List (Option (Bor (List ℕ)))). get_or values i None ∷ vs) rest

-- so many places without a value
abbrev pub no_values : ℕ → List (Option (Bor (List ℕ)))
no_values n = replicate n None

-- the job of these values
abbrev pub job_by : Row → Given → Option Job
job_by row given = job_with (row.begin given) (row.work given)

row_job_by : (row : Row) (words : List (List ℕ)) (found : Option Given) → found_in row.names (in_places row.names (no_values (length row.names))) words ≡ found → row_job row words ≡ option_and_then (job_by row) found
row_job_by row words found is =
    ap (λ (given : Given). option_and_then (job_by row) (found_in row.names given words)) (sym (none_placed row.names (length row.names)))
    ∙ ap (option_and_then (job_by row)) is

-- a row whose words give no values has no job
pub row_refused : (row : Row) (words : List (List ℕ)) → found_in row.names (in_places row.names (no_values (length row.names))) words ≡ None → row_job row words ≡ None
row_refused row words is = row_job_by row words None is

-- the job of a row whose words give these values
pub row_found : (row : Row) (values : List (Option (Bor (List ℕ)))) (words : List (List ℕ)) → length values ≡ length row.names → found_in row.names (in_places row.names (no_values (length row.names))) words ≡ Some (in_places row.names values) → row_job row words ≡ job_by row (in_places row.names (each_from 0 (length row.names) values))
row_found row values words size is =
    row_job_by row words (Some (in_places row.names values)) is
    ∙ ap (λ (vs : List (Option (Bor (List ℕ)))). job_by row (in_places row.names vs)) (each_of 0 (length row.names) values (omega arith))

-- turns begin anywhere
pub turns_anywhere : (turns : ℕ) (logs : Logs) (begin : NamedBegin) → MayBegin begin (named.Turns turns logs)
turns_anywhere turns logs (Config name) = tt
turns_anywhere turns logs (Image name) = tt
turns_anywhere turns logs (Seed seed) = tt
turns_anywhere turns logs (Checkpoint name) = tt
