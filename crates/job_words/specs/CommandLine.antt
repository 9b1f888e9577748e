-- The job that the words of the command line name: a command, and then pairs of a name and a value. The commands, the
-- names and the ranges of their values are this project's own.
use Rattle.std.specs.Prelude.{ℕ, ◌==◌, ◌&&◌, ◌++◌, Bool, not, List, [], ◌∷◌, length, Option, Some, None, is_none, codes, slice_index, String, nat_le, nat_lt, if◌then◌else◌, map, string_bytes}
use Rattle.std.specs.declared.alloc.Global.{Global}
use Rattle.std.specs.Char.{is_ascii_digit}
use Rattle.std.specs.List.{list_all, list_any}
use Rattle.std.specs.Option.{option_map, option_and_then}
use Rattle.std.specs.Str.{bytes_eq}
use Rattle.std.specs.Str.Parse.{digits_value}
use Rattle.job_words.specs.Job.{Begin, FromCheckpoint, FromConfig, FromImage, FromSeed, Job, Judge, Logs, Save, Turns, Work}

-- ---- values

-- the greatest number of turns
abbrev pub most_turns : ℕ
most_turns = 1000000000

-- the greatest seed
abbrev pub most_seed : ℕ
most_seed = 18446744073709551615

-- decimal digits without a sign and without a leading zero
abbrev pub is_number : List ℕ → Bool
is_number text = nat_lt 0 (length text) && not (slice_index text 0 == 48 && nat_lt 1 (length text)) && list_all is_ascii_digit text

-- the number that a text spells, where it is at most `most`
unfoldable pub number_in : ℕ → List ℕ → Option ℕ
number_in most text = if is_number text && nat_le (digits_value 10 text) most then Some (digits_value 10 text) else None

-- the file name that a text spells: any text that is not empty
abbrev pub name_in : List ℕ → Option (List ℕ)
name_in text = if nat_lt 0 (length text) then Some text else None

-- ---- how many values

-- the value that is given, as it is read: a list of one, in which a value that is wrong is none; an empty list where no
-- value is given
abbrev pub read_as : {A : Type 0} → (List ℕ → Option A) → Option (List ℕ) → List (Option A)
read_as read None = []
read_as read (Some text) = read text ∷ []

-- exactly one value is given, and it is right
abbrev pub one : {A : Type 0} → List (Option A) → Option A
one (value ∷ []) = value
one values = None

-- at most one value is given, and it is right; where no value is given, there is this one
abbrev pub one_or : {A : Type 0} → A → List (Option A) → Option A
one_or absent [] = Some absent
one_or absent values = one values

-- ---- the pairs after the command

-- the value of each name, where one is given
abbrev pub Given : Type 0
Given = List ℕ → Option (List ℕ)

abbrev pub none_given : Given
none_given = λ name. None

-- this name has this value, and any other name has what it had
abbrev pub with_value : List ℕ → List ℕ → Given → Given
with_value name value given = λ other. if bytes_eq other name then Some value else given other

-- a name may be given where it is one of these names, and has no value yet
abbrev pub may_be_given : List (List ℕ) → Given → List ℕ → Bool
may_be_given names given name = list_any (bytes_eq name) names && is_none (given name)

-- what is given after these words. They are pairs, each of one of the names and its value, and no name is given twice;
-- other words give nothing
abbrev pub found_in : List (List ℕ) → Given → List (List ℕ) → Option Given
found_in names given [] = Some given
found_in names given (name ∷ []) = None
found_in names given (name ∷ value ∷ words) = if may_be_given names given name then found_in names (with_value name value given) words else None

-- ---- the parts of a job

-- a beginning at the file of this name
abbrev pub at_file : (List ℕ → Begin) → List ℕ → Option Begin
at_file begin text = option_map begin (name_in text)

-- a beginning at the seed that a text spells
abbrev pub at_seed : List ℕ → Option Begin
at_seed text = option_map FromSeed (number_in most_seed text)

-- exactly one of a configuration, a flat image and a seed
abbrev pub run_begin : Option (List ℕ) → Option (List ℕ) → Option (List ℕ) → Option Begin
run_begin config image seed =
    one (read_as (at_file FromConfig) config ++ (read_as (at_file FromImage) image ++ read_as at_seed seed))

-- exactly one of a configuration and a seed
abbrev pub reset_begin : Option (List ℕ) → Option (List ℕ) → Option Begin
reset_begin config seed = one (read_as (at_file FromConfig) config ++ read_as at_seed seed)

-- exactly one checkpoint
abbrev pub load_begin : Option (List ℕ) → Option Begin
load_begin name = one (read_as (at_file FromCheckpoint) name)

-- exactly one number of turns
abbrev pub turns_in : Option (List ℕ) → Option ℕ
turns_in turns = one (read_as (number_in most_turns) turns)

-- at most one trace file
abbrev pub logs_in : Option (List ℕ) → Option Logs
logs_in trace = option_map (λ file. record { trace = file }) (one_or None (read_as (λ text. option_map Some (name_in text)) trace))

-- turns need their number and their logs
abbrev pub turns_with : Option ℕ → Option Logs → Option Work
turns_with (Some turns) (Some logs) = Some (Turns turns logs)
turns_with turns logs = None

-- so many turns, logged to these files
abbrev pub turns_work : Option (List ℕ) → Option (List ℕ) → Option Work
turns_work turns trace = turns_with (turns_in turns) (logs_in trace)

-- exactly one name that a checkpoint is saved as
abbrev pub checkpoint_in : Option (List ℕ) → Option (List ℕ)
checkpoint_in name = one (read_as name_in name)

-- at most one number of turns that follow a save, and 0 where it is not given
abbrev pub more_in : Option (List ℕ) → Option ℕ
more_in more = one_or 0 (read_as (number_in most_turns) more)

-- a save needs the turns before it, its name, and the turns that follow
abbrev pub save_with : Option ℕ → Option (List ℕ) → Option ℕ → Option Work
save_with (Some turns) (Some name) (Some more) = Some (Save turns name more)
save_with turns name more = None

-- so many turns, and where none of them ends the run a save under this name and so many turns more
abbrev pub save_work : Option (List ℕ) → Option (List ℕ) → Option (List ℕ) → Option Work
save_work turns name more = save_with (turns_in turns) (checkpoint_in name) (more_in more)

-- ---- the commands

-- a row of the table of commands: its word, the names that may follow it, and, by the values that are given, where its
-- machine begins and what is done with it
pub record Row : Type 0 where
  pub word : List ℕ
  pub names : List (List ℕ)
  pub begin : Given → Option Begin
  pub work : Given → Option Work

abbrev pub run_row : Row
run_row = record {
  word = codes "run";
  names = codes "--turns" ∷ codes "--config" ∷ codes "--image" ∷ codes "--seed" ∷ codes "--trace" ∷ [];
  begin = λ v. run_begin (v (codes "--config")) (v (codes "--image")) (v (codes "--seed"));
  work = λ v. turns_work (v (codes "--turns")) (v (codes "--trace"));
}

abbrev pub load_row : Row
load_row = record {
  word = codes "load";
  names = codes "--name" ∷ codes "--turns" ∷ codes "--trace" ∷ [];
  begin = λ v. load_begin (v (codes "--name"));
  work = λ v. turns_work (v (codes "--turns")) (v (codes "--trace"));
}

abbrev pub save_row : Row
save_row = record {
  word = codes "save";
  names = codes "--turns" ∷ codes "--name" ∷ codes "--more" ∷ codes "--config" ∷ codes "--seed" ∷ [];
  begin = λ v. reset_begin (v (codes "--config")) (v (codes "--seed"));
  work = λ v. save_work (v (codes "--turns")) (v (codes "--name")) (v (codes "--more"));
}

abbrev pub cosim_row : Row
cosim_row = record {
  word = codes "cosim";
  names = codes "--config" ∷ codes "--seed" ∷ [];
  begin = λ v. reset_begin (v (codes "--config")) (v (codes "--seed"));
  work = λ v. Some Judge;
}

abbrev pub rows : List Row
rows = run_row ∷ load_row ∷ save_row ∷ cosim_row ∷ []

-- a job has both its parts
abbrev pub job_with : Option Begin → Option Work → Option Job
job_with (Some begin) (Some work) = Some (record { begin = begin; work = work })
job_with begin work = None

-- the job of the words after a command's word
abbrev pub row_job : Row → List (List ℕ) → Option Job
row_job row words = option_and_then (λ v. job_with (row.begin v) (row.work v)) (found_in row.names none_given words)

abbrev pub job_in : List Row → List ℕ → List (List ℕ) → Option Job
job_in [] word words = None
job_in (row ∷ more) word words = if bytes_eq word row.word then row_job row words else job_in more word words

-- the one job that the words name, or none
abbrev pub job_of : List (List ℕ) → Option Job
job_of [] = None
job_of (word ∷ words) = job_in rows word words

-- the bytes of each word
abbrev pub texts : List (String Global) → List (List ℕ)
texts words = map string_bytes words
