use Rattle.std.proofs.Common.{◌≡◌, length}
use Rattle.job_words.specs.CommandLine.{found_in, texts}
use Rattle.job_words.specs.Places.{by_place, texts_of}
use Rattle.job_words.proofs.walk.walk.Given as goal

-- the values given so far, with the words still to come, stand for all the words
abbrev pub invariant-loop-name : goal.invariant-loop-name
invariant-loop-name l = found_in (texts_of l.names) (by_place l.names l.fn.values) (texts l.words) ≡ found_in (texts_of l.names) (by_place l.names l.values) (texts l.rest)

abbrev pub decreases-loop-name : goal.decreases-loop-name
decreases-loop-name l = length l.rest
