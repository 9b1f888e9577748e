use Rattle.std.proofs.Common.{◌≡◌, ◌+◌, ◌*◌, ◌++◌, length, take}
use Rattle.commit_log.specs.Spelling.{hex}
use Rattle.commit_log.proofs.pairs.write_pairs.Given as goal

-- the digits written, and those still to come, are all the digits
abbrev pub invariant-loop-place : goal.invariant-loop-place
invariant-loop-place l = record {
  digits : take l.at l.bytes ++ hex (2 * l.place) l.value ≡ take l.start l.fn.bytes ++ hex (2 * l.count) l.value;
  place : l.at + 2 * l.place ≡ l.start + 2 * l.count;
  length : length l.bytes ≡ length l.fn.bytes;
}
