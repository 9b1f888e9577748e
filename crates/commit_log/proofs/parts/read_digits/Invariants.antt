use Rattle.std.proofs.Common.{◌≡◌, ◌-◌, ◌*◌, ◌^◌, ◌<◌}
use Rattle.commit_log.specs.Reading.{digits_of}
use Rattle.commit_log.proofs.parts.read_digits.Given as goal

-- reading on from here, after the digits so far, gives what reading from the front gives
abbrev pub invariant-digits : goal.invariant-digits
invariant-digits l = record {
  read : digits_of l.count 0 l.line ≡ digits_of (l.count - l.counter) l.value l.rest;
  below : l.value < 2 ^ (4 * l.counter);
}
