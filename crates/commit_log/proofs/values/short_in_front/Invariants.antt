use Rattle.std.proofs.Common.{◌≡◌, ◌+◌, ◌-◌, ◌*◌, ◌^◌, ◌<◌, ◌≤◌, drop}
use Rattle.commit_log.specs.Reading.{digits_of}
use Rattle.commit_log.proofs.values.short_in_front.Given as goal

-- where all characters so far are digits, reading on from here gives what reading from the front gives
abbrev pub invariant-loop-i : goal.invariant-loop-i
invariant-loop-i l = record {
  read : l.value < 2 ^ 32 → digits_of l.count 0 l.line ≡ digits_of (l.count - l.i) l.value (drop l.i l.line);
  below : l.value < 2 ^ 32 → l.value < 2 ^ (4 * l.i);
  room : 15 * l.value + 4294967296 ≤ 4294967296 * 2 ^ (4 * l.i);
}
