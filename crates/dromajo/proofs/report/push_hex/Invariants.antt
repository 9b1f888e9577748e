use Rattle.std.proofs.Common.{◌≡◌, ◌++◌, string_bytes}
use Rattle.commit_log.specs.Spelling.{hex}
use Rattle.dromajo.proofs.report.push_hex.Given as goal

-- the digits written, and those still to come, are all the digits
abbrev pub invariant-loop-place : goal.invariant-loop-place
invariant-loop-place l = string_bytes l.line ++ hex l.place l.value ≡ string_bytes l.fn.line ++ hex l.count l.value
