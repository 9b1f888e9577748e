-- The number of each status, with which the program ends. The statuses and their numbers are this project's own.
use Rattle.std.specs.Prelude.{ℕ}
use Rattle.dromajo.specs.declared.status.Status.{Status}
use Rattle.dromajo.specs.declared.status.Status.TheVariants.{Done, Usage, BadConfig, BadElf, BadCheckpoint, BootFault, ReadFault, WriteFault, NoMemory, GuestEnded, BadHostWord, Disagree, BadLine, TooMany}

-- the number of a status: no status has 13
abbrev pub code_of : Status → ℕ
code_of Done = 0
code_of (Disagree n field allowed given) = 1
code_of Usage = 2
code_of (BadConfig fault) = 3
code_of (BadElf fault) = 4
code_of (BadCheckpoint fault) = 5
code_of (BootFault fault) = 6
code_of (ReadFault which) = 7
code_of (WriteFault which) = 8
code_of NoMemory = 9
code_of (GuestEnded code turn) = 10
code_of (BadHostWord word turn) = 11
code_of (BadLine n column) = 12
code_of (TooMany most) = 14
