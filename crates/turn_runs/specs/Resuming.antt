-- A machine that was restored takes up its run: what its boot sent goes to the console, and of the input it passes over
-- as many bytes as it had taken.
use Rattle.std.specs.Prelude.{ℕ, ◌<◌, ◌++◌, List, length, IsTrue, ⊤}
use Rattle.outside_acts.specs.Acts.{Act, Did, read}
use Rattle.outside_acts.specs.World.{Counted, Reading, Writing, TheInput, Console, World}
use Rattle.turn_runs.specs.declared.feed.Feed.{Feed}
use Rattle.turn_runs.specs.Feeding.{IsFedFrom, pass_acts}
use Rattle.turn_runs.specs.Run.{send_acts}

abbrev pub resume_acts : List ℕ → ℕ → List Act
resume_acts console taken = send_acts console ++ pass_acts taken

-- these acts were done from the first byte of the input on, and a turn that is offered the next one finds its place.
-- Where the input had fewer bytes than were taken, its end was met
pub record HasResumed (bytes console : List ℕ) (taken : ℕ) (feed : Feed) (before after : World) : Type 0 where
  pub fed : IsFedFrom bytes taken (read (resume_acts console taken) 0) feed after.left
  pub ended : length bytes < taken → IsTrue feed.ended
  pub did : Did bytes 0 (resume_acts console taken) before after

-- the input and the console are used
abbrev pub resume_uses : Counted → Type 0
resume_uses Reading = ⊥
resume_uses Writing = ⊥
resume_uses TheInput = ⊤
resume_uses Console = ⊤
