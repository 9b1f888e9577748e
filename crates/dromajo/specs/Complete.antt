-- What a job may be answered with where nothing failed.
use Rattle.std.specs.Prelude.{◌≡◌, ◌≢◌, ◌⊎◌, Option, None, Some, Result, Ok, Err, ⊤}
use Rattle.outside_io.specs.Content.{Held}
use Rattle.outside_acts.specs.World.{World}
use Rattle.job_words.specs.Job.{Job, Judge, Save, Turns, Work}
use Rattle.dromajo.specs.declared.status.Status.{Status}
use Rattle.dromajo.specs.declared.status.Status.TheVariants.{Done, Usage, NoMemory, GuestEnded, BadHostWord, Disagree, BadLine, TooMany}
use Rattle.dromajo.specs.Jobs.{Begun, begun}
use Rattle.dromajo.specs.TopCall.{OverTold}

-- a run is done, or its program ended it with a code other than 0, or left a bad word in its host window
abbrev pub EndsTurns : Status → Type 0
EndsTurns Done = ⊤
EndsTurns (GuestEnded code turn) = code ≢ 0
EndsTurns (BadHostWord word turn) = ⊤
EndsTurns status = ⊥

-- a save too, and a program that ended in the turns before it did so with any code
abbrev pub EndsSave : Status → Type 0
EndsSave Done = ⊤
EndsSave (GuestEnded code turn) = ⊤
EndsSave (BadHostWord word turn) = ⊤
EndsSave status = ⊥

-- a stream is passed, or refused at a record, at a line or for its length
abbrev pub EndsJudging : Status → Type 0
EndsJudging Done = ⊤
EndsJudging (Disagree n field allowed given) = ⊤
EndsJudging (BadLine n column) = ⊤
EndsJudging (TooMany most) = ⊤
EndsJudging status = ⊥

-- how a work may end
abbrev pub EndsWork : Work → Status → Type 0
EndsWork (Turns turns logs) status = EndsTurns status
EndsWork (Save turns name more) status = EndsSave status
EndsWork Judge status = EndsJudging status

-- a beginning that is refused is answered with its refusal, and after any other the work ends as it may
abbrev pub EndsBegun : Work → Result Begun Status → Status → Type 0
EndsBegun work (Ok b) status = EndsWork work status
EndsBegun work (Err refusal) status = status ≡ refusal

-- words that name no job are answered with Usage, and a job by how it begins at what the files hold
abbrev pub EndsJob : Option Job → Held → Status → Type 0
EndsJob None held status = status ≡ Usage
EndsJob (Some job) held status = EndsBegun job.work (begun held job.begin) status

-- what the call may answer where no count rose: that memory lacked, or what its job may be answered with
abbrev pub MayAnswer : Option Job → World → Status → Type 0
MayAnswer job world status = OverTold world (λ held input. (status ≡ NoMemory) ⊎ EndsJob job held status)
