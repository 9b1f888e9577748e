-- A job of the program as the definitions see it.
use Rattle.std.specs.Prelude.{◌≤◌, ⊤, ℕ, List}
use Rattle.std.specs.Borrow.{Bor}
use Rattle.job_words.specs.declared.jobs.Begin.{Begin as NamedBegin}
use Rattle.job_words.specs.declared.jobs.Begin.TheVariants.{Checkpoint, Config, Image, Seed}
use Rattle.job_words.specs.declared.jobs.Work.{Work as NamedWork}
use Rattle.job_words.specs.declared.jobs.Work.TheVariants as named
use Rattle.job_words.specs.declared.jobs.Job.{Job as NamedJob}
use Rattle.job_words.specs.Job.{Begin, FromCheckpoint, FromConfig, FromImage, FromSeed, Job, Judge, Save, Turns, Work}
use Rattle.job_words.specs.CommandLine.{most_turns}

abbrev pub text_seen : Bor (List ℕ) → List ℕ
text_seen text = text.now

abbrev pub begin_seen : NamedBegin → Begin
begin_seen (Config name) = FromConfig (text_seen name)
begin_seen (Image name) = FromImage (text_seen name)
begin_seen (Seed seed) = FromSeed seed
begin_seen (Checkpoint name) = FromCheckpoint (text_seen name)

abbrev pub work_seen : NamedWork → Work
work_seen (named.Turns turns logs) = Turns turns logs
work_seen (named.Save turns name more) = Save turns (text_seen name) more
work_seen named.Judge = Judge

abbrev pub job_seen : NamedJob → Job
job_seen job = record { begin = begin_seen job.begin; work = work_seen job.work }

-- a work makes no more turns at a time than a call may make
abbrev pub MakesFewTurns : NamedWork → Type 0
MakesFewTurns (named.Turns turns logs) = turns ≤ most_turns
MakesFewTurns (named.Save turns name more) = (turns ≤ most_turns) × (more ≤ most_turns)
MakesFewTurns named.Judge = ⊤

-- what is saved or judged begins at reset: not behind a checkpoint's boot
abbrev pub MayBegin : NamedBegin → NamedWork → Type 0
MayBegin (Config name) work = ⊤
MayBegin (Image name) work = ⊤
MayBegin (Seed seed) work = ⊤
MayBegin (Checkpoint name) (named.Turns turns logs) = ⊤
MayBegin (Checkpoint name) work = ⊥

-- what the words can name
pub record IsNamed (job : NamedJob) : Type 0 where
  pub few : MakesFewTurns job.work
  pub reset : MayBegin job.begin job.work
