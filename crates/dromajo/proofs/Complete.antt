-- What a job may be answered with where nothing failed.
use Rattle.std.proofs.Common.{◌≡◌, ℕ, ◌==◌, Bool, true, false, if◌then◌else◌, List, Option, Some, None, IfSome, Result, Ok, Err, refl, sym, ap, subst, ◌∙◌, inl, inr}
use Rattle.outside_io.specs.Content.{Held}
use Rattle.outside_acts.specs.World.{Reading, Writing, TheInput, Console, World}
use Rattle.checkpoint_run.specs.Saving.{Saved}
use Rattle.cosim_check.specs.declared.verdict.Verdict.{Verdict}
use Rattle.cosim_check.specs.declared.verdict.Verdict.TheVariants as verdict
use Rattle.hart_turns.specs.declared.machine.TurnEnd.{TurnEnd}
use Rattle.hart_turns.specs.declared.machine.TurnEnd.TheVariants as turn_end
use Rattle.hart_turns.specs.Machine.{MachineState}
use Rattle.machine_start.proofs.Telling.{told_map}
use Rattle.job_words.specs.Job.{Job, Judge, Save, Turns, Work}
use Rattle.stream_judge.specs.Judging.{stream_verdict}
use Rattle.turn_runs.specs.Run.{run}
use Rattle.dromajo.specs.declared.status.Status.{Status}
use Rattle.dromajo.specs.declared.status.Status.TheVariants.{Done, GuestEnded, BadHostWord}
use Rattle.dromajo.specs.Classes.{Class, Refused, Ended, Failed, Unreported, Starved, Never, IsFinished, before_by, caused, class_of, finishes}
use Rattle.dromajo.specs.Complete.{EndsBegun, EndsJob, EndsJudging, EndsSave, EndsTurns, EndsWork, MayAnswer}
use Rattle.dromajo.specs.Jobs.{Begun, IsBegunOutcome, IsOutcome, IsWorkOutcome, Outcome, begun, end_status, job_uses, save_status, verdict_status}
use Rattle.dromajo.specs.TopCall.{HasStatusCause, Leaves, NoneRose, Reporting, cause_by}
use Rattle.dromajo.proofs.Answered.{is_starved}

-- ---- how works end

ended_by : (b : Bool) (code made : ℕ) → (code == 0) ≡ b → EndsTurns (if b then Done else GuestEnded code made)
ended_by true code made is = tt
ended_by false code made is = λ same. cc

ends_turns : (end : TurnEnd) (made : ℕ) → EndsTurns (end_status end made)
ends_turns turn_end.Goes made = tt
ends_turns (turn_end.Ended code) made = ended_by (code == 0) code made refl
ends_turns (turn_end.BadHost word) made = tt

-- the turns after a save end as any turns do
turns_save : (status : Status) → EndsTurns status → EndsSave status
turns_save Done ends = tt
turns_save (GuestEnded code turn) ends = tt
turns_save (BadHostWord word turn) ends = tt
turns_save status ends = absurd ends

ends_save : (saved : Option Saved) (end : TurnEnd) (made : ℕ) → EndsSave (save_status saved end made)
ends_save None turn_end.Goes made = tt
ends_save None (turn_end.Ended code) made = tt
ends_save None (turn_end.BadHost word) made = tt
ends_save (Some saved) end made = turns_save (end_status end made) (ends_turns end made)

ends_judging : (v : Verdict) → EndsJudging (verdict_status v)
ends_judging (verdict.Passing n) = tt
ends_judging (verdict.Disallowed n field allowed given) = tt
ends_judging (verdict.BadLine n column) = tt
ends_judging (verdict.TooMany most) = tt

ends_work : (work : Work) (m : MachineState) (input : List ℕ) (outcome : Outcome) → IsWorkOutcome work m input outcome → EndsWork work outcome.status
ends_work (Turns turns logs) m input outcome is = subst (λ (o : Outcome). EndsTurns o.status) (sym is) (ends_turns (run logs input m turns).last (run logs input m turns).made)
ends_work (Save turns name more) m input outcome is = subst (λ (o : Outcome). EndsSave o.status) (sym is.2) (ends_save is.0.saved is.0.last is.0.made)
ends_work Judge m input outcome is = subst (λ (o : Outcome). EndsJudging o.status) (sym is.2) (ends_judging (stream_verdict m.core m.shape.tohost input))

ends_begun : (work : Work) (input : List ℕ) (begun : Result Begun Status) (outcome : Outcome) → IsBegunOutcome work input begun outcome → EndsBegun work begun outcome.status
ends_begun work input (Err refusal) outcome is = ap (λ (o : Outcome). o.status) is
ends_begun work input (Ok b) outcome is = subst (EndsWork work) (sym (ap (λ (o : Outcome). o.status) is.2)) (ends_work work b.machine input is.0 is.1)

ends_job : (job : Option Job) (held : Held) (input : List ℕ) (outcome : Outcome) → IsOutcome job held input outcome → EndsJob job held outcome.status
ends_job None held input outcome is = ap (λ (o : Outcome). o.status) is
ends_job (Some job) held input outcome is = ends_begun job.work input (begun held job.begin) outcome is

-- ---- where no count rose

over_all : {C : Type 0} (P : C → Type 0) (told : Option C) → ((c : C) → P c) → IfSome told P
over_all P None all = tt
over_all P (Some c) all = all c

finished_may : (job : Option Job) (answered : Status) (a b : World) → ((outcome : Status) → before_by (class_of answered) outcome answered → outcome ≡ answered) → Leaves job answered a b → MayAnswer job a answered
finished_may job answered a b same left =
    told_map _ _ a.held (λ held. told_map _ _ a.left (λ input did. inr (subst (EndsJob job held) (sym did.ends.status_is ∙ same did.status did.answers) (ends_job job held input did.ends.outcome did.ends.is)))) left

may_by : (class : Class) (job : Option Job) (answered : Status) (a b : World) (report report' : Reporting) → class ≡ class_of answered → NoneRose a b report report' → cause_by class answered job a b report report'
    → (finishes class → Leaves job answered a b) → MayAnswer job a answered
may_by Refused job answered a b report report' is none cause left =
    finished_may job answered a b (λ outcome before. subst (λ (class : Class). before_by class outcome answered) (sym is) before) (left tt)
may_by Ended job answered a b report report' is none cause left =
    finished_may job answered a b (λ outcome before. subst (λ (class : Class). before_by class outcome answered) (sym is) before) (left tt)
may_by (Failed Reading) job answered a b report report' is none cause left =
    absurd (none.reading.not_risen (subst (λ (class : Class). caused class (job_uses job) a.counts b.counts) (sym is) cause.count).1.0)
may_by (Failed Writing) job answered a b report report' is none cause left =
    absurd (none.writing.not_risen (subst (λ (class : Class). caused class (job_uses job) a.counts b.counts) (sym is) cause.count).1.0)
may_by (Failed TheInput) job answered a b report report' is none cause left =
    absurd (none.input.not_risen (subst (λ (class : Class). caused class (job_uses job) a.counts b.counts) (sym is) cause.count).1.0)
may_by (Failed Console) job answered a b report report' is none cause left =
    absurd (none.console.not_risen (subst (λ (class : Class). caused class (job_uses job) a.counts b.counts) (sym is) cause.count).1.0)
may_by Unreported job answered a b report report' is none cause left = absurd (none.of_report.not_risen cause)
may_by Starved job answered a b report report' is none cause left = over_all _ a.held (λ held. over_all _ a.left (λ input. inl (is_starved answered (sym is))))
may_by Never job answered a b report report' is none cause left =
    absurd (subst (λ (class : Class). caused class (job_uses job) a.counts b.counts) (sym is) cause.count)

-- what is answered, from the status before the report
pub answered_may : (job : Option Job) (answered : Status) (a b : World) (report report' : Reporting) → HasStatusCause answered job a b report report' → (IsFinished answered → Leaves job answered a b) → NoneRose a b report report' → MayAnswer job a answered
answered_may job answered a b report report' cause left none = may_by (class_of answered) job answered a b report report' refl none cause left
