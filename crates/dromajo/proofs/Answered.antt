-- From the status before the report to the one that is answered.
use Rattle.std.proofs.Common.{◌≡◌, ℕ, List, [], ◌++◌, length, take, Option, Some, None, Result, Ok, Err, refl, sym, ap, subst, ◌∙◌, inl, inr, arith}
use Rattle.std.proofs.lemmas.List.{take_all}
use Rattle.std.specs.Io.KnownBytes.{Appends}
use Rattle.outside_io.specs.Causes.{Rose}
use Rattle.outside_io.specs.Content.{Held}
use Rattle.job_words.specs.Job.{Job, Work}
use Rattle.outside_acts.specs.declared.Stop.{Stop}
use Rattle.outside_acts.specs.Acts.{Act, Did, sent}
use Rattle.outside_acts.specs.World.{Counted, Reading, Writing, TheInput, Console, Counts, NonePassedOver, World}
use Rattle.outside_acts.proofs.Algebra.{front_written, sent_none}
use Rattle.machine_start.proofs.Telling.{told_map}
use Rattle.dromajo.specs.declared.status.Status.{Status}
use Rattle.dromajo.specs.declared.status.Status.TheVariants.{Done, Usage, BadConfig, BadElf, BadCheckpoint, BootFault, ReadFault, WriteFault, NoMemory, GuestEnded, BadHostWord, Disagree, BadLine, TooMany}
use Rattle.dromajo.specs.declared.status.Which.TheVariants.{Files, Input, Out, Report}
use Rattle.dromajo.specs.Classes.{Class, Refused, Ended, Failed, Unreported, Starved, Never, IsBefore, IsFinished, IsRefusal, IsSettled, IsUsage, before_by, caused, class_of, fails, finishes, settles}
use Rattle.dromajo.specs.Jobs.{Begun, IsActs, IsBegunActs, begun}
use Rattle.dromajo.proofs.Works.{some_work}
use Rattle.dromajo.specs.TopCall.{AnswersRefusal, DidOutcome, HasJobCause, HasStatusCause, JobEnds, JobLeaves, JobStops, Leaves, Reporting, SendsFront, SentFront, cause_by, leaves_by}

-- ---- the one status of a class

pub is_unreported : (status : Status) → class_of status ≡ Unreported → status ≡ WriteFault Report
is_unreported Done is = cc
is_unreported Usage is = cc
is_unreported (BadConfig fault) is = cc
is_unreported (BadElf fault) is = cc
is_unreported (BadCheckpoint fault) is = cc
is_unreported (BootFault fault) is = cc
is_unreported (ReadFault Files) is = cc
is_unreported (ReadFault Input) is = cc
is_unreported (ReadFault Out) is = cc
is_unreported (ReadFault Report) is = cc
is_unreported (WriteFault Files) is = cc
is_unreported (WriteFault Input) is = cc
is_unreported (WriteFault Out) is = cc
is_unreported (WriteFault Report) is = refl
is_unreported NoMemory is = cc
is_unreported (GuestEnded code turn) is = cc
is_unreported (BadHostWord word turn) is = cc
is_unreported (Disagree n field allowed given) is = cc
is_unreported (BadLine n column) is = cc
is_unreported (TooMany most) is = cc

pub is_starved : (status : Status) → class_of status ≡ Starved → status ≡ NoMemory
is_starved Done is = cc
is_starved Usage is = cc
is_starved (BadConfig fault) is = cc
is_starved (BadElf fault) is = cc
is_starved (BadCheckpoint fault) is = cc
is_starved (BootFault fault) is = cc
is_starved (ReadFault Files) is = cc
is_starved (ReadFault Input) is = cc
is_starved (ReadFault Out) is = cc
is_starved (ReadFault Report) is = cc
is_starved (WriteFault Files) is = cc
is_starved (WriteFault Input) is = cc
is_starved (WriteFault Out) is = cc
is_starved (WriteFault Report) is = cc
is_starved NoMemory is = refl
is_starved (GuestEnded code turn) is = cc
is_starved (BadHostWord word turn) is = cc
is_starved (Disagree n field allowed given) is = cc
is_starved (BadLine n column) is = cc
is_starved (TooMany most) is = cc

-- ---- a finished call

still_settled : (class : Class) (before answered : Status) → class ≡ class_of answered → finishes class → before_by class before answered → IsSettled before
still_settled Refused before answered is finished same = subst settles (is ∙ ap class_of (sym same)) tt
still_settled Ended before answered is finished same = subst settles (is ∙ ap class_of (sym same)) tt
still_settled (Failed counted) before answered is finished same = absurd finished
still_settled Unreported before answered is finished same = subst IsSettled (sym same) tt
still_settled Starved before answered is finished same = absurd finished
still_settled Never before answered is finished same = absurd finished

pub finished_settled : (before answered : Status) → IsFinished answered → IsBefore before answered → IsSettled before
finished_settled before answered finished same = still_settled (class_of answered) before answered refl finished same

settled_ends : (class : Class) (job : Option Job) (held : Held) (input : List ℕ) (status : Status) (line : List ℕ) (a b : World) → settles class → leaves_by class job held input status line a b → JobEnds job held input status line a b
settled_ends Refused job held input status line a b settled left = left
settled_ends Ended job held input status line a b settled left = left
settled_ends (Failed counted) job held input status line a b settled left = absurd settled
settled_ends Unreported job held input status line a b settled left = absurd settled
settled_ends Starved job held input status line a b settled left = absurd settled
settled_ends Never job held input status line a b settled left = absurd settled

did_outcome : (job : Option Job) (held : Held) (input : List ℕ) (before answered : Status) (line : List ℕ) (a b : World) → IsBefore before answered → JobEnds job held input before line a b → DidOutcome job held input answered a b
did_outcome job held input before answered line a b same ends = record { status = before; line = line; ends = ends; answers = same }

pub finished_leaves : (job : Option Job) (before answered : Status) (line : List ℕ) (a b : World) → IsFinished answered → IsBefore before answered → JobLeaves job before line a b → Leaves job answered a b
finished_leaves job before answered line a b finished same left =
    told_map _ _ a.held (λ held. told_map _ _ a.left (λ input one. did_outcome job held input before answered line a b same (settled_ends (class_of before) job held input before line a b (finished_settled before answered finished same) one))) left

-- ---- the console

some_begun : (work : Work) (input : List ℕ) (begun : Result Begun Status) → (acts : List Act) × IsBegunActs work input begun acts
some_begun work input (Err status) = ([], refl)
some_begun work input (Ok b) =
    let some = some_work work b.machine input in
    (b.acts ++ some.0, (some.0, some.1, refl))

-- a job has some acts
some_acts : (job : Option Job) (held : Held) (input : List ℕ) → (acts : List Act) × IsActs job held input acts
some_acts None held input = ([], refl)
some_acts (Some job) held input = some_begun job.work input (begun held job.begin)

whole_front : (job : Option Job) (held : Held) (input : List ℕ) (status : Status) (line : List ℕ) (a b : World) → JobEnds job held input status line a b → SentFront job held input a b
whole_front job held input status line a b ends =
    let all : take (length (sent ends.outcome.acts)) (sent ends.outcome.acts) ≡ sent ends.outcome.acts = take_all (length (sent ends.outcome.acts)) (sent ends.outcome.acts) (omega arith) in
    record {
      acts = ends.outcome.acts;
      are = inl (ends.outcome, ends.is, refl);
      count = length (sent ends.outcome.acts);
      console = subst (λ (zs : List ℕ). Appends a.written b.written zs) (sym all) ends.did.console;
    }

cut_front : (why : Stop) (job : Option Job) (held : Held) (input : List ℕ) (a b : World) → JobStops why job held input a b → SentFront job held input a b
cut_front why job held input a b stops =
    let front = front_written stops.cut in
    record { acts = stops.acts; are = inr stops.are; count = front.0; console = front.1 }

no_front : (job : Option Job) (held : Held) (input : List ℕ) (a b : World) → Did input 0 [] a b → SentFront job held input a b
no_front job held input a b did =
    let some = some_acts job held input in
    record { acts = some.0; are = inr some.1; count = 0; console = subst (λ (zs : List ℕ). Appends a.written b.written zs) sent_none did.console }

front_by : (class : Class) (job : Option Job) (held : Held) (input : List ℕ) (status : Status) (line : List ℕ) (a b : World) → leaves_by class job held input status line a b → SentFront job held input a b
front_by Refused job held input status line a b left = whole_front job held input status line a b left
front_by Ended job held input status line a b left = whole_front job held input status line a b left
front_by (Failed Reading) job held input status line a b left = no_front job held input a b left
front_by (Failed Writing) job held input status line a b left = cut_front _ job held input a b left
front_by (Failed TheInput) job held input status line a b left = cut_front _ job held input a b left
front_by (Failed Console) job held input status line a b left = cut_front _ job held input a b left
front_by Starved job held input status line a b (inl left) = no_front job held input a b left
front_by Starved job held input status line a b (inr left) = cut_front _ job held input a b left
front_by Unreported job held input status line a b left = absurd left
front_by Never job held input status line a b left = absurd left

pub leaves_front : (job : Option Job) (status : Status) (line : List ℕ) (a b : World) → JobLeaves job status line a b → SendsFront job a b
leaves_front job status line a b left =
    told_map _ _ a.held (λ held. told_map _ _ a.left (λ input one. front_by (class_of status) job held input status line a b one)) left

-- ---- refusals

refused_same : (class : Class) (before answered : Status) → class ≡ class_of answered → finishes class → before_by class before answered → IsRefusal before → before ≡ answered
refused_same Refused before answered is finished same refused = same
refused_same Ended before answered is finished same refused = same
refused_same (Failed counted) before answered is finished same refused = absurd finished
refused_same Unreported before answered is finished same refused = let done : class_of before ≡ Ended = ap class_of same in cc
refused_same Starved before answered is finished same refused = absurd finished
refused_same Never before answered is finished same refused = absurd finished

same_refused : (class : Class) (before answered : Status) → class ≡ class_of answered → before_by class before answered → IsRefusal answered → IsRefusal before
same_refused Refused before answered is same refused = ap class_of same ∙ refused
same_refused Ended before answered is same refused = cc
same_refused (Failed counted) before answered is same refused = cc
same_refused Unreported before answered is same refused = cc
same_refused Starved before answered is same refused = cc
same_refused Never before answered is same refused = cc

pub refusal_answered : (refusal : Option Status) (before answered : Status) → IsFinished answered → IsBefore before answered → AnswersRefusal refusal before → AnswersRefusal refusal answered
refusal_answered None before answered finished same none = λ refused. none (same_refused (class_of answered) before answered refl same refused)
refusal_answered (Some refusal) before answered finished same some =
    let as_before = refused_same (class_of answered) before answered refl finished same some.1 in
    (sym as_before ∙ some.0, subst IsRefusal as_before some.1)

-- ---- causes

pub settled_none : (class : Class) (Uses : Counted → Type 0) (a b : Counts) → settles class → caused class Uses a b → NonePassedOver a b
settled_none Refused Uses a b settled cause = cause
settled_none Ended Uses a b settled cause = cause
settled_none (Failed counted) Uses a b settled cause = absurd settled
settled_none Unreported Uses a b settled cause = absurd settled
settled_none Starved Uses a b settled cause = absurd settled
settled_none Never Uses a b settled cause = absurd settled

pub unfailed_none : (class : Class) (Uses : Counted → Type 0) (a b : Counts) → (fails class → ⊥) → caused class Uses a b → NonePassedOver a b
unfailed_none Refused Uses a b unfailed cause = cause
unfailed_none Ended Uses a b unfailed cause = cause
unfailed_none (Failed counted) Uses a b unfailed cause = absurd (unfailed tt)
unfailed_none Unreported Uses a b unfailed cause = absurd cause
unfailed_none Starved Uses a b unfailed cause = cause
unfailed_none Never Uses a b unfailed cause = absurd cause

cause_by_class : (class : Class) (before answered : Status) (job : Option Job) (a b : World) (report report' : Reporting) → class ≡ class_of answered → before_by class before answered → HasJobCause before job a b → (answered ≡ WriteFault Report → Rose report.faults report'.faults) → cause_by class answered job a b report report'
cause_by_class Refused before answered job a b report report' is same cause rose = subst (λ (s : Status). HasJobCause s job a b) same cause
cause_by_class Ended before answered job a b report report' is same cause rose = subst (λ (s : Status). HasJobCause s job a b) same cause
cause_by_class (Failed counted) before answered job a b report report' is same cause rose = subst (λ (s : Status). HasJobCause s job a b) same cause
cause_by_class Unreported before answered job a b report report' is same cause rose = rose (is_unreported answered (sym is))
cause_by_class Starved before answered job a b report report' is same cause rose = tt
cause_by_class Never before answered job a b report report' is same cause rose = subst (λ (s : Status). HasJobCause s job a b) same cause

pub answered_cause : (before answered : Status) (job : Option Job) (a b : World) (report report' : Reporting) → IsBefore before answered → HasJobCause before job a b → (answered ≡ WriteFault Report → Rose report.faults report'.faults) → HasStatusCause answered job a b report report'
answered_cause before answered job a b report report' same cause rose = cause_by_class (class_of answered) before answered job a b report report' refl same cause rose

usage_by_class : (class : Class) (answered : Status) → class ≡ class_of answered → before_by class Usage answered → IsUsage answered
usage_by_class Refused answered is same = inl (sym same)
usage_by_class Ended answered is same = inl (sym same)
usage_by_class (Failed counted) answered is same = inl (sym same)
usage_by_class Unreported answered is same = cc
usage_by_class Starved answered is same = inr (is_starved answered (sym is))
usage_by_class Never answered is same = inl (sym same)

-- Usage is answered, unless memory lacked
pub usage_answered : (before answered : Status) → before ≡ Usage → IsBefore before answered → IsUsage answered
usage_answered before answered is same = usage_by_class (class_of answered) answered refl (subst (λ (s : Status). IsBefore s answered) is same)
