-- What a work comes to: turns that are logged, a save, the judging of a stream, each behind the acts of its beginning.
use Rattle.std.proofs.Common.{◌≡◌, ℕ, Bool, List, [], ◌∷◌, ◌++◌, drop, inl, inr, Option, Some, None, is_some, if◌then◌else◌, refl, sym, ap, subst, ◌∙◌}
use Rattle.checkpoint_run.specs.Reaching.{IsSaveRun, StopsAnywhere}
use Rattle.checkpoint_run.specs.Saving.{Saved}
use Rattle.cosim_check.specs.Verdicts.{number}
use Rattle.cosim_check.specs.declared.verdict.Verdict.{Verdict}
use Rattle.hart_step.specs.Harts.{CoreState}
use Rattle.hart_turns.specs.declared.machine.TurnEnd.{TurnEnd}
use Rattle.hart_turns.specs.Machine.{MachineState, MachineView}
use Rattle.job_words.specs.Job.{Judge, Logs, Save, Turns, Work}
use Rattle.outside_acts.specs.declared.Stop.{Stop}
use Rattle.outside_acts.specs.Acts.{Act, ReadTo, Start, Did, DidCut, read}
use Rattle.outside_acts.specs.Calls.{Does, Stops}
use Rattle.outside_acts.specs.World.{World}
use Rattle.outside_acts.proofs.Algebra.{did_both, did_cut_later, did_cut_sooner, read_none, read_one}
use Rattle.turn_runs.specs.declared.feed.Feed.{Feed}
use Rattle.turn_runs.specs.Feeding.{IsFedFrom}
use Rattle.turn_runs.specs.Reaching.{IsRun, OverInput}
use Rattle.turn_runs.specs.Resuming.{HasResumed, resume_acts}
use Rattle.turn_runs.specs.Run.{no_logs, run}
use Rattle.sim_config.specs.declared.values.Shape.{Shape}
use Rattle.stream_judge.specs.Judging.{IsJudged, JudgingStops, stream_verdict}
use Rattle.stream_judge.proofs.Taking.{none_passed}
use Rattle.dromajo.specs.declared.status.Status.{Status}
use Rattle.dromajo.specs.declared.status.Tally.{Tally}
use Rattle.dromajo.specs.declared.status.Tally.TheVariants.{Turned, Judged}
use Rattle.dromajo.specs.declared.work.JobEnding.{JobEnding}
use Rattle.dromajo.specs.Jobs.{IsWorkActs, after_acts, end_status, judged_outcome, ran_outcome, save_outcome, save_status, start_acts, start_named, unsaved_status, verdict_status}
use Rattle.dromajo.specs.Report.{report_line}
use Rattle.dromajo.specs.Works.{BegunEnds, BegunStops, IsUnused, WorkEnds, WorkStops, begun_with}

-- ---- the logs

-- by the name of the trace, where there is one
pub started_logs : (logs : Logs) (trace : Option (List ℕ)) (a b : World) → trace ≡ logs.trace → Does (start_named trace) a b → Does (start_acts logs) a b
started_logs logs trace a b is done = subst (λ (t : Option (List ℕ)). Does (start_named t) a b) is done

pub stopped_logs : (why : Stop) (logs : Logs) (trace : Option (List ℕ)) (a b : World) → trace ≡ logs.trace → Stops why (start_named trace) a b → Stops why (start_acts logs) a b
stopped_logs why logs trace a b is cut = subst (λ (t : Option (List ℕ)). Stops why (start_named t) a b) is cut

-- starting a file reads nothing
start_unread : (trace : Option (List ℕ)) (from : ℕ) → read (start_named trace) from ≡ from
start_unread None from = read_none from
start_unread (Some name) from = read_one (Start name) from

-- so the run finds the input where it was
pub fed_still : (logs : Logs) (input : List ℕ) (taken from : ℕ) (feed : Feed) (a b : World) → Does (start_acts logs) a b → IsFedFrom input taken from feed a.left → IsFedFrom input taken from feed b.left
fed_still logs input taken from feed a b started fed =
    let left : b.left ≡ a.left = (started input from fed.left_from).left_is ∙ ap (λ (n : ℕ). Some (drop n input)) (start_unread logs.trace from) ∙ sym fed.left_from in
    subst (λ (l : Option (List ℕ)). IsFedFrom input taken from feed l) (sym left) fed

-- ---- turns

abbrev after_start : Logs → List ℕ → MachineState → ℕ → List Act
after_start logs input m turns = start_acts logs ++ (run logs input m turns).acts

ran_on : (logs : Logs) (input : List ℕ) (from : ℕ) (acts : List Act) (a b c : World) → a.left ≡ Some (drop from input) → Does (start_acts logs) a b → Did input from acts b c → Did input from (start_acts logs ++ acts) a c
ran_on logs input from acts a b c left started did =
    did_both (started input from left) (subst (λ (n : ℕ). Did input n acts b c) (sym (start_unread logs.trace from)) did)

cut_on : (why : Stop) (logs : Logs) (input : List ℕ) (from : ℕ) (acts : List Act) (a b c : World) → a.left ≡ Some (drop from input) → Does (start_acts logs) a b → DidCut why input from acts b c → DidCut why input from (start_acts logs ++ acts) a c
cut_on why logs input from acts a b c left started cut =
    did_cut_later (started input from left) (subst (λ (n : ℕ). DidCut why input n acts b c) (sym (start_unread logs.trace from)) cut)

pub line_same : (status status' : Status) (tally tally' : Tally) → status ≡ status' → tally ≡ tally' → report_line status tally ≡ report_line status' tally'
line_same status status' tally tally' s t = ap (λ (x : Status). report_line x tally) s ∙ ap (report_line status') t

turned_same : (turns turns' taken taken' : ℕ) → turns ≡ turns' → taken ≡ taken' → Turned turns taken ≡ Turned turns' taken'
turned_same turns turns' taken taken' n t = ap (λ (x : ℕ). Turned x taken) n ∙ ap (Turned turns') t

end_same : (end end' : TurnEnd) (made made' : ℕ) → end ≡ end' → made ≡ made' → end_status end made ≡ end_status end' made'
end_same end end' made made' e m = ap (λ (x : TurnEnd). end_status x made) e ∙ ap (end_status end') m

pub turns_end : (logs : Logs) (input : List ℕ) (from turns : ℕ) (m now : MachineState) (made : ℕ) (end : TurnEnd) (status : Status) (taken : ℕ) (feed feed' : Feed) (a b c : World)
    → IsFedFrom input m.taken from feed a.left → Does (start_acts logs) a b → IsRun input from (run logs input m turns) now made end feed' b c → status ≡ end_status end made → taken ≡ now.taken
    → WorkEnds (Turns turns logs) m (record { status = status; tally = Turned made taken }) input from a c
turns_end logs input from turns m now made end status taken feed feed' a b c fed started ran status_is taken_is =
    let last = run logs input m turns in
    let same : status ≡ end_status last.last last.made = status_is ∙ end_same end last.last made last.made ran.end_is ran.made_is in
    record {
      outcome = ran_outcome (start_acts logs) last;
      is = refl;
      status_is = same;
      line_is = line_same status (end_status last.last last.made) (Turned made taken) (Turned last.made last.machine.taken) same
          (turned_same made last.made taken last.machine.taken ran.made_is (taken_is ∙ ap (λ (x : MachineState). x.taken) ran.reached.machine));
      did = ran_on logs input from last.acts a b c fed.left_from started ran.reached.did;
      sound = tt;
    }

pub turns_stop : (why : Stop) (logs : Logs) (input : List ℕ) (from turns : ℕ) (m : MachineState) (feed : Feed) (a b c : World)
    → IsFedFrom input m.taken from feed a.left → Does (start_acts logs) a b → DidCut why input from (run logs input m turns).acts b c → WorkStops why (Turns turns logs) m input from a c
turns_stop why logs input from turns m feed a b c fed started cut = record {
  acts = (ran_outcome (start_acts logs) (run logs input m turns)).acts;
  are = refl;
  cut = cut_on why logs input from (run logs input m turns).acts a b c fed.left_from started cut;
}

pub start_stops : (why : Stop) (logs : Logs) (input : List ℕ) (from turns : ℕ) (m : MachineState) (feed : Feed) (a b : World)
    → IsFedFrom input m.taken from feed a.left → Stops why (start_acts logs) a b → WorkStops why (Turns turns logs) m input from a b
start_stops why logs input from turns m feed a b fed cut = record {
  acts = (ran_outcome (start_acts logs) (run logs input m turns)).acts;
  are = refl;
  cut = did_cut_sooner (run logs input m turns).acts (cut input from fed.left_from);
}

-- ---- a save

save_status_same : (saved : Option Saved) (is_saved : Bool) (end end' : TurnEnd) (made made' : ℕ) → is_saved ≡ is_some saved → end ≡ end' → made ≡ made'
    → (if is_saved then end_status end made else unsaved_status end made) ≡ save_status saved end' made'
save_status_same None is_saved end end' made made' is e m =
    ap (λ (b : Bool). if b then end_status end made else unsaved_status end made) is ∙ ap (λ (x : TurnEnd). unsaved_status x made) e ∙ ap (unsaved_status end') m
save_status_same (Some saved) is_saved end end' made made' is e m =
    ap (λ (b : Bool). if b then end_status end made else unsaved_status end made) is ∙ end_same end end' made made' e m

pub save_ends : (name input : List ℕ) (from turns more : ℕ) (m now : MachineState) (made : ℕ) (end : TurnEnd) (is_saved : Bool) (status : Status) (taken : ℕ) (feed : Feed) (a b : World)
    → IsSaveRun input from name m turns more now made end is_saved feed a b
    → status ≡ (if is_saved then end_status end made else unsaved_status end made) → taken ≡ now.taken
    → WorkEnds (Save turns name more) m (record { status = status; tally = Turned made taken }) input from a b
save_ends name input from turns more m now made end is_saved status taken feed a b run status_is taken_is =
    let ran = run.ran in
    let same : status ≡ save_status ran.saved ran.last ran.made = status_is ∙ save_status_same ran.saved is_saved end ran.last made ran.made run.saved_is run.end_is run.made_is in
    record {
      outcome = save_outcome ran;
      is = (ran, run.is, refl);
      status_is = same;
      line_is = line_same status (save_status ran.saved ran.last ran.made) (Turned made taken) (Turned ran.made ran.machine.taken) same
          (turned_same made ran.made taken ran.machine.taken run.made_is (taken_is ∙ ap (λ (x : MachineState). x.taken) run.reached.machine));
      did = run.reached.did;
      sound = run.sound;
    }

pub save_stopped : (why : Stop) (name input : List ℕ) (from turns more : ℕ) (m : MachineState) (a b : World) → StopsAnywhere why input from name m turns more a b
    → WorkStops why (Save turns name more) m input from a b
save_stopped why name input from turns more m a b (inl cut) = record {
  acts = (run no_logs input m turns).acts;
  are = inl refl;
  cut = cut;
}
save_stopped why name input from turns more m a b (inr (stops, sound)) = record {
  acts = stops.ran.acts;
  are = inr (stops.ran, stops.is, sound, refl);
  cut = stops.cut;
}

-- ---- the acts of a beginning before those of the work

pub begun_ends : (work : Work) (m : MachineView) (finished : JobEnding) (feed : Feed) (input : List ℕ) (a b c : World)
    → HasResumed input m.console m.machine.taken feed a b → OverInput m.machine feed b (λ bytes from. WorkEnds work m.machine finished bytes from b c)
    → BegunEnds work (begun_with m) finished input a c
begun_ends work m finished feed input a b c resumed ends =
    let worked = ends input (read (resume_acts m.console m.machine.taken) 0) resumed.fed in
    record {
      outcome = after_acts (resume_acts m.console m.machine.taken) worked.outcome;
      is = (worked.outcome, worked.is, refl);
      status_is = worked.status_is;
      line_is = worked.line_is;
      did = did_both resumed.did worked.did;
      sound = worked.sound;
    }

pub begun_stops : (why : Stop) (work : Work) (m : MachineView) (feed : Feed) (input : List ℕ) (a b c : World)
    → HasResumed input m.console m.machine.taken feed a b → OverInput m.machine feed b (λ bytes from. WorkStops why work m.machine bytes from b c)
    → BegunStops why work (begun_with m) input a c
begun_stops why work m feed input a b c resumed stops =
    let worked = stops input (read (resume_acts m.console m.machine.taken) 0) resumed.fed in
    record {
      acts = resume_acts m.console m.machine.taken ++ worked.acts;
      are = (worked.acts, worked.are, refl);
      cut = did_cut_later resumed.did worked.cut;
    }

-- a work has some acts
pub some_work : (work : Work) (m : MachineState) (input : List ℕ) → (acts : List Act) × IsWorkActs work m input acts
some_work (Turns turns logs) m input = (_, refl)
some_work (Save turns name more) m input = ((run no_logs input m turns).acts, inl refl)
some_work Judge m input = (ReadTo 0 ∷ [], (0, none_passed m.core m.shape.tohost input, refl))

-- its machine did not take up its run
pub unresumed : (why : Stop) (work : Work) (m : MachineView) (input : List ℕ) (a b : World)
    → DidCut why input 0 (resume_acts m.console m.machine.taken) a b → BegunStops why work (begun_with m) input a b
unresumed why work m input a b cut =
    let some = some_work work m.machine input in
    record {
      acts = resume_acts m.console m.machine.taken ++ some.0;
      are = (some.0, some.1, refl);
      cut = did_cut_sooner some.0 cut;
    }

-- ---- a stream

-- an unused machine has nothing to do before its work
unused_acts : (m : MachineView) → IsUnused m → resume_acts m.console m.machine.taken ≡ []
unused_acts m unused = ap (λ (zs : List ℕ). resume_acts zs m.machine.taken) unused.console ∙ ap (λ (n : ℕ). resume_acts [] n) unused.taken

judged_outcome_of : (m : MachineView) (input : List ℕ) (count : ℕ) → IsUnused m
    → after_acts (resume_acts m.console m.machine.taken) (judged_outcome (stream_verdict m.machine.core m.machine.shape.tohost input) count)
    ≡ judged_outcome (stream_verdict m.machine.core m.machine.shape.tohost input) count
judged_outcome_of m input count unused = ap (λ (acts : List Act). after_acts acts (judged_outcome (stream_verdict m.machine.core m.machine.shape.tohost input) count)) (unused_acts m unused)

pub judging_ends : (m : MachineView) (core : CoreState) (shape : Shape) (verdict : Verdict) (finished : JobEnding) (input : List ℕ) (a b : World) → core ≡ m.machine.core → shape ≡ m.machine.shape
    → IsUnused m → IsJudged core shape.tohost input verdict a b → finished.status ≡ verdict_status verdict → finished.tally ≡ Judged (number verdict)
    → BegunEnds Judge (begun_with m) finished input a b
judging_ends m core shape verdict finished input a b core_is shape_is unused is status_is tally_is =
    let judged = subst (λ (x : CoreState). IsJudged x m.machine.shape.tohost input verdict a b) core_is (subst (λ (x : Shape). IsJudged core x.tohost input verdict a b) shape_is is) in
    let whole = stream_verdict m.machine.core m.machine.shape.tohost input in
    let same : finished.status ≡ verdict_status whole = status_is ∙ ap verdict_status judged.verdict_is in
    record {
      outcome = judged_outcome whole judged.count;
      is = (judged_outcome whole judged.count, (judged.count, judged.far, refl), sym (judged_outcome_of m input judged.count unused));
      status_is = same;
      line_is = line_same finished.status (verdict_status whole) finished.tally (Judged (number whole)) same (tally_is ∙ ap (λ (v : Verdict). Judged (number v)) judged.verdict_is);
      did = judged.did;
      sound = tt;
    }

pub judging_stops : (why : Stop) (m : MachineView) (core : CoreState) (shape : Shape) (input : List ℕ) (a b : World) → core ≡ m.machine.core → shape ≡ m.machine.shape
    → IsUnused m → JudgingStops why core shape.tohost input a b → BegunStops why Judge (begun_with m) input a b
judging_stops why m core shape input a b core_is shape_is unused is =
    let stops = subst (λ (x : CoreState). JudgingStops why x m.machine.shape.tohost input a b) core_is (subst (λ (x : Shape). JudgingStops why core x.tohost input a b) shape_is is) in
    record {
      acts = ReadTo stops.count ∷ [];
      are = (ReadTo stops.count ∷ [], (stops.count, stops.passed, refl), sym (ap (λ (acts : List Act). acts ++ ReadTo stops.count ∷ []) (unused_acts m unused)));
      cut = stops.cut;
    }
