-- A machine that was loaded goes on as the machine that was saved, without its reservations, goes on.
use Rattle.std.proofs.Common.{◌≡◌, ℕ, zero, suc, List, [], ◌++◌, Option, Some, None, Result, sym, ap, subst, ◌∙◌}
use Rattle.outside_acts.specs.Acts.{Act, ReadTo, Start, sent}
use Rattle.outside_acts.proofs.Algebra.{sent_joined, sent_none, sent_one}
use Rattle.hart_turns.specs.Machine.{MachineState, cleared}
use Rattle.job_words.specs.Job.{Logs, Turns}
use Rattle.turn_runs.specs.Feeding.{pass_acts}
use Rattle.turn_runs.specs.Run.{no_logs, run}
use Rattle.checkpoint_run.proofs.Logs.{logs_change_nothing}
use Rattle.dromajo.specs.declared.status.Status.{Status}
use Rattle.dromajo.specs.declared.status.Tally.TheVariants.{Turned}
use Rattle.dromajo.specs.Jobs.{Begun, IsBegunOutcome, Outcome, after_acts, end_status, ran_outcome, start_acts, start_named}
use Rattle.dromajo.specs.Laws.{GoesOn, LaterEqual}
use Rattle.dromajo.specs.Report.{report_line}

passes_silently : (n : ℕ) → sent (pass_acts n) ≡ []
passes_silently zero = sent_none
passes_silently (suc n) = sent_one (ReadTo (suc n))

starts_silently : (name : Option (List ℕ)) → sent (start_named name) ≡ []
starts_silently None = sent_none
starts_silently (Some name) = sent_one (Start name)

sent_behind : (xs ys : List Act) → sent xs ≡ [] → sent (xs ++ ys) ≡ sent ys
sent_behind xs ys silent = sent_joined xs ys ∙ ap (λ (zs : List ℕ). zs ++ sent ys) silent

goes_on : (m : MachineState) (turns : ℕ) (logs : Logs) (input : List ℕ) (outcome : Outcome)
    → outcome ≡ after_acts (pass_acts m.taken) (ran_outcome (start_acts logs) (run logs input (cleared m) turns)) → GoesOn m turns logs input outcome
goes_on m turns logs input outcome is =
    let logged = run logs input (cleared m) turns in
    let plain = run no_logs input (cleared m) turns in
    let alike = logs_change_nothing logs input (cleared m) turns in
    let status : outcome.status ≡ end_status plain.last plain.made =
    ap (λ (o : Outcome). o.status) is ∙ ap (λ (n : ℕ). end_status logged.last n) alike.made ∙ ap (λ e. end_status e plain.made) alike.last in
    let acts = ap (λ (o : Outcome). o.acts) is in
    record {
      status = status;
      line = ap (λ (o : Outcome). o.line) is ∙ ap (λ (s : Status). report_line s (Turned logged.made logged.machine.taken)) (sym (ap (λ (o : Outcome). o.status) is))
          ∙ ap (λ (n : ℕ). report_line outcome.status (Turned n logged.machine.taken)) alike.made
          ∙ ap (λ (x : MachineState). report_line outcome.status (Turned plain.made x.taken)) alike.machine;
      sent = ap sent acts ∙ sent_behind (pass_acts m.taken) (start_acts logs ++ logged.acts) (passes_silently m.taken)
          ∙ sent_behind (start_acts logs) logged.acts (starts_silently logs.trace) ∙ alike.sent;
      acts = acts;
    }

pub later_equal : LaterEqual
later_equal held name m turns logs input outcome begins is =
    let began = subst (λ (r : Result Begun Status). IsBegunOutcome (Turns turns logs) input r outcome) begins is in
    goes_on m turns logs input outcome (began.2 ∙ ap (after_acts (pass_acts m.taken)) began.1)
