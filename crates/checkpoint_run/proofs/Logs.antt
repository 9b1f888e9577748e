-- Logs change nothing of a run but their files.
use Rattle.std.proofs.Common.{◌≡◌, ℕ, zero, suc, ◌+◌, List, [], ◌++◌, Option, Some, None, refl, sym, ap, subst, ◌∙◌}
use Rattle.std.proofs.lemmas.List.{append-nil}
use Rattle.hart_turns.specs.declared.machine.TurnEnd.{TurnEnd}
use Rattle.hart_turns.specs.declared.machine.TurnEnd.TheVariants.{Goes, Ended, BadHost}
use Rattle.hart_turns.specs.Machine.{MachineState}
use Rattle.hart_turns.specs.Turn.{Turned}
use Rattle.outside_acts.specs.Acts.{sent}
use Rattle.outside_acts.proofs.Algebra.{sent_joined}
use Rattle.job_words.specs.Job.{Logs}
use Rattle.turn_runs.specs.Run.{Ran, append_acts, goes_on, log_acts, no_logs, run, send_acts, turn_acts, turn_on}
use Rattle.checkpoint_run.specs.Laws.{LogsChangeNothing, RunsAlike}

append_silent : (file : Option (List ℕ)) (lines : List ℕ) → sent (append_acts file lines) ≡ []
unfolding sent
append_silent None lines = refl
append_silent (Some name) lines = refl

-- a turn sends its console bytes, whatever is logged
turn_sends : (logs : Logs) (m : MachineState) (t : Turned) → sent (turn_acts logs m t) ≡ sent (send_acts t.console)
unfolding sent
turn_sends logs m t =
    sent_joined (send_acts t.console) (log_acts logs t.events)
    ∙ ap (λ (zs : List ℕ). sent (send_acts t.console) ++ zs) (append_silent logs.trace _)
    ∙ append-nil (sent (send_acts t.console))

turns_alike : (logs : Logs) (input : List ℕ) (a b : Ran) (end : TurnEnd) → RunsAlike a b
    → RunsAlike (goes_on logs input a end) (goes_on no_logs input b end)
turns_alike logs input a b Goes alike =
    let ta : Turned = turn_on input a.machine in
    let tb : Turned = turn_on input b.machine in
    let turn : ta ≡ tb = ap (turn_on input) alike.machine in
    let sends : sent (turn_acts logs a.machine ta) ≡ sent (turn_acts no_logs b.machine tb) =
    turn_sends logs a.machine ta ∙ ap (λ (t : Turned). sent (send_acts t.console)) turn ∙ sym (turn_sends no_logs b.machine tb) in
    record {
      machine = ap (λ (t : Turned). t.machine) turn;
      made = ap (λ (n : ℕ). n + 1) alike.made;
      last = ap (λ (t : Turned). t.end) turn;
      sent = sent_joined a.acts (turn_acts logs a.machine ta)
          ∙ ap (λ (zs : List ℕ). zs ++ sent (turn_acts logs a.machine ta)) alike.sent
          ∙ ap (λ (zs : List ℕ). sent b.acts ++ zs) sends
          ∙ sym (sent_joined b.acts (turn_acts no_logs b.machine tb));
    }
turns_alike logs input a b (Ended code) alike = alike
turns_alike logs input a b (BadHost word) alike = alike

pub logs_change_nothing : LogsChangeNothing
unfolding run
logs_change_nothing logs input m zero = record { machine = refl; made = refl; last = refl; sent = refl }
logs_change_nothing logs input m (suc n) =
    let a : Ran = run logs input m n in
    let b : Ran = run no_logs input m n in
    let before : RunsAlike a b = logs_change_nothing logs input m n in
    subst (λ (e : TurnEnd). RunsAlike (goes_on logs input a a.last) (goes_on no_logs input b e)) before.last
    (turns_alike logs input a b a.last before)
