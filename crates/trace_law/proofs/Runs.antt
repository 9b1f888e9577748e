-- A run passes, and its trace holds the lines of its events.
use Rattle.std.specs.Prelude.{unwrap_or}
use Rattle.std.proofs.Common.{◌≡◌, ℕ, zero, suc, ◌≤◌, List, [], ◌∷◌, ◌++◌, length, Option, Some, refl, sym, ap, subst, ◌∙◌, arith, append_assoc, append-nil}
use Rattle.hart_step.specs.declared.event.Event.{Event}
use Rattle.hart_step.specs.Harts.{CoreState}
use Rattle.hart_step.specs.Told.{CoversCore}
use Rattle.commit_log.specs.Spelling.{line}
use Rattle.sim_config.specs.declared.values.Shape.{Shape}
use Rattle.hart_turns.specs.declared.machine.TurnEnd.{TurnEnd}
use Rattle.hart_turns.specs.declared.machine.TurnEnd.TheVariants.{Goes, Ended, BadHost}
use Rattle.hart_turns.specs.Machine.{MachineState}
use Rattle.hart_turns.specs.Turn.{Turned}
use Rattle.outside_io.specs.Content.{Held, file_of}
use Rattle.outside_acts.specs.Acts.{ReadTo, Append, filed, filed_by, with_file}
use Rattle.outside_acts.proofs.Algebra.{filed_joined}
use Rattle.outside_acts.proofs.Held.{with_file_named}
use Rattle.job_words.specs.Job.{Logs}
use Rattle.turn_runs.proofs.Windowless.{turned_shape}
use Rattle.turn_runs.specs.Run.{Ran, goes_on, no_logs, run, send_acts, trace_lines, turn_acts, turn_on}
use Rattle.trace_law.specs.Passing.{TurnPasses}
use Rattle.trace_law.specs.Runs.{RunPasses, RunsPass, TraceIsEvents, next_events, run_events, traced_to}
use Rattle.trace_law.proofs.Steps.{joins}
use Rattle.trace_law.proofs.Turns.{turns_pass_lem}

-- ---- what is logged changes no machine

record SameRun (a b : Ran) : Type 0 where
  machine : a.machine ≡ b.machine
  last : a.last ≡ b.last

same_on : (a b : Logs) (input : List ℕ) (r s : Ran) (end : TurnEnd) → SameRun r s → SameRun (goes_on a input r end) (goes_on b input s end)
same_on a b input r s Goes same = record {
  machine = ap (λ (m : MachineState). (turn_on input m).machine) same.machine;
  last = ap (λ (m : MachineState). (turn_on input m).end) same.machine;
}
same_on a b input r s (Ended code) same = same
same_on a b input r s (BadHost word) same = same

same_run : (a b : Logs) (input : List ℕ) (m : MachineState) (n : ℕ) → SameRun (run a input m n) (run b input m n)
unfolding run
same_run a b input m zero = record { machine = refl; last = refl }
same_run a b input m (suc n) =
    let one = same_run a b input m n in
    subst (λ (end : TurnEnd). SameRun (goes_on a input (run a input m n) (run a input m n).last) (goes_on b input (run b input m n) end)) one.last
    (same_on a b input (run a input m n) (run b input m n) (run a input m n).last one)

-- ---- a run passes

one_turn : (core : CoreState) (m now : MachineState) (events : List Event) (t : Turned) → t.machine.shape ≡ now.shape → (one : RunPasses core m events now) → TurnPasses m.shape.tohost one.past now t → RunPasses core m (events ++ t.events) t.machine
one_turn core m now events t shape one two = record {
  past = two.past;
  allowed = joins m.shape.tohost core one.past two.past events t.events one.allowed two.allowed;
  covers = two.covers;
  shape = shape ∙ one.shape;
  count = two.count ∙ one.count;
}

by_end : (input : List ℕ) (m : MachineState) (core : CoreState) (events : List Event) (r : Ran) → m.shape.harts ≤ length m.core.harts → RunPasses core m events r.machine → (end : TurnEnd) → RunPasses core m (events ++ next_events input r.machine end) (goes_on no_logs input r end).machine
by_end input m core events r within one Goes =
    let t : Turned = turn_on input r.machine in
    let fits : r.machine.shape.harts ≤ length r.machine.core.harts = let harts = ap (λ (s : Shape). s.harts) one.shape in let count = one.count in omega arith in
    one_turn core m r.machine events t (turned_shape r.machine _) one
    (subst (λ (s : Shape). TurnPasses s.tohost one.past r.machine t) one.shape (turns_pass_lem r.machine _ one.past fits one.covers))
by_end input m core events r within one (Ended code) = subst (λ (es : List Event). RunPasses core m es r.machine) (sym (append-nil events)) one
by_end input m core events r within one (BadHost word) = subst (λ (es : List Event). RunPasses core m es r.machine) (sym (append-nil events)) one

pub unlogged_pass : (input : List ℕ) (m : MachineState) (n : ℕ) (core : CoreState) → m.shape.harts ≤ length m.core.harts → CoversCore core m.core → RunPasses core m (run_events input m n) (run no_logs input m n).machine
unfolding run run_events
unlogged_pass input m zero core within covers = record { past = core; allowed = refl; covers = covers; shape = refl; count = refl }
unlogged_pass input m (suc n) core within covers =
    by_end input m core (run_events input m n) (run no_logs input m n) within (unlogged_pass input m n core within covers) (run no_logs input m n).last

pub runs_pass_lem : RunsPass
runs_pass_lem logs input m n core within covers =
    let same = same_run no_logs logs input m n in
    subst (λ (now : MachineState). RunPasses core m (run_events input m n) now) same.machine (unlogged_pass input m n core within covers)

-- ---- the trace

lines_joined : (xs ys : List Event) → trace_lines (xs ++ ys) ≡ trace_lines xs ++ trace_lines ys
unfolding trace_lines
lines_joined [] ys = refl
lines_joined (x ∷ xs) ys =
    ap (λ (bytes : List ℕ). line x ++ (10 ∷ bytes)) (lines_joined xs ys) ∙ sym (append_assoc (line x) (10 ∷ trace_lines xs) (trace_lines ys))

appended : (name bytes lines : List ℕ) (held : Held) → held name ≡ Some bytes → filed_by (Append name lines) held name ≡ Some (bytes ++ lines)
appended name bytes lines held is =
    with_file_named name (file_of held name ++ lines) held ∙ ap (λ (content : Option (List ℕ)). Some (unwrap_or content [] ++ lines)) is

turn_filed : (name bytes lines : List ℕ) (held : Held) (to : ℕ) → held name ≡ Some bytes → (console : List ℕ) → filed (ReadTo to ∷ (send_acts console ++ Append name lines ∷ [])) held name ≡ Some (bytes ++ lines)
unfolding filed
turn_filed name bytes lines held to is [] = appended name bytes lines held is
turn_filed name bytes lines held to is (byte ∷ console) = appended name bytes lines held is

filed_on : (name input : List ℕ) (held : Held) (events : List Event) (r : Ran) → filed r.acts held name ≡ Some (trace_lines events) → (end : TurnEnd) → filed (goes_on (traced_to name) input r end).acts held name ≡ Some (trace_lines (events ++ next_events input r.machine end))
filed_on name input held events r is Goes =
    let t : Turned = turn_on input r.machine in
    ap (λ (files : Held). files name) (filed_joined r.acts (turn_acts (traced_to name) r.machine t) held)
    ∙ turn_filed name (trace_lines events) (trace_lines t.events) (filed r.acts held) _ is t.console
    ∙ ap (λ (bytes : List ℕ). Some bytes) (sym (lines_joined events t.events))
filed_on name input held events r is (Ended code) = is ∙ ap (λ (es : List Event). Some (trace_lines es)) (sym (append-nil events))
filed_on name input held events r is (BadHost word) = is ∙ ap (λ (es : List Event). Some (trace_lines es)) (sym (append-nil events))

run_filed : (name input : List ℕ) (m : MachineState) (n : ℕ) (held : Held) → held name ≡ Some [] → filed (run (traced_to name) input m n).acts held name ≡ Some (trace_lines (run_events input m n))
unfolding filed run run_events trace_lines
run_filed name input m zero held is = is
run_filed name input m (suc n) held is =
    let same = same_run (traced_to name) no_logs input m n in
    let r : Ran = run (traced_to name) input m n in
    let u : Ran = run no_logs input m n in
    filed_on name input held (run_events input m n) r (run_filed name input m n held is) r.last
    ∙ ap (λ (now : MachineState). Some (trace_lines (run_events input m n ++ next_events input now r.last))) same.machine
    ∙ ap (λ (end : TurnEnd). Some (trace_lines (run_events input m n ++ next_events input u.machine end))) same.last

pub trace_is_events_lem : TraceIsEvents
unfolding filed
trace_is_events_lem name input m n held = run_filed name input m n (with_file name [] held) (with_file_named name [] held)
