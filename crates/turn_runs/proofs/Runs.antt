-- A run of the code, and one turn more of it.
use Rattle.std.proofs.Common.{◌≡◌, ◌≢◌, ℕ, zero, suc, ◌+◌, ◌-◌, ◌≤◌, List, [], ◌++◌, Option, Some, None, refl, sym, ap, subst, ◌∙◌, append_assoc, add-one, arith, inl, inr}
use Rattle.std.proofs.lemmas.List.{append-nil}
use Rattle.hart_turns.specs.declared.machine.TurnEnd.{TurnEnd}
use Rattle.hart_turns.specs.declared.machine.TurnEnd.TheVariants.{Goes, Ended, BadHost}
use Rattle.hart_turns.specs.Machine.{MachineState}
use Rattle.outside_io.specs.Content.{IsHeld}
use Rattle.outside_acts.specs.declared.Stop.{Stop}
use Rattle.outside_acts.specs.Acts.{Act, DidCut, read}
use Rattle.outside_acts.specs.World.{World}
use Rattle.outside_acts.proofs.Algebra.{did_both, did_cut_later, did_cut_sooner, did_none, read_joined, read_none}
use Rattle.turn_runs.specs.declared.feed.Feed.{Feed}
use Rattle.turn_runs.specs.Feeding.{IsFedFrom}
use Rattle.job_words.specs.Job.{Logs}
use Rattle.turn_runs.specs.Reaching.{HasTurned, HoldsLogs, HoldsNamed, IsRun, IsShown, MayHaveTurned, Reached}
use Rattle.turn_runs.specs.Run.{Ran, after_turn, goes_on, run, turn_acts, turn_on}

-- ---- runs of the definitions

run_next : (logs : Logs) (bytes : List ℕ) (m : MachineState) (k : ℕ)
    → run logs bytes m (k + 1) ≡ goes_on logs bytes (run logs bytes m k) (run logs bytes m k).last
unfolding run
run_next logs bytes m k = rw add-one refl

run_more : (logs : Logs) (bytes : List ℕ) (m : MachineState) (k : ℕ) → (run logs bytes m k).last ≡ Goes
    → run logs bytes m (k + 1) ≡ after_turn logs (run logs bytes m k) (turn_on bytes (run logs bytes m k).machine)
run_more logs bytes m k goes = run_next logs bytes m k ∙ ap (goes_on logs bytes (run logs bytes m k)) goes

-- a run that has ended stays
stays : (logs : Logs) (bytes : List ℕ) (ran : Ran) (end : TurnEnd) → end ≢ Goes → goes_on logs bytes ran end ≡ ran
stays logs bytes ran Goes ends = absurd (ends refl)
stays logs bytes ran (Ended code) ends = refl
stays logs bytes ran (BadHost word) ends = refl

run_stays : (logs : Logs) (bytes : List ℕ) (m : MachineState) (k n : ℕ) → (run logs bytes m k).last ≢ Goes
    → run logs bytes m (n + k) ≡ run logs bytes m k
run_stays logs bytes m k zero ends = ap (λ (i : ℕ). run logs bytes m i) (omega arith)
run_stays logs bytes m k (suc n) ends =
    let more : suc n + k ≡ (n + k) + 1 = omega arith in
    ap (λ (i : ℕ). run logs bytes m i) more
    ∙ run_next logs bytes m (n + k)
    ∙ ap (λ (r : Ran). goes_on logs bytes r r.last) (run_stays logs bytes m k n ends)
    ∙ stays logs bytes (run logs bytes m k) _ ends

ended_run : (logs : Logs) (bytes : List ℕ) (m : MachineState) (k n : ℕ) → k ≤ n → (run logs bytes m k).last ≢ Goes
    → run logs bytes m n ≡ run logs bytes m k
ended_run logs bytes m k n within ends =
    let whole : n ≡ n - k + k = omega arith in
    ap (λ (i : ℕ). run logs bytes m i) whole ∙ run_stays logs bytes m k (n - k) ends

-- the longer list begins with the shorter one
abbrev Longer : List Act → List Act → Type 0
Longer short long = (more : List Act) × (long ≡ short ++ more)

longer_same : (a : List Act) → Longer a a
longer_same a = ([], sym (append-nil a))

longer_more : (a b c : List Act) → Longer a b → Longer b c → Longer a c
longer_more a b c (xs, first) (ys, second) =
    (xs ++ ys, second ∙ ap (λ (zs : List Act). zs ++ ys) first ∙ append_assoc a xs ys)

grows_on : (logs : Logs) (bytes : List ℕ) (ran : Ran) (end : TurnEnd) → Longer ran.acts (goes_on logs bytes ran end).acts
grows_on logs bytes ran Goes = (turn_acts logs ran.machine (turn_on bytes ran.machine), refl)
grows_on logs bytes ran (Ended code) = longer_same ran.acts
grows_on logs bytes ran (BadHost word) = longer_same ran.acts

-- the acts of a run begin with those of one of fewer turns
run_grows : (logs : Logs) (bytes : List ℕ) (m : MachineState) (k n i : ℕ) → i ≡ n + k
    → Longer (run logs bytes m k).acts (run logs bytes m i).acts
run_grows logs bytes m k zero i is =
    let same : k ≡ i = omega arith in
    subst (λ (j : ℕ). Longer (run logs bytes m k).acts (run logs bytes m j).acts) same (longer_same (run logs bytes m k).acts)
run_grows logs bytes m k (suc n) i is =
    let before : Ran = run logs bytes m (n + k) in
    let next : i ≡ (n + k) + 1 = omega arith in
    let last : run logs bytes m i ≡ goes_on logs bytes before before.last =
    ap (λ (j : ℕ). run logs bytes m j) next ∙ run_next logs bytes m (n + k) in
    let one : Longer before.acts (run logs bytes m i).acts =
    subst (λ (r : Ran). Longer before.acts r.acts) (sym last) (grows_on logs bytes before before.last) in
    longer_more _ _ _ (run_grows logs bytes m k n (n + k) refl) one

acts_grow : (logs : Logs) (bytes : List ℕ) (m : MachineState) (k n : ℕ) → k ≤ n
    → Longer (run logs bytes m k).acts (run logs bytes m n).acts
acts_grow logs bytes m k n within = run_grows logs bytes m k (n - k) n (omega arith)

-- ---- runs of the code

pub run_first : (logs : Logs) {bytes : List ℕ} {from : ℕ} {m : MachineState} {feed : Feed} {a : World}
    → IsFedFrom bytes m.taken from feed a.left → IsRun bytes from (run logs bytes m 0) m 0 Goes feed a a
unfolding run
run_first logs {bytes} {from} {m} {feed} {a} fed = record {
  made_is = refl;
  end_is = refl;
  reached = record {
    machine = refl;
    fed = subst (λ (n : ℕ). IsFedFrom bytes m.taken n feed a.left) (sym (read_none from)) fed;
    did = did_none a fed.left_from;
  };
}

-- acts were done, and then more acts from where they led
pub reached_both : {bytes : List ℕ} {from : ℕ} {xs ys : List Act} {m mid last now : MachineState} {feed feed' : Feed}
    {a b c : World} → Reached bytes from xs m mid feed a b → Reached bytes (read xs from) ys last now feed' b c
    → Reached bytes from (xs ++ ys) last now feed' a c
reached_both {bytes} {from} {xs} {ys} {now = now} {feed' = feed'} {c = c} first second = record {
  machine = second.machine;
  fed = subst (λ (n : ℕ). IsFedFrom bytes now.taken n feed' c.left) (sym (read_joined xs ys from)) second.fed;
  did = did_both first.did second.did;
}

-- one turn more of a run that goes on
pub run_step : (logs : Logs) (bytes : List ℕ) (from : ℕ) (start : MachineState) (k : ℕ) {m now : MachineState}
    {end : TurnEnd} {feed feed' : Feed} {a b c : World} → IsRun bytes from (run logs bytes start k) m k Goes feed a b
    → IsShown logs bytes (read (run logs bytes start k).acts from) m now end feed' b c
    → IsRun bytes from (run logs bytes start (k + 1)) now (k + 1) end feed' a c
run_step logs bytes from start k {m} {now} {end} {feed} {feed'} {a} {b} {c} stands shown =
    let ran : Ran = run logs bytes start k in
    let more = run_more logs bytes start k (sym stands.end_is) in
    let here : IsShown logs bytes (read ran.acts from) ran.machine now end feed' b c =
    subst (λ (x : MachineState). IsShown logs bytes (read ran.acts from) x now end feed' b c) stands.reached.machine shown in
    subst (λ (r : Ran). IsRun bytes from r now (k + 1) end feed' a c) (sym more)
    (record {
      made_is = ap (λ (n : ℕ). n + 1) stands.made_is;
      end_is = here.end_is;
      reached = reached_both stands.reached here.reached;
    })

-- a turn that was cut
pub run_cut : (logs : Logs) (bytes : List ℕ) (from : ℕ) (start : MachineState) (k n : ℕ) {stop : Stop} {m : MachineState}
    {feed : Feed} {a b c : World} → k + 1 ≤ n → IsRun bytes from (run logs bytes start k) m k Goes feed a b
    → DidCut stop bytes (read (run logs bytes start k).acts from) (turn_acts logs m (turn_on bytes m)) b c
    → DidCut stop bytes from (run logs bytes start n).acts a c
run_cut logs bytes from start k n {stop} {m} {feed} {a} {b} {c} within stands cut =
    let ran : Ran = run logs bytes start k in
    let more = run_more logs bytes start k (sym stands.end_is) in
    let longer = acts_grow logs bytes start (k + 1) n within in
    let acts_of : MachineState → List Act = λ x. turn_acts logs x (turn_on bytes x) in
    let here : DidCut stop bytes (read ran.acts from) (acts_of ran.machine) b c =
    subst (λ (x : MachineState). DidCut stop bytes (read ran.acts from) (acts_of x) b c) stands.reached.machine cut in
    let next : DidCut stop bytes from (run logs bytes start (k + 1)).acts a c =
    subst (λ (r : Ran). DidCut stop bytes from r.acts a c) (sym more) (did_cut_later stands.reached.did here) in
    subst (λ (acts : List Act). DidCut stop bytes from acts a c) (sym longer.1) (did_cut_sooner longer.0 next)

-- a turn of which nothing or all was made
pub run_stops : (logs : Logs) (bytes : List ℕ) (from : ℕ) (start : MachineState) (k n : ℕ) {m now : MachineState}
    {feed : Feed} {a b : World} → k + 1 ≤ n → IsRun bytes from (run logs bytes start k) m k Goes feed a b
    → MayHaveTurned bytes m now → HasTurned logs bytes start n now
run_stops logs bytes from start k n within stands (inl same) =
    record { made = k; within = omega (arith, within); machine = same ∙ stands.reached.machine }
run_stops logs bytes from start k n {m} {now} within stands (inr turned) =
    let more = run_more logs bytes start k (sym stands.end_is) in
    record {
      made = k + 1;
      within = within;
      machine = turned ∙ ap (λ (x : MachineState). (turn_on bytes x).machine) stands.reached.machine
          ∙ sym (ap (λ (r : Ran). r.machine) more);
    }

-- a run that has ended
pub run_ends : (logs : Logs) (bytes : List ℕ) (from : ℕ) (start : MachineState) (k n : ℕ) {now : MachineState}
    {end : TurnEnd} {feed : Feed} {a b : World} → k ≤ n → end ≢ Goes
    → IsRun bytes from (run logs bytes start k) now k end feed a b
    → IsRun bytes from (run logs bytes start n) now k end feed a b
run_ends logs bytes from start k n {now} {end} {feed} {a} {b} within ends ran =
    let same = ended_run logs bytes start k n within (λ goes. ends (ran.end_is ∙ goes)) in
    subst (λ (r : Ran). IsRun bytes from r now k end feed a b) (sym same) ran

-- a run that has made all its turns
pub run_all : (logs : Logs) (bytes : List ℕ) (from : ℕ) (start : MachineState) (k n : ℕ) {now : MachineState}
    {end : TurnEnd} {feed : Feed} {a b : World} → k ≡ n → IsRun bytes from (run logs bytes start k) now k end feed a b
    → IsRun bytes from (run logs bytes start n) now n end feed a b
run_all logs bytes from start k n {now} {end} {feed} {a} {b} is stands =
    subst (λ (i : ℕ). IsRun bytes from (run logs bytes start i) now i end feed a b) is stands

pub goes_at : {bytes : List ℕ} {from made : ℕ} {ran : Ran} {now : MachineState} {end : TurnEnd} {feed : Feed}
    {a b : World} → end ≡ Goes → IsRun bytes from ran now made end feed a b → IsRun bytes from ran now made Goes feed a b
goes_at {bytes} {from} {made} {ran} {now} {end} {feed} {a} {b} goes stands =
    subst (λ (e : TurnEnd). IsRun bytes from ran now made e feed a b) goes stands

-- ---- logs

held_named : (file : Option (List ℕ)) (a b : World) → ((name : List ℕ) → IsHeld a.held name → IsHeld b.held name)
    → HoldsNamed file a → HoldsNamed file b
held_named None a b keeps holds = tt
held_named (Some name) a b keeps holds = keeps name holds

-- the files of logs stay held
pub held_logs : (logs : Logs) (a b : World) → ((name : List ℕ) → IsHeld a.held name → IsHeld b.held name)
    → HoldsLogs logs a → HoldsLogs logs b
held_logs logs a b keeps holds = held_named logs.trace a b keeps holds
