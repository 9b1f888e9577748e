-- The acts of one turn.
use Rattle.std.proofs.Common.{◌≡◌, ℕ, ◌+◌, ◌≤◌, Bool, not, ◌==◌, if◌then◌else◌, List, [], ◌∷◌, ◌++◌, length, drop, Option, Some, None, IsTrue, refl, sym, ap, subst, ◌∙◌, arith, inl}
use Rattle.hart_step.specs.declared.event.Event.{Event}
use Rattle.hart_turns.specs.declared.machine.TurnEnd.{TurnEnd}
use Rattle.hart_turns.specs.Machine.{MachineState, MachineView, is_running}
use Rattle.hart_turns.specs.Turn.{Turned, turned}
use Rattle.outside_acts.specs.declared.Stop.{Stop}
use Rattle.outside_acts.specs.declared.Stop.TheVariants.{NoMemory}
use Rattle.outside_acts.specs.Acts.{Act, ReadTo, Append, Did, DidCut, read}
use Rattle.outside_acts.specs.Calls.{Does, Stops}
use Rattle.outside_acts.specs.World.{World}
use Rattle.outside_acts.proofs.Algebra.{did_both, did_cut_later, did_cut_sooner, did_none, does_both, does_none, read_joined, read_one}
use Rattle.outside_acts.proofs.OneAct.{cut_one, did_read, read_stops}
use Rattle.turn_runs.specs.declared.feed.Feed.{Feed}
use Rattle.turn_runs.specs.Feeding.{Fills, IsFedFrom, ReadsNothing}
use Rattle.job_words.specs.Job.{Logs}
use Rattle.turn_runs.specs.Reaching.{IsShown, IsTurned, Reached}
use Rattle.turn_runs.specs.Run.{append_acts, log_acts, send_acts, trace_lines, turn_acts, turn_on}
use Rattle.turn_runs.proofs.Feeds.{offered_fed, took_by}

-- ---- the byte that a turn is offered

-- the input failed at it
pub turn_unread : {stop : Stop} {bytes : List ℕ} {taken from : ℕ} {feed : Feed} {a b : World} → ReadsNothing stop feed a b
    → IsFedFrom bytes taken from feed a.left → DidCut stop bytes from (ReadTo (taken + 1) ∷ []) a b
turn_unread {stop} {bytes} {taken} {from} {feed} {a} {b} reads fed =
    let same : from ≡ taken = fed.from_is reads.none reads.goes in
    subst (λ (s : Stop). DidCut s bytes from (ReadTo (taken + 1) ∷ []) a b) (sym reads.stop_is)
    (read_stops (omega (arith, same)) reads.rest reads.same fed.left_from)

-- ---- acts that do not read

send_unread : (console : List ℕ) (from : ℕ) → read (send_acts console) from ≡ from
unfolding read
send_unread [] from = refl
send_unread (b ∷ bs) from = refl

append_unread : (name : Option (List ℕ)) (lines : List ℕ) (from : ℕ) → read (append_acts name lines) from ≡ from
unfolding read
append_unread None lines from = refl
append_unread (Some name) lines from = refl

pub shown_unread : (logs : Logs) (t : Turned) (from : ℕ) → read (send_acts t.console ++ log_acts logs t.events) from ≡ from
shown_unread logs t from =
    read_joined (send_acts t.console) (log_acts logs t.events) from
    ∙ append_unread logs.trace _ _ ∙ send_unread t.console from

-- acts that read nothing more keep the place
pub reached_more : {bytes : List ℕ} {from : ℕ} {xs ys : List Act} {m now : MachineState} {feed : Feed} {a b c : World}
    → Reached bytes from xs m now feed a b → Does ys b c → read ys (read xs from) ≡ read xs from
    → Reached bytes from (xs ++ ys) m now feed a c
reached_more {bytes} {from} {xs} {ys} {m} {now} {feed} {a} {b} {c} stands does unread =
    let did = does bytes (read xs from) stands.did.left_is in
    let same : c.left ≡ b.left = did.left_is ∙ ap (λ (n : ℕ). Some (drop n bytes)) unread ∙ sym stands.did.left_is in
    let here : IsFedFrom bytes now.taken (read xs from) feed c.left =
    subst (λ (l : Option (List ℕ)). IsFedFrom bytes now.taken (read xs from) feed l) (sym same) stands.fed in
    let place : read (xs ++ ys) from ≡ read xs from = read_joined xs ys from ∙ unread in
    record {
      machine = stands.machine;
      fed = subst (λ (n : ℕ). IsFedFrom bytes now.taken n feed c.left) (sym place) here;
      did = did_both stands.did did;
    }

-- ---- the turn

-- a machine's answer to a turn that is offered this byte and logged so
pub record Turns (logs : Logs) (m : MachineState) (offered : Option ℕ) (view : MachineView) (end : TurnEnd) : Type 0 where
  pub end_is : end ≡ (turned m offered).end
  pub machine_is : view.machine ≡ (turned m offered).machine
  pub console_is : view.console ≡ (turned m offered).console
  pub logged_are : log_acts logs view.events ≡ log_acts logs (turned m offered).events
  pub least : m.taken ≤ view.machine.taken
  pub most : view.machine.taken ≤ m.taken + 1

pub turn_made : {logs : Logs} {bytes : List ℕ} {from : ℕ} {m : MachineState} {view : MachineView} {end : TurnEnd} {was : Bool}
    {feed filled now : Feed} {a b : World} → Fills feed filled a b → IsFedFrom bytes m.taken from feed a.left
    → Turns logs m filled.byte view end → was ≡ not (view.machine.taken == m.taken)
    → now.byte ≡ (if was then None else filled.byte) → now.ended ≡ filled.ended → IsTurned logs bytes from m view end now a b
turn_made {logs} {bytes} {from} {m} {view} {end} {was} {feed} {filled} {now} {a} {b} fills fed turns was_is byte ended =
    let whole = fills.filled bytes m.taken fed.fed in
    let on : turned m filled.byte ≡ turn_on bytes m = ap (λ (offered : Option ℕ). turned m offered) whole.next_is in
    let did : Did bytes from (ReadTo (m.taken + 1) ∷ []) a b = did_read from fills.rest whole.left_is in
    let taken : ℕ = view.machine.taken in
    record {
      end_is = turns.end_is ∙ ap (λ (t : Turned). t.end) on;
      console_is = turns.console_is ∙ ap (λ (t : Turned). t.console) on;
      logged_are = turns.logged_are ∙ ap (λ (t : Turned). log_acts logs t.events) on;
      reached = record {
        machine = turns.machine_is ∙ ap (λ (t : Turned). t.machine) on;
        fed = record {
          fed = offered_fed bytes m.taken taken was filled now b.left was_is turns.least turns.most whole byte ended;
          left_from = did.left_is;
          from_is = λ none goes.
              read_one (ReadTo (m.taken + 1)) from
              ∙ took_by m.taken taken was filled now was_is turns.least turns.most fills.ended byte ended none goes;
        };
        did = did;
      };
    }

-- a machine that is another one runs where that one does
pub runs_still : {now next : MachineState} → now ≡ next → IsTrue (is_running next) → IsTrue (is_running now)
runs_still is runs = subst (λ (m : MachineState). IsTrue (is_running m)) (sym is) runs

-- ---- a turn that is shown, or cut

sent_on : {logs : Logs} {bytes : List ℕ} {from : ℕ} {m : MachineState} {view : MachineView} {end : TurnEnd} {feed : Feed} {a b : World}
    (Says : List Act → Type 0) → IsTurned logs bytes from m view end feed a b → Says (send_acts view.console)
    → Says (send_acts (turn_on bytes m).console)
sent_on Says made says = subst (λ (zs : List ℕ). Says (send_acts zs)) made.console_is says

logged_on : {bytes : List ℕ} {from : ℕ} {m : MachineState} {view : MachineView} {end : TurnEnd} {feed : Feed}
    {a b : World} (logs : Logs) (Says : List Act → Type 0) → IsTurned logs bytes from m view end feed a b
    → Says (log_acts logs view.events) → Says (log_acts logs (turn_on bytes m).events)
logged_on logs Says made says = subst Says made.logged_are says

pub turn_shown : (logs : Logs) {bytes : List ℕ} {from : ℕ} {m : MachineState} {view : MachineView} {end : TurnEnd}
    {feed : Feed} {a b c d : World} → IsTurned logs bytes from m view end feed a b → Does (send_acts view.console) b c
    → Does (log_acts logs view.events) c d → IsShown logs bytes from m view.machine end feed a d
turn_shown logs {bytes} {from} {m} {b = b} {c = c} {d = d} made shown logged =
    let sent = sent_on (λ acts. Does acts b c) made shown in
    let added = logged_on logs (λ acts. Does acts c d) made logged in
    let unread = shown_unread logs (turn_on bytes m) _ in
    record { end_is = made.end_is; reached = reached_more made.reached (does_both sent added) unread }

-- the input failed
pub turn_unmade : (logs : Logs) {stop : Stop} {bytes : List ℕ} {from : ℕ} (m : MachineState) {a b : World}
    → DidCut stop bytes from (ReadTo (m.taken + 1) ∷ []) a b
    → DidCut stop bytes from (turn_acts logs m (turn_on bytes m)) a b
turn_unmade logs {bytes = bytes} m cut =
    let t : Turned = turn_on bytes m in
    did_cut_sooner (send_acts t.console ++ log_acts logs t.events) cut

-- the console failed, or memory lacked for its bytes
pub turn_unsent : (logs : Logs) {stop : Stop} {bytes : List ℕ} {from : ℕ} {m : MachineState} {view : MachineView}
    {end : TurnEnd} {feed : Feed} {a b c : World} → IsTurned logs bytes from m view end feed a b
    → Stops stop (send_acts view.console) b c → DidCut stop bytes from (turn_acts logs m (turn_on bytes m)) a c
turn_unsent logs {stop} {bytes} {m = m} {b = b} {c = c} made cut =
    let sent = sent_on (λ acts. Stops stop acts b c) made cut in
    did_cut_later made.reached.did
    (did_cut_sooner (log_acts logs (turn_on bytes m).events) (sent bytes _ made.reached.did.left_is))

-- a log failed, or memory lacked for its lines
pub turn_unlogged : (logs : Logs) {stop : Stop} {bytes : List ℕ} {from : ℕ} {m : MachineState} {view : MachineView}
    {end : TurnEnd} {feed : Feed} {a b c d : World} → IsTurned logs bytes from m view end feed a b
    → Does (send_acts view.console) b c → Stops stop (log_acts logs view.events) c d
    → DidCut stop bytes from (turn_acts logs m (turn_on bytes m)) a d
turn_unlogged logs {stop} {bytes} {b = b} {c = c} {d = d} made shown cut =
    let sent = sent_on (λ acts. Does acts b c) made shown in
    let logged = logged_on logs (λ acts. Stops stop acts c d) made cut in
    let after = sent bytes _ made.reached.did.left_is in
    did_cut_later made.reached.did (did_cut_later after (logged bytes _ after.left_is))

-- ---- nothing to do

pub sends_none : (console : List ℕ) (a : World) → length console ≡ 0 → Does (send_acts console) a a
sends_none [] a is = does_none a
sends_none (b ∷ bs) a is = absurd (omega arith)

-- there is no log
pub logs_same : (logs : Logs) (events others : List Event) → logs.trace ≡ None → log_acts logs events ≡ log_acts logs others
logs_same logs events others none =
    ap (λ (file : Option (List ℕ)). append_acts file (trace_lines events)) none
    ∙ sym (ap (λ (file : Option (List ℕ)). append_acts file (trace_lines others)) none)

pub logs_none : (logs : Logs) (events : List Event) (a : World) → logs.trace ≡ None → Does (log_acts logs events) a a
logs_none logs events a none =
    subst (λ (file : Option (List ℕ)). Does (append_acts file (trace_lines events)) a a) (sym none) (does_none a)

-- memory lacked for the lines of a log
pub lines_lack : (logs : Logs) (events : List Event) (name : List ℕ) (a : World) → logs.trace ≡ Some name
    → Stops NoMemory (log_acts logs events) a a
lines_lack logs events name a some =
    subst (λ (file : Option (List ℕ)). Stops NoMemory (append_acts file (trace_lines events)) a a) (sym some)
    (λ bytes from is. cut_one (Append name (trace_lines events)) tt (inl refl) (did_none a is))
