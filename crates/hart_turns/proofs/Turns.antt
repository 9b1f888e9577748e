-- A turn, by its progress and its end.
use Rattle.std.proofs.Common.{◌≡◌, ℕ, Bool, true, false, if◌then◌else◌, [], Option, refl, ap, sym, ◌∙◌}
use Rattle.hart_turns.specs.declared.machine.TurnEnd.{TurnEnd}
use Rattle.hart_turns.specs.declared.machine.TurnEnd.TheVariants.{Goes, Ended, BadHost}
use Rattle.hart_turns.specs.Kept.{kept}
use Rattle.hart_turns.specs.Machine.{MachineState}
use Rattle.hart_turns.specs.Turn.{Progress, Turned, begins, closed, end_of, looked_after, turned, turned_to, window_after}

-- this progress and this end are those of a turn, whose events were kept or not
pub record IsTurn (keeps : Bool) (m : MachineState) (offered : Option ℕ) (p : Progress) (end : TurnEnd) : Type 0 where
  pub end_is : end ≡ (turned m offered).end
  pub machine_is : closed m offered p end ≡ (turned m offered).machine
  pub console_is : p.console ≡ (turned m offered).console
  pub events_are : p.events ≡ (if keeps then (turned m offered).events else [])

-- the progress of a machine's turn after its steps and the look at the window, and its end
abbrev pub looked : MachineState → Progress
looked m = looked_after m.shape.harts m.shape.slice m.shape.tohost (begins m)

abbrev pub ending : MachineState → TurnEnd
ending m = end_of (window_after m.shape.harts m.shape.slice m.shape.tohost (begins m))

turned_is : (m : MachineState) (offered : Option ℕ) (end : TurnEnd) → end ≡ ending m → turned m offered ≡ turned_to m offered (looked m) end
unfolding turned
turned_is m offered end end_is = rw end_is refl

-- the machine after a turn has no events
closed_same : (m : MachineState) (offered : Option ℕ) (p : Progress) (end : TurnEnd) → closed m offered (record p { events = [] }) end ≡ closed m offered p end
closed_same m offered p Goes = refl
closed_same m offered p (Ended code) = refl
closed_same m offered p (BadHost word) = refl

pub turn_is : (keeps : Bool) (m : MachineState) (offered : Option ℕ) (p : Progress) (end : TurnEnd) → end ≡ ending m → p ≡ kept keeps [] (looked m) → IsTurn keeps m offered p end
turn_is true m offered p end end_is p_is =
    let now = turned_is m offered end end_is in
    record {
      end_is = sym (ap (λ (t : Turned). t.end) now);
      machine_is = ap (λ (q : Progress). closed m offered q end) p_is ∙ sym (ap (λ (t : Turned). t.machine) now);
      console_is = ap (λ (q : Progress). q.console) p_is ∙ sym (ap (λ (t : Turned). t.console) now);
      events_are = ap (λ (q : Progress). q.events) p_is ∙ sym (ap (λ (t : Turned). t.events) now);
    }
turn_is false m offered p end end_is p_is =
    let now = turned_is m offered end end_is in
    record {
      end_is = sym (ap (λ (t : Turned). t.end) now);
      machine_is = ap (λ (q : Progress). closed m offered q end) p_is ∙ closed_same m offered (looked m) end ∙ sym (ap (λ (t : Turned). t.machine) now);
      console_is = ap (λ (q : Progress). q.console) p_is ∙ sym (ap (λ (t : Turned). t.console) now);
      events_are = ap (λ (q : Progress). q.events) p_is;
    }
