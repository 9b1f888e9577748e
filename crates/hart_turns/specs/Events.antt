-- The events that are kept of a turn.
use Rattle.std.specs.Prelude.{ℕ, Bool, true, false, List, [], ◌∷◌, ◌++◌}
use Rattle.hart_step.specs.declared.event.Event.{Event}

-- the events, and how many there is room for
pub record EventsState : Type 0 where
  pub items : List Event
  pub room : ℕ

-- the events after one more, where events are kept or not
abbrev pub with_event : Bool → List Event → Event → List Event
with_event true events event = events ++ event ∷ []
with_event false events event = events
