-- No step of a turn reads the events of the turn: what it leaves beside them does not depend on them.
use Rattle.std.proofs.Common.{◌≡◌, ℕ, zero, suc, Bool, true, false, List, [], refl, ap, sym, ◌∙◌}
use Rattle.board_bus.specs.Window.{host_says}
use Rattle.board_bus.specs.declared.window.HostSays.{HostSays}
use Rattle.board_bus.specs.declared.window.HostSays.TheVariants.{Nothing, End, Send, Bad}
use Rattle.hart_step.specs.declared.event.Event.{Event}
use Rattle.hart_turns.specs.Kept.{kept}
use Rattle.hart_turns.specs.Turn.{Progress, after_window, all_steps, hart_steps, looked_after, one_step, turn_start, window_after}

-- a progress with these events
abbrev with_events : Progress → List Event → Progress
with_events p events = record p { events = events }

-- what goes on from a progress reads no events
abbrev pub IsBlind : (Progress → Progress) → Type 0
IsBlind go = (p : Progress) (events : List Event) → with_events (go (with_events p events)) [] ≡ with_events (go p) []

pub one_blind : (h : ℕ) → IsBlind (one_step h)
unfolding one_step
one_blind h p events = refl

-- nor does one such thing after another
both_blind : (first then : Progress → Progress) → IsBlind first → IsBlind then → IsBlind (λ p. then (first p))
both_blind first then one two p events =
    sym (two (first (with_events p events)) [])
    ∙ ap (λ (q : Progress). with_events (then q) []) (one p events)
    ∙ two (first p) []

pub steps_blind : (h n : ℕ) → IsBlind (hart_steps h n)
unfolding hart_steps
steps_blind h zero p events = refl
steps_blind h (suc n) p events = both_blind (hart_steps h n) (one_step h) (steps_blind h n) (one_blind h) p events

pub window_blind : (tohost : ℕ) (says : HostSays) → IsBlind (after_window tohost says)
window_blind tohost Nothing p events = refl
window_blind tohost (End code) p events = refl
window_blind tohost (Bad word) p events = refl
window_blind tohost (Send byte) p events = refl

-- ---- what is kept of one thing after another

pub kept_on : (keeps : Bool) (go : Progress → Progress) → IsBlind go → (p b c : Progress) (events : List Event) → b ≡ kept keeps events p → c ≡ kept keeps b.events (go b) → c ≡ kept keeps events (go p)
kept_on true go blind p b c events first then = then ∙ ap go first
kept_on false go blind p b c events first then =
    then
    ∙ ap (λ (q : Progress). with_events (go q) q.events) first
    ∙ ap (λ (q : Progress). with_events q events) (blind p events)

kept_core : (keeps : Bool) (events : List Event) (p : Progress) → (kept keeps events p).core ≡ p.core
kept_core true events p = refl
kept_core false events p = refl

-- the progress of a turn before its steps, after them and after the look at the window
pub record Looks (keeps : Bool) (harts slice tohost : ℕ) (start before stepped looked : Progress) : Type 0 where
  pub begun_is : before ≡ turn_start start
  pub steps_are : stepped ≡ kept keeps before.events (all_steps harts slice before)
  pub looked_is : looked ≡ kept keeps stepped.events (after_window tohost (host_says tohost stepped.core.ram) stepped)

stepped_is : (keeps : Bool) (harts slice tohost : ℕ) (start before stepped looked : Progress) → Looks keeps harts slice tohost start before stepped looked → stepped ≡ kept keeps [] (all_steps harts slice (turn_start start))
stepped_is keeps harts slice tohost start before stepped looked looks =
    looks.steps_are ∙ ap (λ (q : Progress). kept keeps q.events (all_steps harts slice q)) looks.begun_is

pub says_same : (keeps : Bool) (harts slice tohost : ℕ) (start before stepped looked : Progress) → Looks keeps harts slice tohost start before stepped looked → host_says tohost stepped.core.ram ≡ window_after harts slice tohost start
says_same keeps harts slice tohost start before stepped looked looks =
    let ran = stepped_is keeps harts slice tohost start before stepped looked looks in
    ap (λ (q : Progress). host_says tohost q.core.ram) ran
    ∙ ap (λ core. host_says tohost core.ram) (kept_core keeps [] (all_steps harts slice (turn_start start)))

pub looked_kept : (keeps : Bool) (harts slice tohost : ℕ) (start before stepped looked : Progress) → Looks keeps harts slice tohost start before stepped looked → looked ≡ kept keeps [] (looked_after harts slice tohost start)
looked_kept keeps harts slice tohost start before stepped looked looks =
    let says = says_same keeps harts slice tohost start before stepped looked looks in
    kept_on keeps (after_window tohost (window_after harts slice tohost start)) (window_blind tohost (window_after harts slice tohost start))
    (all_steps harts slice (turn_start start)) stepped looked []
    (stepped_is keeps harts slice tohost start before stepped looked looks)
    (looks.looked_is ∙ ap (λ (s : HostSays). kept keeps stepped.events (after_window tohost s stepped)) says)
