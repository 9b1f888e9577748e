-- Every event of a run of a well-formed machine has a spelling.
use Rattle.std.proofs.Common.{ℕ, zero, suc, ◌<◌, ◌≤◌, List, [], ◌∷◌, ◌++◌, length, Option, IfSome, sym, subst, arith, inl, inr, slice_get}
use Rattle.std.proofs.lemmas.List.Elements.{All-from_recursion}
use Rattle.std.proofs.lemmas.Option.{slice_get_cases}
use Rattle.guest_ram.specs.Bytes.{most_bytes}
use Rattle.sim_config.specs.declared.values.Shape.{Shape}
use Rattle.board_bus.specs.declared.window.HostSays.{HostSays}
use Rattle.board_bus.specs.declared.window.HostSays.TheVariants.{Nothing, End, Send, Bad}
use Rattle.hart_step.specs.declared.event.Event.{Event}
use Rattle.hart_step.specs.Fit.{AreBytes}
use Rattle.hart_step.specs.Harts.{hart_of}
use Rattle.hart_step.proofs.FitValues.{number_below}
use Rattle.hart_turns.specs.declared.machine.TurnEnd.{TurnEnd}
use Rattle.hart_turns.specs.declared.machine.TurnEnd.TheVariants.{Goes, Ended, BadHost}
use Rattle.hart_turns.specs.Fit.{IsFit}
use Rattle.hart_turns.specs.FitLaws.{AreFit}
use Rattle.hart_turns.specs.Gives.{board_gives}
use Rattle.hart_turns.specs.Machine.{MachineState}
use Rattle.hart_turns.specs.Turn.{Progress, after_window, all_steps, begins, hart_steps, one_step, turned, window_after}
use Rattle.hart_turns.proofs.Allowed.{board_is_allowed_lem}
use Rattle.hart_turns.proofs.Fits.{board_steps_stay_fit_lem, parts_of, turns_stay_fit_lem}
use Rattle.turn_runs.specs.Run.{Ran, goes_on, no_logs, run}
use Rattle.trace_law.specs.Runs.{next_events, run_events}
use Rattle.trace_law.specs.Traces.{EventsSpelled, TracesPass}
use Rattle.trace_law.proofs.Runs.{unlogged_pass}
use Rattle.trace_law.proofs.ShownSteps.{step_shown}
use Rattle.trace_law.proofs.Traces.{AllSpelled, events_pass}

all_joined : (xs ys : List Event) → AllSpelled xs → AllSpelled ys → AllSpelled (xs ++ ys)
all_joined [] ys first second = second
all_joined (x ∷ xs) ys first second = (first.0, all_joined xs ys first.1 second)

-- ---- a turn

-- a machine within a turn is well formed, and the events so far have spellings
record Spells (shape : Shape) (p : Progress) : Type 0 where
  are : AreFit shape p.core p.board
  all : AllSpelled p.events

one_spells : (shape : Shape) (h : ℕ) (p : Progress) → h < shape.harts → Spells shape p → Spells shape (one_step h p)
unfolding one_step
one_spells shape h p within s =
    let inside : h < length p.core.harts = subst (λ (n : ℕ). h < n) (sym s.are.parts.harts) within in
    let room : length p.core.ram ≤ most_bytes = subst (λ (n : ℕ). n ≤ most_bytes) (sym s.are.parts.ram) s.are.parts.shape_fit.ram.most in
    let shown = step_shown (board_gives p.board h (hart_of p.core h)) p.core h s.are.harts room inside (board_is_allowed_lem p.board h (hart_of p.core h)) in
    record { are = board_steps_stay_fit_lem shape p.core p.board h s.are inside; all = all_joined p.events _ s.all (shown, tt) }

hart_spells : (shape : Shape) (h n : ℕ) (p : Progress) → h < shape.harts → Spells shape p → Spells shape (hart_steps h n p)
unfolding hart_steps
hart_spells shape h zero p within s = s
hart_spells shape h (suc n) p within s = one_spells shape h (hart_steps h n p) within (hart_spells shape h n p within s)

all_spell : (shape : Shape) (h n : ℕ) (p : Progress) → h ≤ shape.harts → Spells shape p → Spells shape (all_steps h n p)
unfolding all_steps
all_spell shape zero n p most s = s
all_spell shape (suc h) n p most s = hart_spells shape h n (all_steps h n p) (omega (arith, most)) (all_spell shape h n p (omega (arith, most)) s)

window_spells : (shape : Shape) (tohost : ℕ) (says : HostSays) (p : Progress) → Spells shape p → AllSpelled (after_window tohost says p).events
window_spells shape tohost Nothing p s = s.all
window_spells shape tohost (End code) p s = s.all
window_spells shape tohost (Bad word) p s = s.all
window_spells shape tohost (Send byte) p s = all_joined p.events _ s.all ((tt, number_below p.core.ram tohost 8 s.are.harts.ram), tt)

turn_spells : (m : MachineState) (offered : Option ℕ) → IsFit m → AllSpelled (turned m offered).events
unfolding turned
turn_spells m offered fit =
    let stepped : Progress = all_steps m.shape.harts m.shape.slice (begins m) in
    window_spells m.shape m.shape.tohost (window_after m.shape.harts m.shape.slice m.shape.tohost (begins m)) stepped
    (all_spell m.shape m.shape.harts m.shape.slice (begins m) (omega arith) (record { are = parts_of m fit; all = tt }))

-- ---- a run

-- a byte that is offered is one of the input
offered_below : (input : List ℕ) (k : ℕ) → AreBytes input → IfSome (slice_get input k) (λ byte. byte < 256)
offered_below input k are = elim (slice_get_cases input k).1 [
  | inl w ↦ subst (λ (o : Option ℕ). IfSome o (λ byte. byte < 256)) (sym w.2) (subst (λ (b : ℕ). b < 256) w.3 (are k w.0 w.1))
  | inr w ↦ subst (λ (o : Option ℕ). IfSome o (λ byte. byte < 256)) (sym w.1) tt
]

-- a machine that has run is well formed, and all events have spellings
record RunSpells (events : List Event) (now : MachineState) : Type 0 where
  fit : IsFit now
  all : AllSpelled events

by_end : (input : List ℕ) (events : List Event) (r : Ran) → AreBytes input → RunSpells events r.machine → (end : TurnEnd) → RunSpells (events ++ next_events input r.machine end) (goes_on no_logs input r end).machine
by_end input events r are s Goes = record {
  fit = turns_stay_fit_lem r.machine (slice_get input r.machine.taken) s.fit (offered_below input r.machine.taken are);
  all = all_joined events _ s.all (turn_spells r.machine (slice_get input r.machine.taken) s.fit);
}
by_end input events r are s (Ended code) = record { fit = s.fit; all = all_joined events [] s.all tt }
by_end input events r are s (BadHost word) = record { fit = s.fit; all = all_joined events [] s.all tt }

run_spells : (input : List ℕ) (m : MachineState) (n : ℕ) → AreBytes input → IsFit m → RunSpells (run_events input m n) (run no_logs input m n).machine
unfolding run run_events
run_spells input m zero are fit = record { fit = fit; all = tt }
run_spells input m (suc n) are fit = by_end input (run_events input m n) (run no_logs input m n) are (run_spells input m n are fit) (run no_logs input m n).last

pub events_spelled_lem : EventsSpelled
events_spelled_lem input m n are fit = let s = run_spells input m n are fit in All-from_recursion _ _ s.all

-- ---- its trace

pub traces_pass_lem : TracesPass
traces_pass_lem input m n core are fit covers =
    let s = run_spells input m n are fit in
    let within : m.shape.harts ≤ length m.core.harts = let harts = fit.shape.harts in omega (arith, harts) in
    let passes = unlogged_pass input m n core within covers in
    events_pass core passes.past m.shape.tohost (run_events input m n) s.all passes.allowed
