-- One step of the machine, by what the step of its core says.
use Rattle.std.proofs.Common.{◌≡◌, ℕ, ◌+◌, ◌≤◌, Bool, true, false, List, [], ◌∷◌, ◌++◌, length, refl, ap, sym, ◌∙◌, subst, arith}
use Rattle.std.proofs.lemmas.List.{append-nil, length-append}
use Rattle.board_bus.specs.Board.{hart_count}
use Rattle.board_bus.specs.Laws.{LoadKeepsHarts, SendsAtMost, StoreKeepsHarts}
use Rattle.hart_step.specs.declared.event.Event.{Event}
use Rattle.hart_step.specs.Answers.{Access, Loads, Stores, Untouched, after_access}
use Rattle.hart_step.specs.Clauses.{CoreLeaves, step_by}
use Rattle.hart_step.specs.Step.{Answer}
use Rattle.hart_turns.specs.declared.surroundings.Surroundings.{Surroundings}
use Rattle.hart_turns.specs.declared.stepping.Stepping.{Stepping}
use Rattle.hart_turns.specs.Gives.{board_after, board_says, sent_by}
use Rattle.hart_turns.specs.Events.{with_event}
use Rattle.hart_turns.specs.Kept.{AfterSteps, outside_after, progress_of}
use Rattle.hart_turns.specs.Turn.{after_answer, one_step}

-- what a device access makes of what stands around the harts
record Accessed (o new : Surroundings) (ram : List ℕ) (access : Access) : Type 0 where
  board : new.board ≡ board_after o.board access
  bytes : new.output.bytes ≡ o.output.bytes ++ sent_by ram o.board access
  room : new.output.room ≡ o.output.room
  harts : hart_count new.board ≡ hart_count o.board
  short : length new.output.bytes ≤ length o.output.bytes + 256

accessed : LoadKeepsHarts → StoreKeepsHarts → SendsAtMost → (o : Surroundings) (h : ℕ) (ram : List ℕ) (access : Access) → Accessed o (after_access (λ s h. outside_after s) o h ram access) ram access
accessed loads stores sends o h ram Untouched = record { board = refl; bytes = sym (append-nil o.output.bytes); room = refl; harts = refl; short = omega arith }
accessed loads stores sends o h ram (Loads at size) = record { board = refl; bytes = refl; room = refl; harts = loads o.board at size; short = let sum = length-append o.output.bytes [] in omega arith }
accessed loads stores sends o h ram (Stores at size value) = record {
  board = refl;
  bytes = refl;
  room = refl;
  harts = stores o.board at size value;
  short = let most = sends ram o.board at size value in let sum = length-append o.output.bytes (sent_by ram o.board (Stores at size value)) in omega arith;
}

-- what a step of hart h does to a machine within a turn, but for its events
record Steps (before after : Stepping) (a : Answer) : Type 0 where
  access : Accessed before.outside after.outside after.core.ram a.access
  core : after.core ≡ a.core
  harts : length after.core.harts ≡ length before.core.harts
  ram : length after.core.ram ≡ length before.core.ram
  places : after.events.room ≡ before.events.room

made : (keeps : Bool) (before after : Stepping) (a : Answer) → Steps before after a → after.events.items ≡ with_event keeps before.events.items a.event → AfterSteps keeps before after (after_answer (progress_of before) a) 1
made true before after a s items = record {
  progress_is = let access = s.access in rw (access.board, access.bytes, items, s.core) refl;
  form = record { harts = s.harts; devices = s.access.harts; ram = s.ram; room = s.access.room; places = s.places };
  console = let short = s.access.short in omega arith;
  events = let long = ap length items ∙ length-append before.events.items (a.event ∷ []) in omega arith;
}
made false before after a s items = record {
  progress_is = let access = s.access in rw (access.board, access.bytes, items, s.core) refl;
  form = record { harts = s.harts; devices = s.access.harts; ram = s.ram; room = s.access.room; places = s.places };
  console = let short = s.access.short in omega arith;
  events = let long = ap length items in omega arith;
}

stepped : LoadKeepsHarts → StoreKeepsHarts → SendsAtMost → (before after : Stepping) (h : ℕ) (event : Event) → CoreLeaves (λ s h. outside_after s) before.outside after.outside h before.core after.core event (step_by (board_says before.outside.board h) before.core h) → after.events.room ≡ before.events.room → Steps before after (step_by (board_says before.outside.board h) before.core h)
stepped loads stores sends before after h event s places =
    let a : Answer = step_by (board_says before.outside.board h) before.core h in
    record {
      access = subst (λ (o : Surroundings). Accessed before.outside o after.core.ram a.access) (sym s.outside) (accessed loads stores sends before.outside h after.core.ram a.access);
      core = s.core_is;
      harts = s.harts;
      ram = s.ram;
      places = places;
    }

-- a step of hart h, whose event is kept or not
pub step_made : (keeps : Bool) → LoadKeepsHarts → StoreKeepsHarts → SendsAtMost → (before after : Stepping) (h : ℕ) (event : Event) → CoreLeaves (λ s h. outside_after s) before.outside after.outside h before.core after.core event (step_by (board_says before.outside.board h) before.core h) → after.events.items ≡ with_event keeps before.events.items (step_by (board_says before.outside.board h) before.core h).event → after.events.room ≡ before.events.room → AfterSteps keeps before after (one_step h (progress_of before)) 1
unfolding one_step
step_made keeps loads stores sends before after h event s items places =
    made keeps before after _ (stepped loads stores sends before after h event s places) items
