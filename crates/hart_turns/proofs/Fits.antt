-- What every step on the board, every turn and a clearing keep.
use Rattle.std.proofs.Common.{◌≡◌, inl, inr, ℕ, zero, suc, not, List, get_or, refl, ap, ◌<◌, ◌≤◌, Bool, true, false, if◌then◌else◌, Option, Some, None, IfSome, length, sym, subst, ◌∙◌, arith}
use Rattle.std.specs.Prelude.{is_none, nat_lt}
use Rattle.std.specs.List.{position_or_len}
use Rattle.std.proofs.lemmas.Bool.{cases_lt, false≢true, ltb-false, ltb-true, not-true}
use Rattle.std.proofs.lemmas.List.{get_or_past}
use Rattle.std.proofs.lemmas.List.Sums.{prefix_len_passes, prefix_len_stops}
use Rattle.sim_config.specs.declared.values.Shape.{Shape}
use Rattle.board_bus.specs.Board.{BoardState, IsFit as IsFitBoard, ticked}
use Rattle.board_bus.specs.declared.window.HostSays.{HostSays}
use Rattle.board_bus.specs.declared.window.HostSays.TheVariants.{Nothing, End, Send, Bad}
use Rattle.board_bus.proofs.Fits as devices
use Rattle.hart_step.specs.Answers.{Access, Loads, Stores, Untouched}
use Rattle.csr_file.specs.Kept.{reset_registers}
use Rattle.hart_step.specs.declared.hart.Hart.{Hart}
use Rattle.hart_step.specs.Harts.{CoreState, hart_of, is_in_debug, lowest_in_debug, reset_hart}
use Rattle.hart_step.specs.Laws.{StaysWellFormed, StepStaysFit}
use Rattle.hart_step.specs.Step.{host_cleared, unreserved}
use Rattle.hart_step.proofs.DebugResets.{debug_length}
use Rattle.hart_step.proofs.FitSteps as core_laws
use Rattle.hart_step.proofs.Lists.{reset_length}
use Rattle.hart_turns.specs.declared.machine.TurnEnd.{TurnEnd}
use Rattle.hart_turns.specs.declared.machine.TurnEnd.TheVariants.{Goes, Ended, BadHost}
use Rattle.hart_turns.specs.Fit.{IsFit}
use Rattle.hart_turns.specs.FitLaws.{AreFit, BoardStepsStayFit, ClearingStaysFit, DebugResetIsFit, ResetIsFit, TurnsStayFit, TurnsStayRunning}
use Rattle.hart_turns.specs.Gives.{board_after, board_gives, board_step}
use Rattle.hart_turns.specs.Machine.{MachineState, is_running}
use Rattle.hart_turns.specs.Turn.{Progress, after_window, all_steps, begins, closed, end_of, hart_steps, one_step, takes, turned, window_after}
use Rattle.hart_turns.proofs.Allowed.{board_is_allowed_lem}
use Rattle.hart_turns.proofs.Turns.{looked}

-- ---- one step

accessed : (b : BoardState) → IsFitBoard b → (access : Access) → devices.Stays b (board_after b access)
accessed b fit Untouched = devices.same b fit
accessed b fit (Loads at size) = devices.loads_stay b fit at size
accessed b fit (Stores at size value) = devices.stores_stay b fit at size value

-- a core and a board that were changed
changed : (shape : Shape) (core now : CoreState) (b after : BoardState) → AreFit shape core b → StaysWellFormed core now → devices.Stays b after → AreFit shape now after
changed shape core now b after are left moved = record {
  parts = record { shape_fit = are.parts.shape_fit; harts = left.harts ∙ are.parts.harts; devices = moved.harts ∙ are.parts.devices; ram = left.ram ∙ are.parts.ram };
  harts = left.fit;
  devices = moved.fit;
}

pub board_step_left : (shape : Shape) (core : CoreState) (board : BoardState) (h : ℕ) → AreFit shape core board → h < length core.harts → StepStaysFit core (board_step core board h)
board_step_left shape core board h are within =
    let hart : Hart = hart_of core h in
    core_laws.steps_stay_fit_lem (board_gives board h hart) core h are.harts within (board_is_allowed_lem board h hart)

pub board_steps_stay_fit_lem : BoardStepsStayFit
board_steps_stay_fit_lem shape core board h are within =
    let left : StepStaysFit core (board_step core board h) = board_step_left shape core board h are within in
    changed shape core _ board _ are left.core (accessed board are.devices (board_step core board h).access)

-- ---- the steps of a turn

-- a machine within a turn is well formed, and what was out of debug mode at its start is so still
pub record ProgressFits (shape : Shape) (start : CoreState) (p : Progress) : Type 0 where
  pub are : AreFit shape p.core p.board
  pub outside : (k : ℕ) → is_in_debug (hart_of start k) ≡ false → is_in_debug (hart_of p.core k) ≡ false

one_fits : (shape : Shape) (start : CoreState) (h : ℕ) (p : Progress) → h < shape.harts → ProgressFits shape start p → ProgressFits shape start (one_step h p)
unfolding one_step
one_fits shape start h p within fits =
    let inside : h < length p.core.harts = subst (λ (n : ℕ). h < n) (sym fits.are.parts.harts) within in
    let left : StepStaysFit p.core (board_step p.core p.board h) = board_step_left shape p.core p.board h fits.are inside in
    record { are = board_steps_stay_fit_lem shape p.core p.board h fits.are inside; outside = λ k out. left.core.outside k (fits.outside k out) }

hart_fits : (shape : Shape) (start : CoreState) (h n : ℕ) (p : Progress) → h < shape.harts → ProgressFits shape start p → ProgressFits shape start (hart_steps h n p)
unfolding hart_steps
hart_fits shape start h zero p within fits = fits
hart_fits shape start h (suc n) p within fits = one_fits shape start h (hart_steps h n p) within (hart_fits shape start h n p within fits)

pub all_fit : (shape : Shape) (start : CoreState) (h n : ℕ) (p : Progress) → h ≤ shape.harts → ProgressFits shape start p → ProgressFits shape start (all_steps h n p)
unfolding all_steps
all_fit shape start zero n p most fits = fits
all_fit shape start (suc h) n p most fits = hart_fits shape start h n (all_steps h n p) (omega (arith, most)) (all_fit shape start h n p (omega (arith, most)) fits)

-- ---- the window

window_fits : (shape : Shape) (start : CoreState) (tohost : ℕ) (says : HostSays) (p : Progress) → ProgressFits shape start p → ProgressFits shape start (after_window tohost says p)
window_fits shape start tohost Nothing p fits = fits
window_fits shape start tohost (End code) p fits = fits
window_fits shape start tohost (Bad word) p fits = fits
window_fits shape start tohost (Send byte) p fits =
    let left : StaysWellFormed p.core (host_cleared p.core tohost) = core_laws.host_stays_fit p.core tohost fits.are.harts in
    record {
      are = changed shape p.core (host_cleared p.core tohost) p.board p.board fits.are left (devices.same p.board fits.are.devices);
      outside = λ k out. left.outside k (fits.outside k out);
    }

-- ---- input and time

takes_fit : (offered : Option ℕ) (b : BoardState) → IfSome offered (λ byte. byte < 256) → IsFitBoard b → devices.Stays b (takes offered b)
takes_fit None b below fit = devices.same b fit
takes_fit (Some byte) b below fit = devices.enters_stay b fit byte below

-- a machine of these parts
pub whole : (m : MachineState) (core : CoreState) (board : BoardState) (taken : ℕ) → AreFit m.shape core board → IsFit (record { shape = m.shape; core = core; board = board; taken = taken })
whole m core board taken are = record { shape = are.parts; core = are.harts; board = are.devices }

pub parts_of : (m : MachineState) → IsFit m → AreFit m.shape m.core m.board
parts_of m fit = record { parts = fit.shape; harts = fit.core; devices = fit.board }

closed_fits : (m : MachineState) (offered : Option ℕ) (p : Progress) (end : TurnEnd) → IsFit m → IfSome offered (λ byte. byte < 256) → AreFit m.shape p.core p.board → IsFit (closed m offered p end)
closed_fits m offered p Goes fit offers are =
    let taken : devices.Stays p.board (takes offered p.board) = takes_fit offered p.board offers are.devices in
    let later : devices.Stays (takes offered p.board) (ticked (takes offered p.board)) = devices.ticks_stay (takes offered p.board) taken.fit in
    record {
      shape = record { shape_fit = are.parts.shape_fit; harts = are.parts.harts; devices = later.harts ∙ taken.harts ∙ are.parts.devices; ram = are.parts.ram };
      core = are.harts;
      board = later.fit;
    }
closed_fits m offered p (Ended code) fit offers are = whole m p.core p.board m.taken are
closed_fits m offered p (BadHost word) fit offers are = whole m p.core p.board m.taken are

looked_fits : (m : MachineState) → IsFit m → ProgressFits m.shape m.core (looked m)
looked_fits m fit =
    let stepped : Progress = all_steps m.shape.harts m.shape.slice (begins m) in
    let start : ProgressFits m.shape m.core (begins m) = record { are = parts_of m fit; outside = λ k out. out } in
    window_fits m.shape m.core m.shape.tohost (window_after m.shape.harts m.shape.slice m.shape.tohost (begins m)) stepped
    (all_fit m.shape m.core m.shape.harts m.shape.slice (begins m) (omega arith) start)

pub turns_stay_fit_lem : TurnsStayFit
unfolding turned
turns_stay_fit_lem m offered fit offers =
    let fits = looked_fits m fit in
    closed_fits m offered (looked m) (end_of (window_after m.shape.harts m.shape.slice m.shape.tohost (begins m))) fit offers fits.are

-- ---- debug mode

reset_outside : is_in_debug (reset_hart 0 0) ≡ false
unfolding reset_registers
reset_outside = refl

none_before : (xs : List Hart) (b : Bool) → nat_lt (position_or_len is_in_debug xs) (length xs) ≡ b → is_none (if b then Some (position_or_len is_in_debug xs) else None) ≡ true → (k : ℕ) → k < length xs → is_in_debug (get_or xs k (reset_hart 0 0)) ≡ false
none_before xs true is none k within = absurd (cc)
none_before xs false is none k within =
    let all : length xs ≤ position_or_len is_in_debug xs = ltb-false (position_or_len is_in_debug xs) (length xs) is in
    not-true _ (prefix_len_passes (λ (x : Hart). not (is_in_debug x)) xs k (reset_hart 0 0) (omega (arith, all)))

-- of a core that runs every hart is out of debug mode
outside_of : (core : CoreState) → is_none (lowest_in_debug core) ≡ true → (k : ℕ) → is_in_debug (hart_of core k) ≡ false
outside_of core none k = elim (cases_lt k (length core.harts)) [
  | inl within ↦ none_before core.harts (nat_lt (position_or_len is_in_debug core.harts) (length core.harts)) refl none k within
  | inr past ↦ subst (λ (x : Hart). is_in_debug x ≡ false) (sym (get_or_past core.harts k (reset_hart 0 0) past)) reset_outside
]

none_after : (xs : List Hart) → ((k : ℕ) → is_in_debug (get_or xs k (reset_hart 0 0)) ≡ false) → (b : Bool) → nat_lt (position_or_len is_in_debug xs) (length xs) ≡ b → is_none (if b then Some (position_or_len is_in_debug xs) else None) ≡ true
none_after xs out true is =
    let here = out (position_or_len is_in_debug xs) in
    let found = prefix_len_stops (λ (x : Hart). not (is_in_debug x)) xs (reset_hart 0 0) (ltb-true (position_or_len is_in_debug xs) (length xs) is) in
    absurd (false≢true (sym found ∙ ap not here))
none_after xs out false is = refl

runs_after : (core : CoreState) → ((k : ℕ) → is_in_debug (hart_of core k) ≡ false) → is_none (lowest_in_debug core) ≡ true
runs_after core out = none_after core.harts out (nat_lt (position_or_len is_in_debug core.harts) (length core.harts)) refl

closed_runs : (m : MachineState) (offered : Option ℕ) (p : Progress) (end : TurnEnd) → is_none (lowest_in_debug p.core) ≡ true → is_running (closed m offered p end) ≡ true
closed_runs m offered p Goes runs = runs
closed_runs m offered p (Ended code) runs = runs
closed_runs m offered p (BadHost word) runs = runs

pub turns_stay_running_lem : TurnsStayRunning
unfolding turned
turns_stay_running_lem m offered fit runs =
    let fits = looked_fits m fit in
    closed_runs m offered (looked m) (end_of (window_after m.shape.harts m.shape.slice m.shape.tohost (begins m)))
    (runs_after (looked m).core (λ k. fits.outside k (outside_of m.core runs k)))

-- ---- beside turns

pub clearing_stays_fit_lem : ClearingStaysFit
clearing_stays_fit_lem m fit =
    whole m (unreserved m.core) m.board m.taken
    (changed m.shape m.core (unreserved m.core) m.board m.board (parts_of m fit) (core_laws.unreserved_stays_fit m.core fit.core) (devices.same m.board fit.board))

-- ---- reset

pub reset_is_fit_lem : ResetIsFit
reset_is_fit_lem shape ram entry ranges long are even below = record {
  shape = record { shape_fit = ranges; harts = reset_length shape.harts entry; devices = devices.reset_harts shape.harts; ram = long };
  core = core_laws.reset_is_fit_lem shape.harts ram entry ranges.harts_least ranges.harts_most are even below;
  board = devices.reset_fits shape.harts ranges.harts_least ranges.harts_most;
}

pub debug_reset_is_fit_lem : DebugResetIsFit
debug_reset_is_fit_lem shape taken ram rom ranges long ram_are rom_are room = record {
  shape = record { shape_fit = ranges; harts = debug_length shape.harts; devices = devices.reset_harts shape.harts; ram = long };
  core = core_laws.debug_reset_is_fit_lem shape.harts ram rom ranges.harts_least ranges.harts_most ram_are rom_are room;
  board = devices.reset_fits shape.harts ranges.harts_least ranges.harts_most;
}
