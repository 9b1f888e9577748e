-- A turn passes.
use Rattle.std.proofs.Common.{◌≡◌, ℕ, zero, suc, ◌≤◌, List, [], ◌∷◌, length, Option, refl, sym, ap, subst, ◌∙◌, arith}
use Rattle.std.proofs.lemmas.List.{length-map}
use Rattle.hart_step.specs.declared.event.Event.{Event}
use Rattle.hart_step.specs.declared.event.Event.TheVariants.{Host}
use Rattle.hart_step.specs.Harts.{CoreState}
use Rattle.hart_step.specs.Step.{host_cleared, without_reservation}
use Rattle.hart_step.specs.Told.{CoversCore}
use Rattle.hart_step.proofs.ToldHarts.{map_covers}
use Rattle.hart_turns.specs.Machine.{MachineState}
use Rattle.hart_turns.specs.declared.machine.TurnEnd.{TurnEnd}
use Rattle.hart_turns.specs.declared.machine.TurnEnd.TheVariants.{Goes, Ended, BadHost}
use Rattle.hart_turns.specs.Turn.{Progress, after_window, all_steps, begins, closed, hart_steps, looked_after, turned, turned_to, window_after}
use Rattle.board_bus.specs.Window.{host_says}
use Rattle.board_bus.specs.declared.window.HostSays.{HostSays}
use Rattle.board_bus.specs.declared.window.HostSays.TheVariants.{Nothing, End, Send, Bad}
use Rattle.guest_ram.specs.Bytes.{number_at, with_part}
use Rattle.byteorder.specs.Endian.{little_bytes}
use Rattle.cosim_check.specs.Records.{sent_word}
use Rattle.trace_law.specs.Passing.{AllAllowed, PartPasses, TurnPasses, TurnsPass}
use Rattle.trace_law.proofs.Steps.{joined, nothing_passes, steps_pass_lem}

all_pass : (tohost k n : ℕ) (p : Progress) (other : CoreState) → k ≤ length p.core.harts → CoversCore other p.core → PartPasses tohost other p (all_steps k n p)
unfolding all_steps
all_pass tohost zero n p other within covers = nothing_passes tohost p other covers
all_pass tohost (suc k) n p other within covers =
    let one = all_pass tohost k n p other (omega arith) covers in
    joined tohost other p (all_steps k n p) (hart_steps k n (all_steps k n p)) one
    (steps_pass_lem tohost k n (all_steps k n p) one.past (let count = one.count in omega arith) one.covers)

window_passes : (tohost : ℕ) (p : Progress) (other : CoreState) → CoversCore other p.core → (says : HostSays) → host_says tohost p.core.ram ≡ says → PartPasses tohost other p (after_window tohost says p)
window_passes tohost p other covers Nothing is = nothing_passes tohost p other covers
window_passes tohost p other covers (End code) is = nothing_passes tohost p other covers
window_passes tohost p other covers (Bad word) is = nothing_passes tohost p other covers
window_passes tohost p other covers (Send byte) is = record {
  new = Host (number_at p.core.ram tohost 8) ∷ [];
  events = refl;
  past = host_cleared other tohost;
  allowed = (ap (λ (ram : List ℕ). sent_word (number_at ram tohost 8) (host_says tohost ram)) covers.ram ∙ ap (sent_word (number_at p.core.ram tohost 8)) is, refl);
  covers = record {
    harts = map_covers tohost 8 other.harts p.core.harts covers.harts;
    ram = ap (λ (ram : List ℕ). with_part ram tohost (little_bytes 8 0)) covers.ram;
    rom = covers.rom;
  };
  count = length-map p.core.harts (without_reservation tohost 8);
}

closed_core : (m : MachineState) (offered : Option ℕ) (p : Progress) (end : TurnEnd) → (closed m offered p end).core ≡ p.core
closed_core m offered p Goes = refl
closed_core m offered p (Ended code) = refl
closed_core m offered p (BadHost word) = refl

turn_by : (m : MachineState) (offered : Option ℕ) (other : CoreState) (q : Progress) (end : TurnEnd) → PartPasses m.shape.tohost other (begins m) q → TurnPasses m.shape.tohost other m (turned_to m offered q end)
turn_by m offered other q end passes = record {
  past = passes.past;
  allowed = subst (λ (es : List Event). AllAllowed other m.shape.tohost es passes.past) (sym passes.events) passes.allowed;
  covers = subst (λ (c : CoreState). CoversCore passes.past c) (sym (closed_core m offered q end)) passes.covers;
  count = ap (λ (c : CoreState). length c.harts) (closed_core m offered q end) ∙ passes.count;
}

pub turns_pass_lem : TurnsPass
unfolding turned
turns_pass_lem m offered other within covers =
    let tohost : ℕ = m.shape.tohost in
    let one = all_pass tohost m.shape.harts m.shape.slice (begins m) other within covers in
    turn_by m offered other (looked_after m.shape.harts m.shape.slice tohost (begins m)) _
    (joined tohost other (begins m) (all_steps m.shape.harts m.shape.slice (begins m)) (looked_after m.shape.harts m.shape.slice tohost (begins m)) one
    (window_passes tohost (all_steps m.shape.harts m.shape.slice (begins m)) one.past one.covers (window_after m.shape.harts m.shape.slice tohost (begins m)) refl))
