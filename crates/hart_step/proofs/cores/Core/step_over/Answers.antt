-- What the step of the hart shows and leaves is what the definition says of the core.
use Rattle.std.proofs.Common.{◌≡◌, ◌<◌, ◌&&◌, not, ℕ, Bool, List, [], length, set, subst, sym, refl, ap, ◌∙◌, if◌then◌else◌}
use Rattle.std.specs.List.{list_any}
use Rattle.std.proofs.lemmas.List.Elements.{All-set}
use Rattle.hart_step.specs.declared.event.Event.{Event}
use Rattle.hart_step.specs.declared.hart.Hart.{Hart}
use Rattle.hart_step.specs.Events.{IsEvent}
use Rattle.hart_step.specs.Answers.{Given, after_access, given_by}
use Rattle.hart_step.specs.Harts.{CoreState, hart_of, is_in_debug, reset_hart}
use Rattle.hart_step.specs.Memory.{MemoryState}
use Rattle.hart_step.specs.Step.{Answer, StepLeaves, after_store, hart_step, memory_of, rom_after, step}
use Rattle.hart_step.specs.contracts.cores.Core.{the_view}
use Rattle.hart_step.specs.Fit.{IsWellFormed}
use Rattle.hart_step.proofs.Kept.{kept_step}
use Rattle.hart_step.proofs.Lists.{after_length}
use Rattle.hart_step.proofs.Steps.{hart_is, lost_is, step_is}
use Rattle.hart_step.proofs.cores.Core.step_over.Goals as goal

pub lose_reservations-requires-clause-fit : goal.lose_reservations-requires-clause-fit
lose_reservations-requires-clause-fit g c =
    All-set IsWellFormed c.self.inside.harts.items c.args.h c.step_hart-stored.new.hart c.see_hart.ensures c.self.invariant.harts

pub returns : goal.returns
returns g c =
    let h : ℕ = c.args.h in
    let core : CoreState = the_view c.self.inside in
    let within : h < length core.harts = subst (λ (x : CoreState). h < length x.harts) (sym c.self.view_is) c.requires.hart in
    let before : Hart = c.index_mut-hart.result.now in
    let after : Hart = c.step_hart-stored.new.hart in
    let memory : MemoryState = c.step_hart-stored.new.memory in
    let harts : List Hart = c.lose_reservations.new.harts.items in
    let given : Hart → Given = given_by (g.A.Answers.says c.args.answers.now h) in
    let is : before ≡ hart_of core h = hart_is core h before within c.index_mut-hart.ensures.value in
    let shows : Event → Type 0 = g.S.Shows.shows c.step_hart-stored.new.place in
    let many : c.harts-count.result ≡ length core.harts = c.harts-count.ensures.count ∙ ap (λ (x : CoreState). length x.harts) (sym c.self.view_is) in
    let leaves : StepLeaves g.A.Answers.after c.args.answers.now c.step_hart-stored.new.answers h after memory shows c.step_hart-stored.result (hart_step (given before) (length core.harts) h before (memory_of core)) =
    subst (λ (n : ℕ). StepLeaves g.A.Answers.after c.args.answers.now c.step_hart-stored.new.answers h after memory shows c.step_hart-stored.result (hart_step (given before) n h before (memory_of core))) many c.step_hart-stored.ensures.leaves in
    let harts_are : harts ≡ set (after_store c.step_hart-stored.result core.harts) h after =
    c.lose_reservations.ensures.harts ∙ lost_is c.step_hart-stored.result core.harts h after (reset_hart 0 0) within in
    let left_is : c.close_rom.new.memory ≡ record memory { rom = rom_after before after harts memory.rom } =
    c.close_rom.ensures
    ∙ ap (λ (hs : List Hart). record memory { rom = if c.has_left_debug-left_debug.result && not (list_any is_in_debug hs) then [] else memory.rom }) c.deref.ensures.value
    ∙ ap (λ (b : Bool). record memory { rom = if b && not (list_any is_in_debug harts) then [] else memory.rom }) (c.has_left_debug-left_debug.ensures ∙ ap (λ (b : Bool). b && not (is_in_debug after)) c.is_in_debug-was_in_debug.ensures) in
    let taken = step_is g.A.Answers.after c.args.answers.now c.step_hart-stored.new.answers given core h before after memory c.close_rom.new.memory shows c.step_hart-stored.result harts is leaves harts_are left_is in
    let answer : CoreState → Answer = λ x. step (given (hart_of x h)) x h in
    let event_is : (answer core).event ≡ (answer c.args.self.now).event = ap (λ (x : CoreState). (answer x).event) c.self.view_is in
    record {
      shown = subst shows event_is taken.shown;
      leaves = record {
        event_is = refl;
        formed = subst IsEvent event_is taken.formed;
        core_is = taken.core_is ∙ ap (λ (x : CoreState). (answer x).core) c.self.view_is;
        harts = ap (λ (hs : List Hart). length hs) harts_are ∙ after_length c.step_hart-stored.result core.harts h after ∙ ap (λ (x : CoreState). length x.harts) c.self.view_is;
        ram = ap (λ (m : MemoryState). length m.ram) c.close_rom.ensures ∙ c.step_hart-stored.ensures.keeps.ram ∙ ap (λ (x : CoreState). length x.ram) c.self.view_is;
        outside = taken.outside ∙ ap (λ (x : CoreState). after_access g.A.Answers.after c.args.answers.now h c.close_rom.new.memory.ram (answer x).access) c.self.view_is;
      };
    }

pub invariant_of-self : goal.invariant_of-self
invariant_of-self g c =
    let h : ℕ = c.args.h in
    let core : CoreState = the_view c.self.inside in
    let within : h < length core.harts = subst (λ (x : CoreState). h < length x.harts) (sym c.self.view_is) c.requires.hart in
    let before : Hart = c.index_mut-hart.result.now in
    let after : Hart = c.step_hart-stored.new.hart in
    let memory : MemoryState = c.step_hart-stored.new.memory in
    let harts : List Hart = c.lose_reservations.new.harts.items in
    let is : before ≡ hart_of core h = hart_is core h before within c.index_mut-hart.ensures.value in
    let harts_are : harts ≡ set (after_store c.step_hart-stored.result core.harts) h after =
    c.lose_reservations.ensures.harts ∙ lost_is c.step_hart-stored.result core.harts h after (reset_hart 0 0) within in
    let left_is : c.close_rom.new.memory ≡ record memory { rom = rom_after before after harts memory.rom } =
    c.close_rom.ensures
    ∙ ap (λ (hs : List Hart). record memory { rom = if c.has_left_debug-left_debug.result && not (list_any is_in_debug hs) then [] else memory.rom }) c.deref.ensures.value
    ∙ ap (λ (b : Bool). record memory { rom = if b && not (list_any is_in_debug harts) then [] else memory.rom }) (c.has_left_debug-left_debug.ensures ∙ ap (λ (b : Bool). b && not (is_in_debug after)) c.is_in_debug-was_in_debug.ensures) in
    let rom_is : c.close_rom.new.memory.rom ≡ rom_after before after harts core.rom =
    ap (λ (m : MemoryState). m.rom) left_is ∙ ap (λ (r : List ℕ). rom_after before after harts r) c.step_hart-stored.ensures.keeps.rom in
    kept_step core _ c.step_hart-stored.result h before after c.self.invariant within is c.step_hart-stored.ensures.keeps.fit.number c.lose_reservations.ensures.fit harts_are rom_is
