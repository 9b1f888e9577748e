use Rattle.std.proofs.Common.{ℕ, ◌-◌, ◌/◌, ◌%◌, ◌*◌, ◌<◌, ◌≤◌, List, length, sym, ◌∙◌, subst, arith}
use Rattle.std.specs.Prelude.{refl}
use Rattle.std.proofs.lemmas.List.{length-set}
use Rattle.sv39_walk.specs.declared.slots.Slot.{Slot}
use Rattle.sv39_walk.specs.declared.walk.Found.{Found}
use Rattle.sv39_walk.specs.Remembered.{Agrees, Remembered}
use Rattle.sv39_walk.specs.Slots.{IsPlace}
use Rattle.sv39_walk.proofs.Known.{agrees_with, remembered_with}
use Rattle.sv39_walk.proofs.Marks.{kept_with, marked_length}
use Rattle.sv39_walk.proofs.Pages.{first_place, is_filled}
use Rattle.sv39_walk.proofs.walker.Walker.remember.Goals as goal

abbrev slot : ℕ → ℕ → ℕ → Found → Slot
slot satp va pa found = record { satp = satp; page = va / 4096; base = pa - pa % 4096; found = found }

pub returns : goal.returns
returns c =
    let i : ℕ = c.args.va / 4096 % 64 in
    let new : Slot = slot c.args.satp c.args.va c.args.pa c.args.found in
    let within : i < length c.self.inside.slots = let long = c.self.invariant.1 in omega arith in
    record {
      agrees = λ ram agrees walked.
          agrees_with ram c.self.inside.slots i new (subst (λ (walker : List Remembered). Agrees walker ram) (sym c.self.view_is) agrees) walked;
      remembered = remembered_with c.self.inside.slots i new within (is_filled c.args.satp c.requires.leads.translated);
    }

pub invariant_of-self : goal.invariant_of-self
invariant_of-self c =
    let f : Found = c.args.found in
    let new : Slot = slot c.args.satp c.args.va c.args.pa f in
    let some = c.requires.count.0 in
    let level : 3 - f.count ≤ 2 = omega arith in
    let place : IsPlace c.args.satp (c.args.va / 4096 * 4096) (c.args.pa - c.args.pa % 4096) f.leaf (3 - f.count) = first_place c.args.satp c.args.va c.args.pa (c.args.va / 4096) f.leaf (3 - f.count) level refl c.requires.leads in (
      marked_length c.self.inside.tables f ∙ c.self.invariant.0,
      length-set c.self.inside.slots (c.args.va / 4096 % 64) new ∙ c.self.invariant.1,
      kept_with c.self.inside.tables c.self.inside.slots new c.self.invariant.0 c.self.invariant.2 c.requires.count.0 c.requires.count.1 c.requires.aligned.0 c.requires.aligned.1 c.requires.aligned.2 place,
    )
