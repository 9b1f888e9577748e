use Rattle.std.proofs.Common.{ℕ, ◌/◌, ◌%◌, ◌<◌, List, length, sym, subst, arith}
use Rattle.std.specs.Prelude.{slice_index_or}
use Rattle.sv39_walk.specs.declared.slots.Slot.{Slot}
use Rattle.sv39_walk.specs.Remembered.{Agrees, IsRemembered, Remembered}
use Rattle.sv39_walk.specs.Slots.{Holds, IsKept, known_in}
use Rattle.sv39_walk.specs.Walk.{root_of}
use Rattle.sv39_walk.proofs.Known.{in_slot, no_slot}
use Rattle.sv39_walk.proofs.Pages.{slot_walked}
use Rattle.sv39_walk.proofs.walker.Walker.recalled.Goals as goal

pub returns : goal.returns
returns c =
    let i : ℕ = c.args.va / 4096 % 64 in
    let s : Slot = slice_index_or c.self.inside.slots i no_slot in
    let within : i < length c.self.inside.slots = let long = c.self.invariant.1 in omega arith in
    let there : IsRemembered (known_in c.self.inside.slots) (root_of c.args.satp) (c.args.va / 4096) = subst (λ (walker : List Remembered). IsRemembered walker (root_of c.args.satp) (c.args.va / 4096)) (sym c.self.view_is) c.requires.remembered in
    let held : Holds s (root_of c.args.satp) (c.args.va / 4096) = in_slot c.self.inside.tables c.self.inside.slots no_slot (root_of c.args.satp) (c.args.va / 4096) c.self.invariant.2 there in
    let kept : IsKept c.self.inside.tables i s = c.self.invariant.2 i no_slot within held.0 in
    record {
      count = (kept.some, kept.most);
      walked = λ ram agrees.
          slot_walked ram c.self.inside.tables c.self.inside.slots i no_slot c.args.satp c.args.va (subst (λ (walker : List Remembered). Agrees walker ram) (sym c.self.view_is) agrees) c.self.invariant.2 within held;
    }
