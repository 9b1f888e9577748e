use Rattle.std.proofs.Common.{ℕ, ◌/◌, ◌%◌, ◌<◌, List, length, sym, subst, arith}
use Rattle.sv39_walk.specs.Remembered.{IsRemembered, Remembered}
use Rattle.sv39_walk.specs.Walk.{root_of}
use Rattle.sv39_walk.proofs.Known.{in_slot, no_slot, slot_remembered}
use Rattle.sv39_walk.proofs.walker.Walker.remembers.Goals as goal

pub returns : goal.returns
returns c =
    let i : ℕ = c.args.va / 4096 % 64 in
    let within : i < length c.self.inside.slots = let long = c.self.invariant.1 in omega arith in
    let IsThere : List Remembered → Type 0 = λ walker. IsRemembered walker (root_of c.args.satp) (c.args.va / 4096) in (
      (λ holds. subst IsThere c.self.view_is (slot_remembered c.self.inside.slots i no_slot (root_of c.args.satp) (c.args.va / 4096) within (c.holds.ensures.0 holds))),
      (λ there. c.holds.ensures.1 (in_slot c.self.inside.tables c.self.inside.slots no_slot (root_of c.args.satp) (c.args.va / 4096) c.self.invariant.2 (subst IsThere (sym c.self.view_is) there))),
    )
