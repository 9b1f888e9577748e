use Rattle.std.proofs.Common.{◌≡◌, ℕ, ◌/◌, ◌%◌, ◌<◌, List, length, sym, subst, arith}
use Rattle.std.specs.Prelude.{slice_index_or}
use Rattle.sv39_walk.specs.declared.slots.Slot.{Slot}
use Rattle.sv39_walk.specs.Remembered.{Agrees, Remembered}
use Rattle.sv39_walk.specs.Slots.{IsOpen}
use Rattle.sv39_walk.proofs.Known.{no_slot}
use Rattle.sv39_walk.proofs.Pages.{kept_base, page_leads}
use Rattle.sv39_walk.proofs.walker.Walker.page_base.Goals as goal

pub returns-then-is_open-clause-leads : goal.returns-then-is_open-clause-leads
returns-then-is_open-clause-leads c = λ ram agrees.
    let i : ℕ = c.args.va / 4096 % 64 in
    let s : Slot = slice_index_or c.self.inside.slots i no_slot in
    let within : i < length c.self.inside.slots = let long = c.self.invariant.1 in omega arith in
    let filled : s.satp ≡ 0 → ⊥ = λ none. let is = c.if-slot-ne0.true in absurd (is none) in
    let open_is : IsOpen c.args.mode c.args.kind s.found.leaf = subst (λ (e : ℕ). IsOpen c.args.mode c.args.kind e) c.of.ensures (c.is_open.ensures c.if-is_open.true) in
    page_leads ram c.self.inside.tables c.self.inside.slots i no_slot c.args.satp c.args.va c.args.mode c.args.kind
    (subst (λ (walker : List Remembered). Agrees walker ram) (sym c.self.view_is) agrees) c.self.invariant.2 within filled c.if-slot-satp.true c.if-slot-page.true open_is

pub returns-then-is_open-clause-page : goal.returns-then-is_open-clause-page
returns-then-is_open-clause-page c =
    let i : ℕ = c.args.va / 4096 % 64 in
    let within : i < length c.self.inside.slots = let long = c.self.invariant.1 in omega arith in
    kept_base c.self.inside.tables c.self.inside.slots i no_slot c.self.invariant.2 within (λ none. let is = c.if-slot-ne0.true in absurd (is none))
