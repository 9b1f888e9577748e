use Rattle.std.proofs.Common.{◌≡◌, List, subst, sym}
use Rattle.std.specs.Prelude.{All}
use Rattle.sv39_walk.specs.declared.slots.Slot.{Slot}
use Rattle.sv39_walk.proofs.Known.{all_free}
use Rattle.sv39_walk.proofs.slots.free_slots.Goals as goal

pub returns-clause-free : goal.returns-clause-free
returns-clause-free c =
    subst (λ (xs : List Slot). All (λ s. s.satp ≡ 0) xs) (sym c.same_slots.ensures) (all_free c.free_slot.result c.free_slot.ensures)
