-- The walker agrees with memory after the store.
use Rattle.std.proofs.Common.{◌≡◌, ℕ, ◌-◌, List, IsTrue, length, ap, sym, subst, ◌∙◌}
use Rattle.byteorder.specs.Endian.{little_bytes}
use Rattle.guest_ram.specs.Bytes.{has_part, with_part}
use Rattle.sv39_walk.specs.Remembered.{Agrees, DiffersOnlyIn}
use Rattle.hart_step.specs.Memory.{MemoryState}
use Rattle.hart_step.proofs.Stores.{noted_agrees, stored_length}
use Rattle.hart_step.proofs.memory.Memory.write.Goals as goal

pub invariant_of-self : goal.invariant_of-self
invariant_of-self c =
    let inside : IsTrue (has_part c.self.inside.ram c.args.at c.args.size) = subst (λ (m : MemoryState). IsTrue (has_part m.ram c.args.at c.args.size)) (sym c.self.view_is) c.requires.inside in
    let after : Agrees c.noted.new.self (with_part c.self.inside.ram c.args.at (little_bytes c.args.size c.args.value)) = noted_agrees c.self.inside.walker c.noted.new.self c.self.inside.ram c.args.at c.args.size c.args.value inside c.agrees_kept.ensures.store c.self.invariant.0 (subst (λ (n : ℕ). (before after : List ℕ) → Agrees c.self.inside.walker before → DiffersOnlyIn c.args.at n before after → Agrees c.noted.new.self after) c.from.ensures c.noted.ensures.agrees) in
    let as_long : length c.write.new.self ≡ length c.self.inside.ram = ap (λ (ram : List ℕ). length ram) c.write.ensures ∙ stored_length c.self.inside.ram c.args.at c.args.size c.args.value inside c.agrees_kept.ensures.store in
    (subst (λ (ram : List ℕ). Agrees c.noted.new.self ram) (sym c.write.ensures) after, c.self.invariant.1, c.self.invariant.2 ∙ ap (λ n. n - 7) (sym as_long))

pub returns-clause-length : goal.returns-clause-length
returns-clause-length c =
    let inside : IsTrue (has_part c.self.inside.ram c.args.at c.args.size) = subst (λ (m : MemoryState). IsTrue (has_part m.ram c.args.at c.args.size)) (sym c.self.view_is) c.requires.inside in
    ap (λ (ram : List ℕ). length ram) c.write.ensures
    ∙ stored_length c.self.inside.ram c.args.at c.args.size c.args.value inside c.agrees_kept.ensures.store
    ∙ ap (λ (m : MemoryState). length m.ram) c.self.view_is
