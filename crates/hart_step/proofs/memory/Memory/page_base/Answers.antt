use Rattle.std.proofs.Common.{◌≡◌, ℕ, ◌+◌, ◌/◌, ◌%◌, Ok, subst}
use Rattle.std.specs.Prelude.{IfSome}
use Rattle.sv39_walk.specs.Slots.{LeadsTo}
use Rattle.hart_step.specs.Memory.{MemoryState, physical}
use Rattle.hart_step.proofs.Recalled.{led}
use Rattle.hart_step.proofs.memory.Memory.page_base.Goals as goal

pub returns-clause-leads : goal.returns-clause-leads
returns-clause-leads c =
    let leads : IfSome c.page_base.result (λ base. LeadsTo c.self.inside.ram c.args.hart.now.csrs.kept.satp c.args.hart.now.mode c.args.kind c.args.va base) =
    subst (λ (satp : ℕ). IfSome c.page_base.result (λ base. LeadsTo c.self.inside.ram satp c.args.hart.now.mode c.args.kind c.args.va base)) c.satp.ensures (c.page_base.ensures.leads c.self.inside.ram c.self.invariant.0) in
    subst (λ (m : MemoryState). IfSome c.page_base.result (λ base. (other : ℕ) → other / 4096 ≡ c.args.va / 4096 → physical c.args.hart.now.mode c.args.kind c.args.hart.now m.ram other ≡ Ok (base + other % 4096))) c.self.view_is
    (led c.args.hart.now c.self.inside.ram c.args.kind c.args.va c.page_base.result leads)
