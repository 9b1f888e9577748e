use Rattle.std.proofs.Common.{◌≡◌, ℕ, ◌-◌, ◌/◌, List, Ok, true, false, ap, sym, ◌∙◌, subst, arith}
use Rattle.std.specs.Prelude.{refl}
use Rattle.sv39_walk.specs.Entry.{address_in, permits}
use Rattle.sv39_walk.specs.Remembered.{Agrees}
use Rattle.sv39_walk.proofs.Answered.{found_known, found_walked}
use Rattle.sv39_walk.proofs.Steps.{permits_leaf}
use Rattle.sv39_walk.proofs.walker.Walker.translate_anew.Goals as goal

pub returns-then-not-permits-clause-reckoned : goal.returns-then-not-permits-clause-reckoned
returns-then-not-permits-clause-reckoned c =
    let no : permits c.args.ctx.mode c.args.ctx.sum c.args.ctx.mxr c.args.kind (3 - c.in-Ok.found.count) c.in-Ok.found.leaf ≡ false = grind (arith) in
    sym (found_walked c.args.table.now.ram c.args.ctx.satp c.args.va c.in-Ok.found c.in-Ok.ensures.found c.args.ctx.mode c.args.ctx.sum c.args.ctx.mxr c.args.kind ∙ rw no)

pub returns-then-not-permits-clause-agrees : goal.returns-then-not-permits-clause-agrees
returns-then-not-permits-clause-agrees c =
    subst (λ (ram : List ℕ). Agrees c.args.self.now ram) (sym c.in-Ok.ensures.memory) c.requires.agreed

pub returns-clause-reckoned : goal.returns-clause-reckoned
returns-clause-reckoned c =
    let yes : permits c.args.ctx.mode c.args.ctx.sum c.args.ctx.mxr c.args.kind (3 - c.in-Ok.found.count) c.in-Ok.found.leaf ≡ true = grind (arith) in
    let there : address_in (3 - c.in-Ok.found.count) c.in-Ok.found.leaf c.args.va ≡ c.address-pa.result = sym (c.address-pa.ensures.address ∙ ap (λ (e : ℕ). address_in (3 - c.in-Ok.found.count) e c.args.va) c.of-entry.ensures) in
    sym (found_walked c.args.table.now.ram c.args.ctx.satp c.args.va c.in-Ok.found c.in-Ok.ensures.found c.args.ctx.mode c.args.ctx.sum c.args.ctx.mxr c.args.kind ∙ rw yes (ap Ok there))

pub returns-clause-agrees : goal.returns-clause-agrees
returns-clause-agrees c =
    let yes : permits c.args.ctx.mode c.args.ctx.sum c.args.ctx.mxr c.args.kind (3 - c.in-Ok.found.count) c.in-Ok.found.leaf ≡ true = grind (arith) in
    let leaf = permits_leaf c.args.ctx.mode c.args.ctx.sum c.args.ctx.mxr c.args.kind (3 - c.in-Ok.found.count) c.in-Ok.found.leaf yes in
    let known = found_known c.args.table.now.ram c.args.ctx.satp c.args.va (c.args.va / 4096) c.in-Ok.found c.in-Ok.ensures.found leaf refl in
    subst (λ (ram : List ℕ). Agrees c.remember.new.self ram) (sym c.in-Ok.ensures.memory) (c.remember.ensures.agrees c.args.table.now.ram c.requires.agreed known)
