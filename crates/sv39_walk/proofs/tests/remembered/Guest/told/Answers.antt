use Rattle.std.specs.Prelude.{refl}
use Rattle.sv39_walk.proofs.tests.remembered.Guest.told.Goals as goal

pub invariant_of-self : goal.invariant_of-self
invariant_of-self c =
    c.noted.ensures.agrees c.self.inside.ram c.self.inside.ram c.self.invariant (record { as_long = refl; others = λ i outside. refl })
