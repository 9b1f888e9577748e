-- The walker agrees with memory after the store that it is told of.
use Rattle.std.proofs.Common.{◌≡◌, ℕ, List, length, sym, subst}
use Rattle.std.specs.Int.{bytes_low_first}
use Rattle.std.specs.Prelude.{refl}
use Rattle.guest_ram.specs.Bytes.{HasPart, with_part}
use Rattle.sv39_walk.specs.Laws.{StoreDiffers}
use Rattle.sv39_walk.specs.Remembered.{Agrees, DiffersOnlyIn, Remembered}
use Rattle.sv39_walk.proofs.tests.remembered.Guest.write.Goals as goal

told : (before new : List Remembered) (ram after bytes : List ℕ) (at : ℕ) → StoreDiffers → after ≡ with_part ram at bytes → length bytes ≡ 8 → HasPart ram at 8 → Agrees before ram → ((was is : List ℕ) → Agrees before was → DiffersOnlyIn at 8 was is → Agrees new is) → Agrees new after
told before new ram after bytes at differs after_is long part agrees kept =
    let only : DiffersOnlyIn at 8 ram (with_part ram at bytes) = subst (λ (n : ℕ). DiffersOnlyIn at n ram (with_part ram at bytes)) long (differs ram bytes at (subst (λ (n : ℕ). HasPart ram at n) (sym long) part)) in
    kept ram after agrees (subst (λ (is : List ℕ). DiffersOnlyIn at 8 ram is) (sym after_is) only)

pub invariant_of-self : goal.invariant_of-self
invariant_of-self c =
    let long : length (bytes_low_first 0 8 c.args.entry) ≡ 8 = refl in
    told c.self.inside.walker c.noted.new.self c.self.inside.ram c.write.new.self (bytes_low_first 0 8 c.args.entry) c.args.at c.agrees_kept.ensures.store c.write.ensures long (subst (λ (ram : List ℕ). HasPart ram c.args.at 8) (sym c.self.view_is) c.requires.inside) c.self.invariant c.noted.ensures.agrees
