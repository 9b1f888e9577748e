use Rattle.std.proofs.Common.{◌≡◌, ◌+◌, ◌*◌, ◌++◌, length}
use Rattle.seed_start.specs.Seed.{drawn_insns, image_of, opening, state_of}
use Rattle.seed_start.proofs.program.image.Given as goal

-- the drawn instructions so far, and the number of the next one
abbrev pub invariant-loop : goal.invariant-loop
invariant-loop l =
    (l.out.items ≡ image_of opening ++ image_of (drawn_insns l.seed l.counter))
    × (length l.out.items ≡ 16 + 4 * l.counter)
    × (l.s ≡ state_of l.seed l.counter)
