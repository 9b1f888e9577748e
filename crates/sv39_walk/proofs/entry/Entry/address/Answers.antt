-- The address keeps its place in the page.
use Rattle.std.proofs.Common.{ℕ, ◌+◌, ◌*◌, ◌%◌, ap, ◌∙◌}
use Rattle.sv39_walk.proofs.Places.{place_kept}
use Rattle.sv39_walk.proofs.entry.Entry.address.Goals as goal

pub returns-clause-place : goal.returns-clause-place
returns-clause-place c =
    ap (λ (n : ℕ). (c.page.result * 4096 + n) % 4096) c.bits.ensures ∙ place_kept c.page.result c.args.level c.args.va c.requires
