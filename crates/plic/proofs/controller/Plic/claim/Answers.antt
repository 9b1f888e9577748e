use Rattle.plic.proofs.Best.{best_source}
use Rattle.plic.proofs.controller.Plic.claim.Goals as goal

pub returns-clause-best : goal.returns-clause-best
returns-clause-best c =
    rw (c.from.ensures, c.claimed-source.ensures.value) (best_source c.args.self.now c.args.c c.args.levels)
