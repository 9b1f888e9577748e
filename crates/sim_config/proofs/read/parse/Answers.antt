use Rattle.std.proofs.Common.{refl}
use Rattle.sim_config.proofs.ReadLemmas.{reading-some, reading-none, not_shown}
use Rattle.sim_config.proofs.read.parse.Goals as goal

pub returns-in-Ok-clause-ok : goal.returns-in-Ok-clause-ok
returns-in-Ok-clause-ok c = reading-some _ _ c.in-Ok.ensures.ok.0 c.in-Ok.ensures.ok.1

pub returns-in-Err-2-clause-err : goal.returns-in-Err-2-clause-err
returns-in-Err-2-clause-err c = λ apart. (refl, reading-none _ (c.in-Err.ensures.err (not_shown _ _ c.is_memory.ensures c.if-is_memory.false)))
