-- The stream was judged from the machine's core, or its reading was cut.
use Rattle.dromajo.proofs.Works.{judging_ends, judging_stops}
use Rattle.dromajo.proofs.work.judging.judge_stream.Goals as goal

pub returns-in-Ok-clause-done : goal.returns-in-Ok-clause-done
returns-in-Ok-clause-done g c = λ input left.
    judging_ends c.args.machine c.into_core.result c.shape-tohost.result c.in-Ok.verdict c.judged.result input _ _ c.into_core.ensures c.shape-tohost.ensures.value
    c.requires.unused (c.in-Ok.ensures.judged input left) c.judged.ensures.status c.judged.ensures.tally

pub returns-in-Err-clause-cut : goal.returns-in-Err-clause-cut
returns-in-Err-clause-cut g c = λ input left.
    judging_stops c.in-Err.stop c.args.machine c.into_core.result c.shape-tohost.result input _ _ c.into_core.ensures c.shape-tohost.ensures.value
    c.requires.unused (c.in-Err.ensures.cut input left)
