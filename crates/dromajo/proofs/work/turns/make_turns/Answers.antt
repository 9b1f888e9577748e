-- The machine takes up its run, the logs are started, and then the turns are made.
use Rattle.job_words.specs.Job.{Turns}
use Rattle.dromajo.proofs.Works.{begun_ends, begun_stops, fed_still, start_stops, turns_end, turns_stop, unresumed}
use Rattle.dromajo.proofs.work.turns.make_turns.Goals as goal

pub returns-in-Err-clause-cut : goal.returns-in-Err-clause-cut
returns-in-Err-clause-cut g c = λ input left. unresumed c.in-Err.stop (Turns c.args.turns c.args.logs.now) c.args.machine input _ _ (c.in-Err.ensures.cut input left)

pub returns-in-Err-start_logs-clause-cut : goal.returns-in-Err-start_logs-clause-cut
returns-in-Err-start_logs-clause-cut g c = λ input left.
    begun_stops c.in-Err-start_logs.stop (Turns c.args.turns c.args.logs.now) c.args.machine c.in-Ok.feed input _ _ _ (c.in-Ok.ensures.resumed input left)
    (λ bytes from fed. start_stops _ c.args.logs.now bytes from c.args.turns _ _ _ _ fed c.in-Err-start_logs.ensures.cut)

pub returns-in-Err-run-clause-cut : goal.returns-in-Err-run-clause-cut
returns-in-Err-run-clause-cut g c = λ input left.
    begun_stops c.in-Err-run.stop (Turns c.args.turns c.args.logs.now) c.args.machine c.in-Ok.feed input _ _ _ (c.in-Ok.ensures.resumed input left)
    (λ bytes from fed.
    let still = fed_still c.args.logs.now bytes _ from _ _ _ c.in-Ok-start_logs.ensures.done fed in
    turns_stop _ c.args.logs.now bytes from c.args.turns _ _ _ _ _ fed c.in-Ok-start_logs.ensures.done (c.in-Err-run.ensures.cut bytes from still))

pub returns-clause-done : goal.returns-clause-done
returns-clause-done g c = λ input left.
    begun_ends (Turns c.args.turns c.args.logs.now) c.args.machine _ c.in-Ok.feed input _ _ _ (c.in-Ok.ensures.resumed input left)
    (λ bytes from fed.
    let still = fed_still c.args.logs.now bytes _ from _ _ _ c.in-Ok-start_logs.ensures.done fed in
    turns_end c.args.logs.now bytes from c.args.turns _ _ _ _ _ _ _ _ _ _ _ fed c.in-Ok-start_logs.ensures.done (c.in-Ok-run.ensures.ran bytes from still)
    c.status_at.ensures.value c.taken.ensures)
