-- The machine takes up its run, and then the run that saves is made.
use Rattle.job_words.specs.Job.{Save}
use Rattle.dromajo.proofs.Works.{begun_ends, begun_stops, save_ends, save_stopped, unresumed}
use Rattle.dromajo.proofs.work.saving.save_turns.Goals as goal

pub returns-in-Err-clause-cut : goal.returns-in-Err-clause-cut
returns-in-Err-clause-cut g c = λ input left.
    unresumed c.in-Err.stop (Save c.args.turns c.args.name.now c.args.more) c.args.machine input _ _ (c.in-Err.ensures.cut input left)

pub returns-in-Err-save_run-clause-cut : goal.returns-in-Err-save_run-clause-cut
returns-in-Err-save_run-clause-cut g c = λ input left.
    begun_stops c.in-Err-save_run.stop (Save c.args.turns c.args.name.now c.args.more) c.args.machine c.in-Ok.feed input _ _ _ (c.in-Ok.ensures.resumed input left)
    (λ bytes from fed. save_stopped _ c.args.name.now bytes from c.args.turns c.args.more c.args.machine.machine _ _ (c.in-Err-save_run.ensures.cut bytes from fed))

pub returns-clause-done : goal.returns-clause-done
returns-clause-done g c = λ input left.
    begun_ends (Save c.args.turns c.args.name.now c.args.more) c.args.machine _ c.in-Ok.feed input _ _ _ (c.in-Ok.ensures.resumed input left)
    (λ bytes from fed. save_ends c.args.name.now bytes from c.args.turns c.args.more c.args.machine.machine _ _ _ _ _ _ _ _ _ (c.in-Ok-save_run.ensures.ran bytes from fed)
    c.save_status.ensures.value c.taken.ensures)
