-- The boot's bytes were sent, and the input passed over; or one of the two was cut.
use Rattle.std.proofs.lemmas.Result.{IfErr-weaker, on_ok_weaker}
use Rattle.turn_runs.proofs.Resumes.{resumed, unpassed, unsent}
use Rattle.turn_runs.proofs.resuming.resume.Goals as goal

pub returns-in-Err-clause-cut : goal.returns-in-Err-clause-cut
returns-in-Err-clause-cut g c = λ bytes left. unsent _ _ left c.in-Err.ensures.cut

pub returns-clause-resumed : goal.returns-clause-resumed
returns-clause-resumed g c = on_ok_weaker c.pass_over.result (λ passed bytes left. resumed _ _ left c.in-Ok.ensures.whole passed) (rw c.taken.ensures at c.pass_over.ensures.passed)

pub returns-clause-cut : goal.returns-clause-cut
returns-clause-cut g c = IfErr-weaker c.pass_over.result _ _ (λ stop cut bytes left. unpassed _ _ left c.in-Ok.ensures.whole cut) (rw c.taken.ensures at c.pass_over.ensures.cut)
