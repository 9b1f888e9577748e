-- What is restored, a front of the bytes, and what may be answered, from what the job leaves.
use Rattle.std.proofs.Common.{Global, List, String, subst}
use Rattle.job_words.specs.CommandLine.{job_of, texts}
use Rattle.outside_acts.specs.World.{World}
use Rattle.dromajo.specs.Complete.{MayAnswer}
use Rattle.dromajo.specs.TopCall.{Reporting, RestoresSaved, SendsFront, report_of, told_of}
use Rattle.dromajo.proofs.Answered.{answered_cause, finished_leaves, leaves_front}
use Rattle.dromajo.proofs.Complete.{answered_may}
use Rattle.dromajo.proofs.Restored.{finished_restores}
use Rattle.dromajo.proofs.top.dromajo.Goals as goal

pub returns-clause-restored : goal.returns-clause-restored
returns-clause-restored g c = λ finished.
    let before : World = told_of g.F.Files g.I.Source g.O.Sink c.args.files.now c.args.input.now c.args.out.now in
    let now : World = told_of g.F.Files g.I.Source g.O.Sink c.perform-finished.new.files c.perform-finished.new.input c.perform-finished.new.out in
    subst (λ (words : List (String Global)). RestoresSaved (job_of (texts words)) before now) c.as_slice.ensures.value
    (finished_restores (job_of (texts c.as_slice.result.now)) c.finish.result before now
    (finished_leaves (job_of (texts c.as_slice.result.now)) c.perform-finished.result.status c.finish.result _ before now finished c.finish.ensures.reports.status c.perform-finished.ensures.leaves))

pub returns-clause-front : goal.returns-clause-front
returns-clause-front g c =
    let before : World = told_of g.F.Files g.I.Source g.O.Sink c.args.files.now c.args.input.now c.args.out.now in
    let now : World = told_of g.F.Files g.I.Source g.O.Sink c.perform-finished.new.files c.perform-finished.new.input c.perform-finished.new.out in
    subst (λ (words : List (String Global)). SendsFront (job_of (texts words)) before now) c.as_slice.ensures.value (leaves_front (job_of (texts c.as_slice.result.now)) c.perform-finished.result.status _ before now c.perform-finished.ensures.leaves)

pub returns-clause-answers : goal.returns-clause-answers
returns-clause-answers g c = λ none.
    let before : World = told_of g.F.Files g.I.Source g.O.Sink c.args.files.now c.args.input.now c.args.out.now in
    let now : World = told_of g.F.Files g.I.Source g.O.Sink c.perform-finished.new.files c.perform-finished.new.input c.perform-finished.new.out in
    let old : Reporting = report_of g.E.Sink c.args.report.now in
    let new : Reporting = report_of g.E.Sink c.finish.new.report in
    let job = job_of (texts c.as_slice.result.now) in
    subst (λ (words : List (String Global)). MayAnswer (job_of (texts words)) before c.finish.result) c.as_slice.ensures.value
    (answered_may job c.finish.result before now old new
    (answered_cause c.perform-finished.result.status c.finish.result job before now old new c.finish.ensures.reports.status c.perform-finished.ensures.cause c.finish.ensures.cause)
    (λ finished. finished_leaves job c.perform-finished.result.status c.finish.result _ before now finished c.finish.ensures.reports.status c.perform-finished.ensures.leaves)
    none)
