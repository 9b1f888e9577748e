-- The configuration has no fault, and its program decides.
use Rattle.std.proofs.Common.{Ok, Err}
use Rattle.std.proofs.lemmas.Result.{IfErr-weaker, IfOk-weaker}
use Rattle.machine_start.proofs.Refusals.{refused_on}
use Rattle.machine_start.proofs.Starts.{config_accepted}
use Rattle.machine_start.proofs.Telling.{told_before, told_both}
use Rattle.machine_start.proofs.config.config_start.Goals as goal

pub returns-clause-start : goal.returns-clause-start
returns-clause-start g c =
    IfOk-weaker c.load_program.result _ _ (λ start program. told_both _ _ _ (g.F.Files.held c.args.files.now) (λ held is found. config_accepted held c.args.name.now _ (Ok start) is found) c.in_ok-config.ensures.config
    (told_before _ (g.F.Files.held c.args.files.now) _ c.in_ok-config.ensures.leaves.content program)) c.load_program.ensures.start

pub returns-clause-refused : goal.returns-clause-refused
returns-clause-refused g c =
    IfErr-weaker c.load_program.result _ _ (λ fault why. refused_on fault _ _ _ _ _ c.in_ok-config.ensures.leaves.reads
    (λ program. told_both _ _ _ (g.F.Files.held c.args.files.now) (λ held is found. config_accepted held c.args.name.now _ (Err fault) is found) c.in_ok-config.ensures.config
    (told_before _ (g.F.Files.held c.args.files.now) _ c.in_ok-config.ensures.leaves.content program)) why) c.load_program.ensures.refused
