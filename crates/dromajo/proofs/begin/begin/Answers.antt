-- What a seed gives, it gives whatever the files hold.
use Rattle.std.proofs.Common.{◌≡◌, Ok, IfSome, subst, sym}
use Rattle.outside_io.specs.Content.{Held}
use Rattle.job_words.specs.declared.jobs.Begin.{Begin}
use Rattle.job_words.specs.Seen.{begin_seen}
use Rattle.dromajo.specs.Jobs.{begun}
use Rattle.dromajo.specs.Works.{begun_with}
use Rattle.dromajo.proofs.Begins.{told_any}
use Rattle.dromajo.proofs.begin.begin.Goals as goal

pub returns-in-Ok-clause-machine : goal.returns-in-Ok-clause-machine
returns-in-Ok-clause-machine g c =
    let always = λ (held : Held). c.in-Ok.ensures.machine held in
    subst (λ (b : Begin). IfSome (g.F.Files.held c.args.files.now) (λ held. begun held (begin_seen b) ≡ Ok (begun_with c.in-Ok.machine))) (sym c.in-Seed.is)
    (told_any (g.F.Files.held c.args.files.now) _ always)
