-- The program is refused.
use Rattle.std.proofs.Common.{◌≡◌, Err, List, ℕ, subst, ◌∙◌}
use Rattle.std.proofs.lemmas.Result.{IfErr-weaker}
use Rattle.machine_start.specs.Start.{start_of_program}
use Rattle.machine_start.proofs.Refusals.{refused_on}
use Rattle.machine_start.proofs.Starts.{program_too_long}
use Rattle.machine_start.proofs.Telling.{told_map}
use Rattle.machine_start.proofs.program.load_program.Goals as goal

pub returns-in-Bytes-clause-refused : goal.returns-in-Bytes-clause-refused
returns-in-Bytes-clause-refused g c =
    let read = rw c.as_str.ensures at c.in_ok-file.ensures.contents in
    let told = rw c.in-Bytes.is at read in
    IfErr-weaker c.program_start.result _ _
    (λ fault why. refused_on fault (start_of_program c.args.config.now c.deref.result.now ≡ Err fault) _ _ (g.F.Files.read_faults c.read_file.new.files) _ c.in_ok-file.ensures.cause.kept
    (λ is. told_map _ _ (g.F.Files.held c.args.files.now) (λ held same. subst (λ (file : List ℕ). start_of_program c.args.config.now file ≡ Err fault) (c.deref.ensures.value ∙ same.0) is) told)
    (why (g.F.Files.read_faults c.read_file.new.files))) c.program_start.ensures.refused

pub returns-in-TooLong-clause-refused : goal.returns-in-TooLong-clause-refused
returns-in-TooLong-clause-refused g c =
    let read = rw c.as_str.ensures at c.in_ok-file.ensures.contents in
    let told = rw c.in-TooLong.is at read in
    (told_map _ _ (g.F.Files.held c.args.files.now) (λ held is. program_too_long c.args.config.now _ c.in-TooLong.len is.0 is.1) told, c.in_ok-file.ensures.cause.kept)
