-- The image fits, or it is too long.
use Rattle.std.proofs.Common.{◌∙◌}
use Rattle.machine_start.proofs.Starts.{image_accepted, image_too_long}
use Rattle.machine_start.proofs.Telling.{told_map}
use Rattle.machine_start.proofs.image.image_start.Goals as goal

pub returns-in_ok-flat_start-in-Bytes-clause-start : goal.returns-in_ok-flat_start-in-Bytes-clause-start
returns-in_ok-flat_start-in-Bytes-clause-start g c =
    let told = rw c.in-Bytes.is at c.in_ok-image.ensures.contents in
    told_map _ _ (g.F.Files.held c.args.files.now) (λ held is. image_accepted held c.args.name.now c.deref.result.now c.in_ok-flat_start-in-Bytes.field-0 (c.deref.ensures.value ∙ is.0) is.1 c.in_ok-flat_start-in-Bytes.ensures) told

pub returns-in-TooLong-clause-refused : goal.returns-in-TooLong-clause-refused
returns-in-TooLong-clause-refused g c =
    let told = rw c.in-TooLong.is at c.in_ok-image.ensures.contents in
    (told_map _ _ (g.F.Files.held c.args.files.now) (λ held is. image_too_long held c.args.name.now is.1) told, c.in_ok-image.ensures.cause.kept)
