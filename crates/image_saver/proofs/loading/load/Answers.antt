-- The first fault is that of the text, else of the image, else of the ROM.
use Rattle.std.proofs.Common.{refl, ◌∙◌}
use Rattle.std.proofs.lemmas.Result.{err_from_is_err_and}
use Rattle.image_saver.specs.declared.fault.Part.TheVariants.{Mainram, Bootram}
use Rattle.machine_start.proofs.Telling.{stays_on, told_before, told_both, told_map}
use Rattle.image_saver.proofs.Checkpoints.{accepted, image_refused, meta_refused, part_names, refused_on, rom_refused, text_names, told_three}
use Rattle.image_saver.proofs.loading.load.Goals as goal

pub returns-in_err-meta-clause-refused : goal.returns-in_err-meta-clause-refused
returns-in_err-meta-clause-refused g c =
    let p = err_from_is_err_and c.from_residual.result c.from_residual.ensures.1 in
    rw (p.1, p.2) (refused_on c.in_err-meta.field-0.0 _ _ _ _ _ refl
    (λ text. told_map _ _ (g.F.Files.held c.args.files.now) (λ held is. meta_refused held c.args.name.now _ is) text) c.in_err-meta.ensures.refused)

pub returns-in_err-ram-clause-refused : goal.returns-in_err-ram-clause-refused
returns-in_err-ram-clause-refused g c =
    let p = err_from_is_err_and c.from_residual-in_err-ram.result c.from_residual-in_err-ram.ensures.1 in
    let text = c.in_ok-meta.ensures in
    rw (p.1, p.2) (refused_on c.in_err-ram.field-0.0 _ _ _ _ _ text.leaves.reads
    (λ image. told_both _ _ _ (g.F.Files.held c.args.files.now) (λ held of_text is. image_refused held c.args.name.now _ _ of_text is) text.meta
    (told_before _ (g.F.Files.held c.args.files.now) _ text.leaves.content image)) c.in_err-ram.ensures.refused)

pub returns-in_err-rom-clause-refused : goal.returns-in_err-rom-clause-refused
returns-in_err-rom-clause-refused g c =
    let p = err_from_is_err_and c.from_residual-in_err-rom.result c.from_residual-in_err-rom.ensures.1 in
    let text = c.in_ok-meta.ensures in
    let image = c.in_ok-ram.ensures in
    let held_before = g.F.Files.held c.args.files.now in
    rw (p.1, p.2) (refused_on c.in_err-rom.field-0.0 _ _ _ _ _ (image.leaves.reads ∙ text.leaves.reads)
    (λ rom. told_three _ _ _ _ held_before (λ held of_text of_image is. rom_refused held c.args.name.now _ _ _ of_text of_image is)
    text.meta (told_before _ held_before _ text.leaves.content image.image)
    (told_before _ held_before _ (stays_on _ _ _ text.leaves.content image.leaves.content) rom)) c.in_err-rom.ensures.refused)

pub returns-in_err-meta-clause-lengths : goal.returns-in_err-meta-clause-lengths
returns-in_err-meta-clause-lengths g c =
    let p = err_from_is_err_and c.from_residual.result c.from_residual.ensures.1 in
    rw (p.1, p.2) (text_names c.in_err-meta.field-0.0 c.in_err-meta.ensures.lengths)

pub returns-in_err-ram-clause-lengths : goal.returns-in_err-ram-clause-lengths
returns-in_err-ram-clause-lengths g c =
    let p = err_from_is_err_and c.from_residual-in_err-ram.result c.from_residual-in_err-ram.ensures.1 in
    rw (p.1, p.2) (part_names Mainram c.in_ok-meta.meta _ c.in_err-ram.field-0.0 c.in_ok-meta.ensures.ranges refl c.in_err-ram.ensures.lengths)

pub returns-in_err-rom-clause-lengths : goal.returns-in_err-rom-clause-lengths
returns-in_err-rom-clause-lengths g c =
    let p = err_from_is_err_and c.from_residual-in_err-rom.result c.from_residual-in_err-rom.ensures.1 in
    rw (p.1, p.2) (part_names Bootram c.in_ok-meta.meta _ c.in_err-rom.field-0.0 c.in_ok-meta.ensures.ranges refl c.in_err-rom.ensures.lengths)

pub returns-clause-loaded : goal.returns-clause-loaded
returns-clause-loaded g c =
    let text = c.in_ok-meta.ensures in
    let image = c.in_ok-ram.ensures in
    let held_before = g.F.Files.held c.args.files.now in
    told_three _ _ _ _ held_before (λ held of_text of_image of_rom. accepted held c.args.name.now _ _ _ of_text of_image of_rom)
    text.meta (told_before _ held_before _ text.leaves.content image.image)
    (told_before _ held_before _ (stays_on _ _ _ text.leaves.content image.leaves.content) c.in_ok-rom.ensures.rom)
