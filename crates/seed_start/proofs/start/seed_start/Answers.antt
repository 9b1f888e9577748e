-- The program stands at the front of zeros.
use Rattle.std.proofs.Common.{◌≤◌, ℕ, List, length, ap, ◌∙◌, arith}
use Rattle.guest_ram.specs.Bytes.{base}
use Rattle.machine_start.specs.declared.start.Start.{Start}
use Rattle.machine_start.specs.Start.{flat_ram, image_ram}
use Rattle.machine_start.proofs.Starts.{flat_started}
use Rattle.seed_start.specs.Seed.{shape_of}
use Rattle.seed_start.proofs.start.seed_start.Goals as goal

pub part_mut-requires : goal.part_mut-requires
part_mut-requires c = grind arith

pub returns-clause-start : goal.returns-clause-start
returns-clause-start c =
    let short : length c.deref.result.now ≤ flat_ram = grind arith in
    let laid = ap (λ (s : Start). s.ram) (flat_started c.deref.result.now c.copy_from_slice.new.self c.in_ok-ram.ram c.in_ok-ram.ensures short c.copy_from_slice.ensures.after) in
    ap (λ (ram : List ℕ). record { shape = shape_of c.args.seed; ram = ram; entry = base })
    (laid ∙ ap image_ram (c.deref.ensures.value ∙ c.in_ok-image.ensures.bytes))
