-- What was saved is loaded.
use Rattle.std.proofs.Common.{◌≡◌, ◌≢◌, ◌≤◌, ℕ, true, false, List, [], ◌∷◌, ◌++◌, length, codes, Some, Option, Ok, unwrap_or, refl, sym, ap, ◌∙◌, arith, ◌==◌}
use Rattle.std.proofs.lemmas.List.{append_cancel_left}
use Rattle.std.proofs.lemmas.Slice.Eq.{bytes_eq-Decides}
use Rattle.std.specs.Str.{bytes_eq}
use Rattle.outside_io.specs.Content.{Held, file_of}
use Rattle.outside_acts.specs.Acts.{Start, Append, filed}
use Rattle.outside_acts.proofs.Held.{append_grows, start_empties}
use Rattle.hart_turns.specs.Fit.{IsFit}
use Rattle.hart_turns.specs.Machine.{MachineState}
use Rattle.sim_config.proofs.ReadBack.{meta_bytes_read}
use Rattle.sim_config.specs.Reading.{meta_of}
use Rattle.sim_config.specs.Ranges.{IsMeta}
use Rattle.sim_config.specs.Written.{meta_bytes}
use Rattle.image_saver.specs.declared.fault.Part.{Part}
use Rattle.image_saver.specs.declared.fault.Part.TheVariants.{Mainram, Bootram}
use Rattle.image_saver.specs.Checkpoint.{meta_file, of_length, part_file}
use Rattle.image_saver.specs.Laws.{SavedIsLoaded}
use Rattle.image_saver.specs.Saving.{file_acts, save_acts, saved_meta}
use Rattle.image_saver.proofs.Checkpoints.{accepted}
use Rattle.image_saver.proofs.Pieces.{made, made_has}

-- ---- the three names differ

pub endings_apart : (name xs ys : List ℕ) → bytes_eq xs ys ≡ false → name ++ xs ≢ name ++ ys
endings_apart name xs ys apart same = cc (apart, (bytes_eq-Decides xs ys).1 (append_cancel_left name xs ys same))

-- ---- what the files hold

-- what three files of different names hold after the acts
pub record Files (meta mainram bootram ram rom text : List ℕ) (held : Held) : Type 0 where
  pub meta_is : held meta ≡ Some text
  pub ram_is : held mainram ≡ Some ram
  pub rom_is : held bootram ≡ Some rom

pub files_made : (meta mainram bootram ram rom text : List ℕ) (held : Held) → meta ≢ mainram → meta ≢ bootram → mainram ≢ bootram
    → Files meta mainram bootram ram rom text (filed (file_acts meta mainram bootram ram rom text) held)
unfolding filed
files_made meta mainram bootram ram rom text held m1 m2 m3 =
    let started : Held = filed (Start meta ∷ []) held in
    let imaged : Held = filed (made mainram ram) started in
    let coded : Held = filed (made bootram rom) imaged in
    let all : Held = filed (Append meta text ∷ []) coded in
    let first = start_empties meta held started refl in
    let second = made_has mainram ram started imaged refl in
    let third = made_has bootram rom imaged coded refl in
    let last = append_grows meta text coded all refl in
    let empty : coded meta ≡ Some [] = third.1 meta m2 ∙ second.1 meta m1 ∙ first.0 in
    record {
      meta_is = last.0 ∙ ap (λ (o : Option (List ℕ)). Some (unwrap_or o [] ++ text)) empty;
      ram_is = last.1 mainram (λ e. m1 (sym e)) ∙ third.1 mainram m3 ∙ second.0;
      rom_is = last.1 bootram (λ e. m2 (sym e)) ∙ third.0;
    }

of_its_length : (part : Part) (want : ℕ) (held : Held) (file bytes : List ℕ) → held file ≡ Some bytes → length bytes ≡ want
    → of_length part want (file_of held file) ≡ Ok bytes
of_its_length part want held file bytes is long =
    let tested : (length bytes == want) ≡ true = grind arith in
    rw (is, tested) refl

-- ---- the law

saved_fits : (m : MachineState) (rom : List ℕ) → IsFit m → m.taken ≤ 1000000000000 → length rom ≤ 131072 → IsMeta (saved_meta m rom)
saved_fits m rom fit few room = record { shape = fit.shape.shape_fit; rom = room; taken = few; version = refl }

pub saved_is_loaded : SavedIsLoaded
unfolding save_acts
saved_is_loaded held name m rom fit few room =
    let text : List ℕ = meta_bytes (saved_meta m rom) in
    let after : Held = filed (save_acts name m rom) held in
    let files = files_made (meta_file name) (part_file Mainram name) (part_file Bootram name) m.core.ram rom text held
    (endings_apart name (codes ".json") (codes ".mainram") refl)
    (endings_apart name (codes ".json") (codes ".bootram") refl)
    (endings_apart name (codes ".mainram") (codes ".bootram") refl) in
    accepted after name (saved_meta m rom) m.core.ram rom
    (ap (λ (o : Option (List ℕ)). meta_of (unwrap_or o [])) files.meta_is ∙ meta_bytes_read (saved_meta m rom) (saved_fits m rom fit few room))
    (of_its_length Mainram m.shape.ram after (part_file Mainram name) m.core.ram files.ram_is fit.shape.ram)
    (of_its_length Bootram (length rom) after (part_file Bootram name) rom files.rom_is refl)
