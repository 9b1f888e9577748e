-- What a cut of a run that saves leaves of the three files.
use Rattle.std.proofs.Common.{◌≡◌, ◌≢◌, ℕ, List, [], ◌∷◌, ◌++◌, length, take, codes, Some, refl, sym, ap, subst, ◌∙◌, arith, inl, inr}
use Rattle.std.proofs.lemmas.List.{take_all}
use Rattle.hart_turns.specs.Machine.{MachineState, cleared}
use Rattle.outside_io.specs.Content.{Held}
use Rattle.outside_acts.specs.declared.Stop.{Stop}
use Rattle.outside_acts.specs.Acts.{Act, Start, Append, IsPart, filed}
use Rattle.outside_acts.proofs.Algebra.{filed_joined}
use Rattle.outside_acts.proofs.Held.{start_empties}
use Rattle.sim_config.specs.Written.{meta_bytes}
use Rattle.image_saver.specs.declared.fault.Part.TheVariants.{Mainram, Bootram}
use Rattle.image_saver.specs.Checkpoint.{meta_file, part_file}
use Rattle.image_saver.specs.Saving.{file_acts, save_acts, saved_meta}
use Rattle.image_saver.proofs.LoadBack.{Files, endings_apart, files_made}
use Rattle.turn_runs.specs.Run.{Ran, no_logs, run}
use Rattle.turn_runs.proofs.Leaving.{CutOfTwo, cut_of_two, later, one_cut, sooner}
use Rattle.checkpoint_run.specs.Laws.{SaveCases}
use Rattle.checkpoint_run.specs.Leaves.{HasParts, NotTouched, SaveLeaves}
use Rattle.checkpoint_run.specs.Saving.{Saved}
use Rattle.checkpoint_run.proofs.Apart.{AllApart, apart_keeps, cut_apart, not_touched, run_apart}
use Rattle.checkpoint_run.proofs.Places.{cut_of_between, has_saved}

-- ---- three files of different names

-- the acts between the start of the meta text's file and its text
abbrev middle : List ℕ → List ℕ → List ℕ → List ℕ → List Act
middle mainram bootram ram rom = Start mainram ∷ Append mainram ram ∷ Start bootram ∷ Append bootram rom ∷ []

-- what a cut of their acts leaves of them
data FilesLeft (meta mainram bootram ram rom text : List ℕ) (before now : Held) : Type 0 where
  same : now ≡ before → FilesLeft meta mainram bootram ram rom text before now
  emptied : now meta ≡ Some [] → FilesLeft meta mainram bootram ram rom text before now
  parted : (size : ℕ) → Files meta mainram bootram ram rom (take size text) now → FilesLeft meta mainram bootram ram rom text before now

module _ (meta mainram bootram ram rom text : List ℕ) (m1 : meta ≢ mainram) (m2 : meta ≢ bootram) (m3 : mainram ≢ bootram) (held : Held) where
  middle_apart : AllApart meta (middle mainram bootram ram rom)
  middle_apart = (m1, (m1, (m2, (m2, tt))))

  -- the meta text's file is empty while the others are written
  still_empty : (left : List Act) → AllApart meta left → filed (Start meta ∷ left) held meta ≡ Some []
  unfolding filed
  still_empty left all = apart_keeps meta left (filed (Start meta ∷ []) held) all ∙ (start_empties meta held (filed (Start meta ∷ []) held) refl).0

  -- in the text itself
  text_left : (front left : List Act) → front ≡ Start meta ∷ (middle mainram bootram ram rom ++ left) → IsPart 0 (Append meta text) left
      → FilesLeft meta mainram bootram ram rom text held (filed front held)
  text_left front left is (inl none) =
      let all : front ≡ Start meta ∷ (middle mainram bootram ram rom) = is ∙ ap (λ (zs : List Act). Start meta ∷ (middle mainram bootram ram rom ++ zs)) none in
      emptied (ap (λ (zs : List Act). filed zs held meta) all ∙ still_empty (middle mainram bootram ram rom) middle_apart)
  text_left front left is (inr (n, some)) =
      let all : front ≡ file_acts meta mainram bootram ram rom (take n text) = is ∙ ap (λ (zs : List Act). Start meta ∷ (middle mainram bootram ram rom ++ zs)) some in
      parted n (subst (λ (zs : List Act). Files meta mainram bootram ram rom (take n text) (filed zs held)) (sym all)
      (files_made meta mainram bootram ram rom (take n text) held m1 m2 m3))

  -- after the start of the meta text's file
  rest_left : {stop : Stop} {from : ℕ} (front left : List Act) → front ≡ Start meta ∷ left
      → CutOfTwo stop from (middle mainram bootram ram rom) (Append meta text ∷ []) left
      → FilesLeft meta mainram bootram ram rom text held (filed front held)
  rest_left front left is (sooner cut) =
      emptied (ap (λ (zs : List Act). filed zs held meta) is ∙ still_empty left (cut_apart meta middle_apart cut))
  rest_left front left is (later last last_is cut) =
      text_left front last (is ∙ ap (λ (zs : List Act). Start meta ∷ zs) last_is) (one_cut (Append meta text) cut).1

  start_left : (front : List Act) → IsPart 0 (Start meta) front → FilesLeft meta mainram bootram ram rom text held (filed front held)
  unfolding filed
  start_left front (inl none) = same (ap (λ (zs : List Act). filed zs held) none)
  start_left front (inr some) = emptied (ap (λ (zs : List Act). filed zs held meta) some ∙ still_empty [] tt)

  files_left : {stop : Stop} {from : ℕ} (front : List Act) → CutOfTwo stop from (Start meta ∷ []) (middle mainram bootram ram rom ++ Append meta text ∷ []) front
      → FilesLeft meta mainram bootram ram rom text held (filed front held)
  files_left front (sooner cut) = start_left front (one_cut (Start meta) cut).1
  files_left front (later left is cut) = rest_left front left is (cut_of_two (middle mainram bootram ram rom) (Append meta text ∷ []) cut)

-- ---- the files of a checkpoint

json_mainram : (name : List ℕ) → meta_file name ≢ part_file Mainram name
json_mainram name = endings_apart name (codes ".json") (codes ".mainram") refl

json_bootram : (name : List ℕ) → meta_file name ≢ part_file Bootram name
json_bootram name = endings_apart name (codes ".json") (codes ".bootram") refl

mainram_bootram : (name : List ℕ) → part_file Mainram name ≢ part_file Bootram name
mainram_bootram name = endings_apart name (codes ".mainram") (codes ".bootram") refl

-- the text that is written of it
abbrev text_of : Saved → List ℕ
text_of saved = meta_bytes (saved_meta saved.machine saved.rom)

-- the acts of the save leave what their cut leaves, over files that were not touched
leaves_of : (name : List ℕ) (saved : Saved) (before mid now : Held) → NotTouched name before mid
    → FilesLeft (meta_file name) (part_file Mainram name) (part_file Bootram name) saved.machine.core.ram saved.rom (text_of saved) mid now
    → SaveLeaves name saved before now
leaves_of name saved before mid now none (same is) =
    let at = λ (file : List ℕ). ap (λ (h : Held). h file) is in
    inl (record {
      meta = at (meta_file name) ∙ none.meta;
      mainram = at (part_file Mainram name) ∙ none.mainram;
      bootram = at (part_file Bootram name) ∙ none.bootram;
    })
leaves_of name saved before mid now none (emptied is) = inr (inl is)
leaves_of name saved before mid now none (parted size files) =
    inr (inr (record { size = size; meta = files.meta_is; mainram = files.ram_is; bootram = files.rom_is }))

-- a checkpoint that was written whole, and then acts apart from it
whole_left : (name : List ℕ) (saved : Saved) (held : Held) (acts : List Act) → ((file : List ℕ) → AllApart file acts)
    → HasParts name saved (filed acts (filed (save_acts name saved.machine saved.rom) held))
unfolding save_acts
whole_left name saved held acts apart =
    let after : Held = filed (save_acts name saved.machine saved.rom) held in
    let files = files_made (meta_file name) (part_file Mainram name) (part_file Bootram name) saved.machine.core.ram saved.rom (text_of saved) held
    (json_mainram name) (json_bootram name) (mainram_bootram name) in
    let none = not_touched name acts after apart in
    record {
      size = length (text_of saved);
      meta = none.meta ∙ files.meta_is ∙ ap (λ (zs : List ℕ). Some zs) (sym (take_all (length (text_of saved)) (text_of saved) (omega arith)));
      mainram = none.mainram ∙ files.ram_is;
      bootram = none.bootram ∙ files.rom_is;
    }

-- ---- the run

module _ (stop : Stop) (name bytes : List ℕ) (first : Ran) (next : MachineState) (more : ℕ) (saved : Saved) (held : Held)
    (apart : (file : List ℕ) → AllApart file first.acts) where
  -- a front that goes beyond the turns before the save
  beyond : (left : List Act) {front : List Act} → front ≡ first.acts ++ left → filed front held ≡ filed left (filed first.acts held)
  beyond left is = ap (λ (zs : List Act). filed zs held) is ∙ filed_joined first.acts left held

  case_on : {from : ℕ} {front : List Act} (left : List Act) → front ≡ first.acts ++ left
      → CutOfTwo stop from (save_acts name saved.machine saved.rom) (run no_logs bytes next more).acts left
      → SaveLeaves name saved held (filed front held)
  unfolding save_acts
  case_on {front = front} left is (sooner cut) =
      let mid : Held = filed first.acts held in
      let here = leaves_of name saved held mid (filed left mid) (not_touched name first.acts held apart)
      (files_left (meta_file name) (part_file Mainram name) (part_file Bootram name) saved.machine.core.ram saved.rom (text_of saved)
      (json_mainram name) (json_bootram name) (mainram_bootram name) mid left (cut_of_two _ _ cut)) in
      subst (λ (h : Held). SaveLeaves name saved held h) (sym (beyond left is)) here
  case_on {front = front} left is (later last last_is cut) =
      let mid : Held = filed first.acts held in
      let on : filed left mid ≡ filed last (filed (save_acts name saved.machine saved.rom) mid) =
      ap (λ (zs : List Act). filed zs mid) last_is ∙ filed_joined (save_acts name saved.machine saved.rom) last mid in
      let whole = whole_left name saved mid last (λ file. cut_apart file (run_apart file bytes next more) cut) in
      subst (λ (h : Held). SaveLeaves name saved held h) (sym (beyond left is ∙ on)) (inr (inr whole))

  case_of : {from : ℕ} (front : List Act)
      → CutOfTwo stop from first.acts (save_acts name saved.machine saved.rom ++ (run no_logs bytes next more).acts) front
      → SaveLeaves name saved held (filed front held)
  case_of front (sooner cut) = inl (not_touched name front held (λ file. cut_apart file (apart file) cut))
  case_of front (later left is cut) = case_on left is (cut_of_two (save_acts name saved.machine saved.rom) (run no_logs bytes next more).acts cut)

pub save_cases : SaveCases
save_cases stop bytes from name m turns more ran saved front held is some cut =
    let first : Ran = run no_logs bytes m turns in
    let between = has_saved name bytes first more first.last ran saved is some in
    case_of stop name bytes first (cleared first.machine) more saved held (λ file. run_apart file bytes m turns) front
    (cut_of_between name bytes first more ran saved between cut)
