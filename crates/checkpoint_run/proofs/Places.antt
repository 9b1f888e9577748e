-- Where a run that saves is cut.
use Rattle.std.proofs.Common.{◌≡◌, ◌⊎◌, ℕ, List, [], ◌∷◌, ◌++◌, Some, None, refl, sym, ap, subst, ◌∙◌, append_assoc, inl, inr}
use Rattle.std.specs.Prelude.{⊤}
use Rattle.hart_turns.specs.declared.machine.TurnEnd.{TurnEnd}
use Rattle.hart_turns.specs.declared.machine.TurnEnd.TheVariants.{Goes, Ended, BadHost}
use Rattle.hart_turns.specs.Machine.{MachineState, cleared}
use Rattle.outside_acts.specs.declared.Stop.{Stop}
use Rattle.outside_acts.specs.declared.Stop.TheVariants.{Input, Out, Files, NoMemory}
use Rattle.outside_acts.specs.Acts.{Act, ReadTo, Send, Start, Append, IsCut, StopsAt, read}
use Rattle.outside_acts.proofs.Algebra.{read_joined}
use Rattle.image_saver.specs.Saving.{save_acts}
use Rattle.turn_runs.specs.Run.{Ran, no_logs, run}
use Rattle.turn_runs.proofs.Leaving.{CutOfTwo, cut_in_turn, cut_of_two, later, sooner}
use Rattle.checkpoint_run.specs.Laws.{SavePlaces, UnsavedPlaces}
use Rattle.checkpoint_run.specs.Leaves.{InTurns, SavePlace}
use Rattle.checkpoint_run.specs.Saving.{ComesTo, SaveRan, Saved, saved_between, unsaved}
use Rattle.checkpoint_run.proofs.Apart.{cut_apart, not_touched, run_apart}

-- ---- what a run came to, by whether it saved

-- it saved this machine with this boot ROM
pub record Between (name input : List ℕ) (first : Ran) (more : ℕ) (ran : SaveRan) (saved : Saved) : Type 0 where
  pub is : ran ≡ saved_between name first saved.rom (run no_logs input (cleared first.machine) more)
  pub machine : saved.machine ≡ first.machine

none_saved : {A : Type 0} {saved : Saved} (first : Ran) (ran : SaveRan) → ran ≡ unsaved first → ran.saved ≡ Some saved → A
none_saved first ran is some =
    let none : ran.saved ≡ None = ap (λ (r : SaveRan). r.saved) is in
    absurd (cc)

pub has_saved : (name input : List ℕ) (first : Ran) (more : ℕ) (end : TurnEnd) (ran : SaveRan) (saved : Saved)
    → ComesTo name input first more end ran → ran.saved ≡ Some saved → Between name input first more ran saved
has_saved name input first more Goes ran saved (rom, is_rom, is) some =
    let second : Ran = run no_logs input (cleared first.machine) more in
    let which : ran.saved ≡ Some (record { machine = first.machine; rom = rom }) = ap (λ (r : SaveRan). r.saved) is in
    let whole : Some saved ≡ Some (record { machine = first.machine; rom = rom }) = sym some ∙ which in
    let same : saved ≡ record { machine = first.machine; rom = rom } = cc in
    record {
      is = is ∙ ap (λ (s : Saved). saved_between name first s.rom second) (sym same);
      machine = ap (λ (s : Saved). s.machine) same;
    }
has_saved name input first more (Ended code) ran saved comes some = none_saved first ran comes some
has_saved name input first more (BadHost word) ran saved comes some = none_saved first ran comes some

pub has_ended : (name input : List ℕ) (first : Ran) (more : ℕ) (end : TurnEnd) (ran : SaveRan)
    → ComesTo name input first more end ran → ran.saved ≡ None → ran ≡ unsaved first
has_ended name input first more Goes ran (rom, is_rom, is) none =
    let which : ran.saved ≡ Some (record { machine = first.machine; rom = rom }) = ap (λ (r : SaveRan). r.saved) is in
    absurd (cc)
has_ended name input first more (Ended code) ran comes none = comes
has_ended name input first more (BadHost word) ran comes none = comes

-- ---- stops at files

-- an act is on a file
abbrev IsOnFile : Act → Type 0
IsOnFile (ReadTo n) = ⊥
IsOnFile (Send bytes) = ⊥
IsOnFile (Start name) = ⊤
IsOnFile (Append name piece) = ⊤

abbrev AllOnFiles : List Act → Type 0
AllOnFiles [] = ⊤
AllOnFiles (act ∷ acts) = IsOnFile act × AllOnFiles acts

next_on_file : (done : List Act) (next : Act) (rest : List Act) → AllOnFiles (done ++ next ∷ rest) → IsOnFile next
next_on_file [] next rest all = all.0
next_on_file (d ∷ done) next rest all = next_on_file done next rest all.1

stop_on_file : (stop : Stop) (act : Act) → IsOnFile act → StopsAt stop act → (stop ≡ Files) ⊎ (stop ≡ NoMemory)
stop_on_file Files act on stops = inl refl
stop_on_file NoMemory act on stops = inr refl
stop_on_file Input (ReadTo n) on stops = absurd on
stop_on_file Input (Send bytes) on stops = absurd on
stop_on_file Input (Start name) on stops = absurd stops
stop_on_file Input (Append name piece) on stops = absurd stops
stop_on_file Out (ReadTo n) on stops = absurd on
stop_on_file Out (Send bytes) on stops = absurd on
stop_on_file Out (Start name) on stops = absurd stops
stop_on_file Out (Append name piece) on stops = absurd stops

save_on_files : (name : List ℕ) (m : MachineState) (rom : List ℕ) → AllOnFiles (save_acts name m rom)
unfolding save_acts
save_on_files name m rom = (tt, (tt, (tt, (tt, (tt, (tt, tt))))))

-- a save stops at a file, or for want of memory
save_stop_is : (stop : Stop) (from : ℕ) (name : List ℕ) (m : MachineState) (rom : List ℕ) (front : List Act)
    → IsCut stop from (save_acts name m rom) front → (stop ≡ Files) ⊎ (stop ≡ NoMemory)
save_stop_is stop from name m rom front cut =
    let all : AllOnFiles (cut.done ++ cut.next ∷ cut.rest) = subst AllOnFiles cut.acts_are (save_on_files name m rom) in
    stop_on_file stop cut.next (next_on_file cut.done cut.next cut.rest all) cut.stops

-- ---- the places

-- in the turns before the save
in_turns : (stop : Stop) (bytes : List ℕ) (from : ℕ) (name : List ℕ) (m : MachineState) (turns : ℕ) (front : List Act)
    → IsCut stop from (run no_logs bytes m turns).acts front → InTurns stop bytes from name m turns front
in_turns stop bytes from name m turns front cut = record {
  leaves = cut_in_turn stop no_logs bytes from m turns front cut;
  files = λ held. not_touched name front held (λ file. cut_apart file (run_apart file bytes m turns) cut);
}

module _ (stop : Stop) (bytes : List ℕ) (from : ℕ) (name : List ℕ) (m : MachineState) (turns more : ℕ) (saved : Saved) (front : List Act) where
  -- after the turns before the save
  place_on : (saved.machine ≡ (run no_logs bytes m turns).machine) → (left : List Act) → front ≡ (run no_logs bytes m turns).acts ++ left
      → CutOfTwo stop (read (run no_logs bytes m turns).acts from) (save_acts name saved.machine saved.rom)
      (run no_logs bytes (cleared (run no_logs bytes m turns).machine) more).acts left
      → SavePlace stop bytes from name m turns more saved front
  place_on machine left is (sooner cut) =
      inr (inl (record { left = left; front_is = is; cut = cut; stop_is = save_stop_is stop _ name saved.machine saved.rom left cut }))
  place_on machine left is (later last last_is cut) =
      let first : Ran = run no_logs bytes m turns in
      let acts : List Act = save_acts name saved.machine saved.rom in
      let at = sym (read_joined first.acts acts from) in
      let here : IsCut stop (read (first.acts ++ acts) from) (run no_logs bytes (cleared first.machine) more).acts last =
      subst (λ (n : ℕ). IsCut stop n (run no_logs bytes (cleared first.machine) more).acts last) at cut in
      let there : IsCut stop (read (first.acts ++ acts) from) (run no_logs bytes (cleared saved.machine) more).acts last =
      subst (λ (x : MachineState). IsCut stop (read (first.acts ++ acts) from) (run no_logs bytes (cleared x) more).acts last) (sym machine) here in
      inr (inr (record {
        left = last;
        front_is = is ∙ ap (λ (zs : List Act). first.acts ++ zs) last_is ∙ sym (append_assoc first.acts acts last);
        leaves = cut_in_turn stop no_logs bytes _ (cleared saved.machine) more last there;
      }))

  place_of : (saved.machine ≡ (run no_logs bytes m turns).machine)
      → CutOfTwo stop from (run no_logs bytes m turns).acts
      (save_acts name saved.machine saved.rom ++ (run no_logs bytes (cleared (run no_logs bytes m turns).machine) more).acts) front
      → SavePlace stop bytes from name m turns more saved front
  place_of machine (sooner cut) = inl (in_turns stop bytes from name m turns front cut)
  place_of machine (later left is cut) =
      place_on machine left is (cut_of_two (save_acts name saved.machine saved.rom) (run no_logs bytes (cleared (run no_logs bytes m turns).machine) more).acts cut)

-- the cut of a run that saved, in its parts
pub cut_of_between : {stop : Stop} {from : ℕ} {front : List Act} (name input : List ℕ) (first : Ran) (more : ℕ) (ran : SaveRan) (saved : Saved)
    → Between name input first more ran saved → IsCut stop from ran.acts front
    → CutOfTwo stop from first.acts (save_acts name saved.machine saved.rom ++ (run no_logs input (cleared first.machine) more).acts) front
cut_of_between {stop} {from} {front} name input first more ran saved between cut =
    let second : Ran = run no_logs input (cleared first.machine) more in
    let acts : ran.acts ≡ first.acts ++ (save_acts name saved.machine saved.rom ++ second.acts) =
    ap (λ (r : SaveRan). r.acts) between.is
    ∙ ap (λ (x : MachineState). first.acts ++ (save_acts name x saved.rom ++ second.acts)) (sym between.machine) in
    cut_of_two first.acts (save_acts name saved.machine saved.rom ++ second.acts)
    (subst (λ (zs : List Act). IsCut stop from zs front) acts cut)

pub save_places : SavePlaces
save_places stop bytes from name m turns more ran saved front is some cut =
    let first : Ran = run no_logs bytes m turns in
    let between = has_saved name bytes first more first.last ran saved is some in
    place_of stop bytes from name m turns more saved front between.machine (cut_of_between name bytes first more ran saved between cut)

pub unsaved_places : UnsavedPlaces
unsaved_places stop bytes from name m turns more ran front is none cut =
    let first : Ran = run no_logs bytes m turns in
    let ended = has_ended name bytes first more first.last ran is none in
    in_turns stop bytes from name m turns front
    (subst (λ (r : SaveRan). IsCut stop from r.acts front) ended cut)
