-- A run, the save of the machine that it leads to, and the run after it.
use Rattle.std.proofs.Common.{◌≡◌, ◌≢◌, ◌≤◌, ℕ, ◌+◌, List, [], ◌++◌, IfSome, true, false, refl, sym, ap, subst, ◌∙◌, append_assoc, inl}
use Rattle.hart_turns.specs.declared.machine.TurnEnd.{TurnEnd}
use Rattle.hart_turns.specs.declared.machine.TurnEnd.TheVariants.{Goes, Ended, BadHost}
use Rattle.hart_turns.specs.Fit.{IsFit}
use Rattle.hart_turns.specs.Machine.{MachineState, cleared}
use Rattle.outside_io.specs.Content.{Told}
use Rattle.outside_acts.specs.declared.Stop.{Stop}
use Rattle.outside_acts.specs.declared.Stop.TheVariants.{NoMemory}
use Rattle.outside_acts.specs.Acts.{Act, Start, DidCut, read}
use Rattle.outside_acts.specs.Calls.{Does, Stops}
use Rattle.outside_acts.specs.World.{World}
use Rattle.outside_acts.proofs.Algebra.{did_cut_later, did_cut_sooner, did_none}
use Rattle.image_saver.specs.Checkpoint.{meta_file}
use Rattle.image_saver.specs.declared.fault.SaveFault.{SaveFault}
use Rattle.image_saver.specs.Saving.{FilesCut, save_acts, save_stop}
use Rattle.image_saver.proofs.Jobs.{on_save, save_stops}
use Rattle.turn_runs.specs.declared.feed.Feed.{Feed}
use Rattle.turn_runs.specs.Feeding.{IsFedFrom}
use Rattle.turn_runs.specs.Reaching.{IsRun, Reached}
use Rattle.turn_runs.specs.Run.{Ran, no_logs, run}
use Rattle.turn_runs.proofs.OneTurn.{reached_more}
use Rattle.turn_runs.proofs.Runs.{reached_both}
use Rattle.checkpoint_run.specs.Reaching.{IsSaveRun, SaveStops, SaveWasCut, WasSaved}
use Rattle.checkpoint_run.specs.Saving.{ComesTo, IsRomOf, IsSound, saved_between, unsaved}

-- ---- nothing was saved

comes_ended : (name bytes : List ℕ) (first : Ran) (more : ℕ) (end : TurnEnd) → end ≢ Goes
    → ComesTo name bytes first more end (unsaved first)
comes_ended name bytes first more Goes ends = absurd (ends refl)
comes_ended name bytes first more (Ended code) ends = refl
comes_ended name bytes first more (BadHost word) ends = refl

-- a run that ended before the save
pub run_unsaved : {bytes : List ℕ} {from : ℕ} (name : List ℕ) (start : MachineState) (turns more : ℕ) {now : MachineState}
    {made : ℕ} {end : TurnEnd} {feed : Feed} {a b : World} → end ≢ Goes
    → IsRun bytes from (run no_logs bytes start turns) now made end feed a b
    → IsSaveRun bytes from name start turns more now made end false feed a b
run_unsaved {bytes} name start turns more ends stands = record {
  ran = unsaved (run no_logs bytes start turns);
  is = comes_ended name bytes (run no_logs bytes start turns) more _ (λ goes. ends (stands.end_is ∙ goes));
  made_is = stands.made_is;
  end_is = stands.end_is;
  saved_is = refl;
  sound = tt;
  reached = stands.reached;
}

-- ---- the machine was saved

-- it has its boot ROM, and lost its reservations: its feed finds its place
pub saved_reached : (name rom : List ℕ) {bytes : List ℕ} {from : ℕ} {xs : List Act} {m now next : MachineState}
    {feed : Feed} {a b c : World} → Reached bytes from xs m now feed a b → Does (save_acts name now rom) b c
    → next ≡ cleared now → Reached bytes from (xs ++ save_acts name m rom) (cleared m) next feed a c
saved_reached name rom {bytes} {from} {xs} {m} {now} {next} {feed} {a} {b} {c} stands does is =
    let here : Does (save_acts name m rom) b c =
    subst (λ (x : MachineState). Does (save_acts name x rom) b c) stands.machine does in
    let all : Reached bytes from (xs ++ save_acts name m rom) m now feed a c =
    reached_more stands here ((on_save name m rom).unread (read xs from)) in
    record {
      machine = is ∙ ap cleared all.machine;
      fed = subst (λ (x : MachineState). IsFedFrom bytes x.taken (read (xs ++ save_acts name m rom) from) feed c.left) (sym is) all.fed;
      did = all.did;
    }

comes_saved : (name bytes : List ℕ) (first : Ran) (more : ℕ) (rom : List ℕ) (now : MachineState) → Goes ≡ first.last
    → now ≡ first.machine → IsRomOf now rom
    → ComesTo name bytes first more first.last (saved_between name first rom (run no_logs bytes (cleared first.machine) more))
comes_saved name bytes first more rom now goes machine is =
    let here : IsRomOf first.machine rom = subst (λ (x : MachineState). IsRomOf x rom) machine is in
    subst (λ (e : TurnEnd). ComesTo name bytes first more e (saved_between name first rom (run no_logs bytes (cleared first.machine) more)))
    goes (rom, here, refl)

-- what was saved of the machine that the run led to is sound
saved_sound : {m now : MachineState} (rom : List ℕ) → now ≡ m → IsFit now → now.taken ≤ 1000000000000 → IsRomOf now rom
    → IsSound (record { machine = m; rom = rom })
saved_sound rom machine fit few is =
    subst (λ (x : MachineState). IsSound (record { machine = x; rom = rom })) machine (record { fit = fit; few = few; rom = is })

-- and it went on to the end of its turns
pub run_saved : {bytes : List ℕ} {from : ℕ} (name : List ℕ) (start : MachineState) (turns more : ℕ)
    {now next last : MachineState} {made made' : ℕ} {end : TurnEnd} {feed feed' : Feed} {a b c d : World}
    → IsRun bytes from (run no_logs bytes start turns) now made Goes feed a b → (saved : WasSaved name now b c)
    → now.taken ≤ 1000000000000 → next ≡ cleared now
    → IsRun bytes (read ((run no_logs bytes start turns).acts ++ save_acts name (run no_logs bytes start turns).machine saved.rom) from)
    (run no_logs bytes next more) last made' end feed' c d
    → IsSaveRun bytes from name start turns more last (made + made') end true feed' a d
run_saved {bytes} {from} name start turns more {now} {next} {last} {made} {made'} {end} {feed} {feed'} {a} {b} {c} {d} stands saved few is later =
    let first : Ran = run no_logs bytes start turns in
    let acts : List Act = first.acts ++ save_acts name first.machine saved.rom in
    let second : Ran = run no_logs bytes (cleared first.machine) more in
    let at : Reached bytes from acts (cleared first.machine) next feed a c = saved_reached name saved.rom stands.reached saved.does is in
    let on : IsRun bytes (read acts from) second last made' end feed' c d =
    subst (λ (x : MachineState). IsRun bytes (read acts from) (run no_logs bytes x more) last made' end feed' c d) at.machine later in
    let all : Reached bytes from (acts ++ second.acts) second.machine last feed' a d = reached_both at on.reached in
    record {
      ran = saved_between name first saved.rom second;
      is = comes_saved name bytes first more saved.rom now stands.end_is stands.reached.machine saved.is;
      made_is = ap (λ (n : ℕ). n + made') stands.made_is ∙ ap (λ (n : ℕ). first.made + n) on.made_is;
      end_is = on.end_is;
      saved_is = refl;
      sound = saved_sound saved.rom stands.reached.machine saved.fit few saved.is;
      reached = subst (λ (zs : List Act). Reached bytes from zs second.machine last feed' a d)
          (append_assoc first.acts (save_acts name first.machine saved.rom) second.acts) all;
    }

-- ---- it was cut

-- no act of the save was done, for want of memory
pub save_unbegun : (name : List ℕ) (m : MachineState) (rom : List ℕ) (w : World) → Stops NoMemory (save_acts name m rom) w w
unfolding save_acts
save_unbegun name m rom w = λ bytes from is. record {
  front = [];
  cut = record {
    done = [];
    next = Start (meta_file name);
    rest = _;
    part = [];
    acts_are = refl;
    stops = tt;
    part_is = inl refl;
    left_are = refl;
  };
  did = did_none w is;
}

-- its fault is this stop
pub save_stops_as : (fault : SaveFault) {stop : Stop} (name : List ℕ) (m : MachineState) (rom : List ℕ) {before now : World}
    → stop ≡ save_stop fault → now.left ≡ before.left → now.written ≡ before.written
    → Told before.held now.held (FilesCut (save_stop fault) (save_acts name m rom)) → Stops stop (save_acts name m rom) before now
save_stops_as fault name m rom {before} {now} is left written told =
    subst (λ (s : Stop). Stops s (save_acts name m rom) before now) (sym is) (save_stops fault name m rom left written told)

-- it was cut, and what was saved is sound
abbrev pub StopsSoundly : Stop → List ℕ → ℕ → List ℕ → MachineState → ℕ → ℕ → World → World → Type 0
StopsSoundly stop bytes from name m turns more before after =
    (stops : SaveStops stop bytes from name m turns more before after) × IfSome stops.ran.saved IsSound

-- in the save
pub cut_in_save : {stop : Stop} {bytes : List ℕ} {from : ℕ} (name : List ℕ) (start : MachineState) (turns more : ℕ)
    {now : MachineState} {made : ℕ} {feed : Feed} {a b c : World}
    → IsRun bytes from (run no_logs bytes start turns) now made Goes feed a b → SaveWasCut stop name now b c
    → now.taken ≤ 1000000000000 → StopsSoundly stop bytes from name start turns more a c
cut_in_save {stop} {bytes} {from} name start turns more {now} {a = a} {b = b} {c = c} stands cut few =
    let first : Ran = run no_logs bytes start turns in
    let second : Ran = run no_logs bytes (cleared first.machine) more in
    let here : Stops stop (save_acts name first.machine cut.rom) b c =
    subst (λ (x : MachineState). Stops stop (save_acts name x cut.rom) b c) stands.reached.machine cut.stops in
    let stops : SaveStops stop bytes from name start turns more a c = record {
      ran = saved_between name first cut.rom second;
      is = comes_saved name bytes first more cut.rom now stands.end_is stands.reached.machine cut.is;
      cut = did_cut_later stands.reached.did (did_cut_sooner second.acts (here bytes (read first.acts from) stands.reached.did.left_is));
    } in
    (stops, saved_sound cut.rom stands.reached.machine cut.fit few cut.is)

-- in the turns after it
pub cut_after_save : {stop : Stop} {bytes : List ℕ} {from : ℕ} (name : List ℕ) (start : MachineState) (turns more : ℕ)
    {now next : MachineState} {made : ℕ} {feed : Feed} {a b c d : World}
    → IsRun bytes from (run no_logs bytes start turns) now made Goes feed a b → (saved : WasSaved name now b c)
    → now.taken ≤ 1000000000000 → next ≡ cleared now
    → DidCut stop bytes (read ((run no_logs bytes start turns).acts ++ save_acts name (run no_logs bytes start turns).machine saved.rom) from)
    (run no_logs bytes next more).acts c d
    → StopsSoundly stop bytes from name start turns more a d
cut_after_save {stop} {bytes} {from} name start turns more {now} {next} {feed = feed} {a} {b} {c} {d} stands saved few is cut =
    let first : Ran = run no_logs bytes start turns in
    let acts : List Act = first.acts ++ save_acts name first.machine saved.rom in
    let second : Ran = run no_logs bytes (cleared first.machine) more in
    let at : Reached bytes from acts (cleared first.machine) next feed a c = saved_reached name saved.rom stands.reached saved.does is in
    let on : DidCut stop bytes (read acts from) second.acts c d =
    subst (λ (x : MachineState). DidCut stop bytes (read acts from) (run no_logs bytes x more).acts c d) at.machine cut in
    let all : DidCut stop bytes from (acts ++ second.acts) a d = did_cut_later at.did on in
    let stops : SaveStops stop bytes from name start turns more a d = record {
      ran = saved_between name first saved.rom second;
      is = comes_saved name bytes first more saved.rom now stands.end_is stands.reached.machine saved.is;
      cut = subst (λ (zs : List Act). DidCut stop bytes from zs a d)
          (append_assoc first.acts (save_acts name first.machine saved.rom) second.acts) all;
    } in
    (stops, saved_sound saved.rom stands.reached.machine saved.fit few saved.is)
