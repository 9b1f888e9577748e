-- What a run on bytes and the loss of reservations keep, and that so each run which goes on has a boot ROM.
use Rattle.std.proofs.Common.{◌≡◌, ℕ, zero, suc, ◌+◌, ◌<◌, List, [], ◌∷◌, ◌++◌, length, map, not, if◌then◌else◌, Option, Some, None, IfSome, refl, sym, ap, subst, ◌∙◌, inl, inr}
use Rattle.std.specs.Prelude.{IsTrue, is_none, nat_lt, slice_get}
use Rattle.std.specs.List.{position_or_len}
use Rattle.std.proofs.lemmas.List.{append-nil, length-map}
use Rattle.std.proofs.lemmas.List.Elements.{All-get_or}
use Rattle.std.proofs.lemmas.Option.{slice_get_cases}
use Rattle.hart_step.specs.declared.hart.Hart.{Hart}
use Rattle.hart_step.specs.Fit.{AreBytes}
use Rattle.hart_step.specs.Harts.{is_in_debug, lowest_in_debug}
use Rattle.hart_step.specs.Step.{unreserved, unreserved_hart}
use Rattle.hart_turns.specs.declared.machine.TurnEnd.{TurnEnd}
use Rattle.hart_turns.specs.declared.machine.TurnEnd.TheVariants.{Goes, Ended, BadHost}
use Rattle.hart_turns.specs.Machine.{MachineState, cleared, is_running}
use Rattle.hart_turns.proofs.Fits.{turns_stay_fit_lem, turns_stay_running_lem}
use Rattle.rom_gen.specs.Rom.{rom_bytes}
use Rattle.rom_gen.proofs.Promised.{roms_restore_lem}
use Rattle.outside_acts.specs.declared.Stop.{Stop}
use Rattle.outside_acts.specs.declared.Stop.TheVariants.{NoMemory}
use Rattle.outside_acts.specs.Acts.{Act, DidCut}
use Rattle.outside_acts.specs.Calls.{Stops}
use Rattle.outside_acts.specs.World.{World}
use Rattle.outside_acts.proofs.Algebra.{did_cut_sooner}
use Rattle.image_saver.specs.Saving.{save_acts}
use Rattle.job_words.specs.Job.{Logs}
use Rattle.turn_runs.specs.Run.{Ran, goes_on, no_logs, run}
use Rattle.checkpoint_run.specs.Laws.{EarlyCutsAreCuts, IsGoing, RunsKeep}
use Rattle.checkpoint_run.specs.Reaching.{SaveWasCut}
use Rattle.checkpoint_run.specs.Saving.{ComesTo, IsRomOf, SaveRan, saved_between, unsaved}
use Rattle.checkpoint_run.proofs.Joins.{save_unbegun}

-- ---- without reservations

-- the first hart in debug mode stands where it stood
first_in_debug : (harts : List Hart) → position_or_len is_in_debug (map unreserved_hart harts) ≡ position_or_len is_in_debug harts
first_in_debug [] = refl
first_in_debug (x ∷ xs) = ap (λ (n : ℕ). if not (is_in_debug x) then 1 + n else 0) (first_in_debug xs)

-- a machine without its reservations runs as it did
pub runs_cleared : (m : MachineState) {now : MachineState} → now ≡ cleared m → IsTrue (is_running m) → IsTrue (is_running now)
runs_cleared m is runs =
    let harts = m.core.harts in
    let first = first_in_debug harts in
    let many = length-map harts unreserved_hart in
    let same : lowest_in_debug (unreserved m.core) ≡ lowest_in_debug m.core =
    ap (λ (n : ℕ). if nat_lt n (length (map unreserved_hart harts)) then Some n else None) first
    ∙ ap (λ (n : ℕ). if nat_lt (position_or_len is_in_debug harts) n then Some (position_or_len is_in_debug harts) else None) many in
    subst (λ (x : MachineState). IsTrue (is_running x)) (sym is) (subst (λ (h : Option ℕ). IsTrue (is_none h)) (sym same) runs)

-- ---- bytes

-- the byte that a turn is offered
offered_byte : (input : List ℕ) (i : ℕ) → AreBytes input → IfSome (slice_get input i) (λ b. b < 256)
offered_byte input i bytes = elim (slice_get_cases input i).1 [
  | inl w ↦
      let here : w.0 < 256 = subst (λ (b : ℕ). b < 256) w.3 (All-get_or (λ (b : ℕ). b < 256) input i w.0 w.1 bytes) in
      subst (λ (o : Option ℕ). IfSome o (λ b. b < 256)) (sym w.2) here
  | inr w ↦ subst (λ (o : Option ℕ). IfSome o (λ b. b < 256)) (sym w.1) tt
]

keeps_on : (logs : Logs) (input : List ℕ) (ran : Ran) (end : TurnEnd) → AreBytes input → IsGoing ran.machine
    → IsGoing (goes_on logs input ran end).machine
keeps_on logs input ran Goes bytes going = record {
  fit = turns_stay_fit_lem ran.machine (slice_get input ran.machine.taken) going.fit (offered_byte input ran.machine.taken bytes);
  running = turns_stay_running_lem ran.machine (slice_get input ran.machine.taken) going.fit going.running;
}
keeps_on logs input ran (Ended code) bytes going = going
keeps_on logs input ran (BadHost word) bytes going = going

pub runs_keep : RunsKeep
unfolding run
runs_keep logs input m zero bytes going = going
runs_keep logs input m (suc n) bytes going =
    keeps_on logs input (run logs input m n) (run logs input m n).last bytes (runs_keep logs input m n bytes going)

-- ---- a boot ROM for a run that goes on

-- a machine that runs has one
pub has_rom : (m : MachineState) → IsGoing m → (rom : List ℕ) × IsRomOf m rom
has_rom m going =
    let rom = roms_restore_lem m going.fit going.running in
    (rom_bytes m.board m.core.harts, record { short = rom.0; bytes = rom.1; restores = rom.2 })

-- memory lacked for it
pub save_starved : (name : List ℕ) {m : MachineState} {stop : Stop} (w : World) → stop ≡ NoMemory → IsGoing m → SaveWasCut stop name m w w
save_starved name {m} {stop} w is going =
    let rom = has_rom m going in
    record {
      fit = going.fit;
      rom = rom.0;
      is = rom.1;
      stops = subst (λ (s : Stop). Stops s (save_acts name m rom.0) w w) (sym is) (save_unbegun name m rom.0 w);
    }

-- what a run comes to that began with this one
record Comes (name input : List ℕ) (first : Ran) (more : ℕ) (end : TurnEnd) : Type 0 where
  ran : SaveRan
  is : ComesTo name input first more end ran
  rest : List Act
  begins : ran.acts ≡ first.acts ++ rest

comes_to : (name input : List ℕ) (first : Ran) (more : ℕ) (end : TurnEnd) → IsGoing first.machine → Comes name input first more end
comes_to name input first more Goes going =
    let rom = has_rom first.machine going in
    let second : Ran = run no_logs input (cleared first.machine) more in
    record {
      ran = saved_between name first rom.0 second;
      is = (rom.0, rom.1, refl);
      rest = save_acts name first.machine rom.0 ++ second.acts;
      begins = refl;
    }
comes_to name input first more (Ended code) going = record { ran = unsaved first; is = refl; rest = []; begins = sym (append-nil first.acts) }
comes_to name input first more (BadHost word) going = record { ran = unsaved first; is = refl; rest = []; begins = sym (append-nil first.acts) }

pub early_cuts_are_cuts : EarlyCutsAreCuts
early_cuts_are_cuts stop bytes from name m turns more before after are going (inr (stops, sound)) = stops
early_cuts_are_cuts stop bytes from name m turns more before after are going (inl cut) =
    let first : Ran = run no_logs bytes m turns in
    let comes : Comes name bytes first more first.last = comes_to name bytes first more first.last (runs_keep no_logs bytes m turns are going) in
    record {
      ran = comes.ran;
      is = comes.is;
      cut = subst (λ (zs : List Act). DidCut stop bytes from zs before after) (sym comes.begins) (did_cut_sooner comes.rest cut);
    }
