-- What every step keeps, of a hart and of its core, and what is done to a core beside its steps.
use Rattle.std.proofs.Common.{◌≡◌, ◌⊎◌, inl, inr, ℕ, zero, suc, ◌+◌, ◌*◌, ◌%◌, ◌^◌, ◌<◌, ◌≤◌, ◌==◌, ◌&&◌, not, Bool, true, false, if◌then◌else◌, List, [], ◌∷◌, All, length, map, set, get_or, is_some, Option, Some, None, IfSome, refl, sym, subst, ap, ◌∙◌, arith, lit<}
use Rattle.std.specs.Prelude.{Result, Ok, Err, IfOk}
use Rattle.std.specs.List.{list_any}
use Rattle.std.proofs.lemmas.List.{length-map}
use Rattle.std.proofs.lemmas.List.Elements.{All-nil, All-push, All-replicate, All-set}
use Rattle.byteorder.specs.Endian.{little_bytes}
use Rattle.guest_ram.proofs.PartLemmas.{length-with_part}
use Rattle.rv_decode.specs.declared.Insn.{Insn}
use Rattle.csr_file.specs.declared.registers.Registers.{Registers}
use Rattle.csr_file.proofs.FitLaws.{reset_in_debug-fit, reset_registers-fit}
use Rattle.trap_rules.specs.declared.Cause.{Cause}
use Rattle.hart_step.specs.declared.event.Put.{Put}
use Rattle.hart_step.specs.declared.hart.Hart.{Hart}
use Rattle.hart_step.specs.Allowed.{IsAllowed}
use Rattle.hart_step.specs.Answers.{Given}
use Rattle.hart_step.specs.DebugReset.{debug_core, debug_harts, reset_debug_hart}
use Rattle.hart_step.specs.Effects.{Effect, Outcome, effect}
use Rattle.hart_step.specs.Fit.{AreBytes, IsFit, IsWellFormed}
use Rattle.hart_step.specs.Harts.{CoreState, hart_of, is_in_debug, reset_core, reset_hart, reset_harts}
use Rattle.hart_step.specs.Laws.{DebugResetIsFit, HostStaysFit, IsListedAccess, ResetIsFit, StepStaysFit, StepsStayFit, UnreservedStaysFit}
use Rattle.hart_step.specs.Memory.{◌>>=◌, Exception, MemoryState}
use Rattle.hart_step.specs.Step.{Fetched, HartAnswer, after_store, carried_out, commits, completed, core_after, decoded, fetched, hart_step, host_cleared, memory_of, or_illegal, or_raises, parcel, raises, retired, rom_after, step, step_after, traps, unreserved, unreserved_hart, without_reservation}
use Rattle.hart_step.proofs.DebugResets.{kept_debug}
use Rattle.hart_step.proofs.FitClasses.{FitEffect, FitOutcome, MemoryFits, Stands, same_memory}
use Rattle.hart_step.proofs.FitEffects.{effect_fits}
use Rattle.hart_step.proofs.FitHarts.{HartFits, counted_fits, enters_fits, same_hart}
use Rattle.hart_step.proofs.FitMemory.{stored_bytes}
use Rattle.hart_step.proofs.FitOffsets.{HasEvenOffset, decoded_even}
use Rattle.hart_step.proofs.Kept.{kept_lost, kept_reset, kept_step, kept_unreserved, lost_keeps}
use Rattle.hart_step.proofs.Lists.{after_length, lost_fit, unreserved_fit}

-- ---- one hart

record FitAnswer (n : ℕ) (hart : Hart) (memory : MemoryState) (a : HartAnswer) : Type 0 where
  hart_fits : HartFits hart a.hart
  memory_fits : MemoryFits memory a.memory
  access : IsListedAccess n a.access

fits_on : (first second third : Hart) → HartFits first second → HartFits second third → HartFits first third
fits_on first second third one two = record { formed = two.formed; number = two.number ∙ one.number; outside = λ out. two.outside (one.outside out) }

retired_fits : (b : Bool) (wrote : Option ℕ) (hart : Hart) → IsWellFormed hart → HartFits hart (retired b wrote hart)
retired_fits true wrote hart formed = same_hart hart formed
retired_fits false wrote hart formed = counted_fits true wrote hart formed

either_hart : (b : Bool) (hart x y : Hart) → HartFits hart x → HartFits hart y → HartFits hart (if b then x else y)
either_hart true hart x y first second = first
either_hart false hart x y first second = second

traps_fit : (e : Exception) (hart : Hart) → IsWellFormed hart → HartFits hart (traps e hart)
traps_fit e hart formed = either_hart (is_in_debug hart) hart hart _ (same_hart hart formed) (enters_fits (Cause.Exception e.cause) e.tval hart formed)

commits_fit : (n h : ℕ) (before : Hart) (memory : MemoryState) (word : ℕ) (e : Effect) → FitEffect n before memory e → FitAnswer n before memory (commits h before word e)
commits_fit n h before memory word e fits = record {
  hart_fits = fits_on before e.hart _ fits.hart_fits (retired_fits (is_in_debug before) e.done.wrote e.hart fits.hart_fits.formed);
  memory_fits = fits.memory_fits;
  access = fits.access;
}

raises_fit : (n h : ℕ) (hart : Hart) (memory : MemoryState) (x : Exception) → IsWellFormed hart → AreBytes memory.ram → FitAnswer n hart memory (raises h hart memory x)
raises_fit n h hart memory x formed ram = record { hart_fits = traps_fit x hart formed; memory_fits = same_memory memory ram; access = tt }

outcome_fits : (n h : ℕ) (hart : Hart) (memory : MemoryState) (word : ℕ) (outcome : Outcome) → FitOutcome n hart memory outcome → IfOk (outcome >>= λ e. Ok (commits h hart word e)) (FitAnswer n hart memory)
outcome_fits n h hart memory word (Ok e) fits = commits_fit n h hart memory word e fits
outcome_fits n h hart memory word (Err x) fits = tt

decoded_fits : (given : Given) (n h : ℕ) (hart : Hart) (memory : MemoryState) (f : Fetched) → Stands given f.len hart memory → (o : Option Insn) → IfSome o HasEvenOffset → IfOk (or_illegal f.word o >>= λ insn. effect (record { given = given; harts = n; word = f.word; len = f.len }) insn hart memory >>= λ e. Ok (commits h hart f.word e)) (FitAnswer n hart memory)
decoded_fits given n h hart memory f s None even = tt
decoded_fits given n h hart memory f s (Some insn) even = outcome_fits n h hart memory f.word _ (effect_fits (record { given = given; harts = n; word = f.word; len = f.len }) insn hart memory s even)

-- what is fetched has an even length
abbrev HasEvenLength : Result Fetched Exception → Type 0
HasEvenLength r = IfOk r (λ f. f.len % 2 ≡ 0)

either_even : (b : Bool) (x y : Result Fetched Exception) → HasEvenLength x → HasEvenLength y → HasEvenLength (if b then x else y)
either_even true x y first second = first
either_even false x y first second = second

high_even : (low : ℕ) (r : Result ℕ Exception) → HasEvenLength (r >>= λ high. Ok (record { word = low + 0x10000 * high; len = 4 }))
high_even low (Ok high) = refl
high_even low (Err e) = tt

low_even : (hart : Hart) (memory : MemoryState) (r : Result ℕ Exception) → HasEvenLength (r >>= completed hart memory)
low_even hart memory (Ok low) = either_even (low % 4 == 3) _ (Ok (record { word = low; len = 2 })) (high_even low _) refl
low_even hart memory (Err e) = tt

fetched_fits : (given : Given) (n h : ℕ) (hart : Hart) (memory : MemoryState) → IsWellFormed hart → AreBytes memory.ram → AreBytes memory.rom → IsAllowed hart given → (r : Result Fetched Exception) → HasEvenLength r → IfOk (r >>= carried_out given n h hart memory) (FitAnswer n hart memory)
fetched_fits given n h hart memory formed ram rom allowed (Err e) even = tt
fetched_fits given n h hart memory formed ram rom allowed (Ok f) even =
    decoded_fits given n h hart memory f (record { formed = formed; ram = ram; rom = rom; allowed = allowed; len_even = even }) (decoded f.word f.len) (decoded_even f.word f.len)

answer_fits : (n h : ℕ) (hart : Hart) (memory : MemoryState) → IsWellFormed hart → AreBytes memory.ram → (r : Result HartAnswer Exception) → IfOk r (FitAnswer n hart memory) → FitAnswer n hart memory (or_raises h hart memory r)
answer_fits n h hart memory formed ram (Ok a) fits = fits
answer_fits n h hart memory formed ram (Err x) fits = raises_fit n h hart memory x formed ram

interrupt_fits : (given : Given) (n h : ℕ) (hart : Hart) (memory : MemoryState) → IsWellFormed hart → AreBytes memory.ram → AreBytes memory.rom → IsAllowed hart given → (o : Option ℕ) → FitAnswer n hart memory (step_after o given n h hart memory)
interrupt_fits given n h hart memory formed ram rom allowed (Some cause) = record {
  hart_fits = enters_fits (Cause.Interrupt cause) 0 hart formed;
  memory_fits = same_memory memory ram;
  access = tt;
}
interrupt_fits given n h hart memory formed ram rom allowed None =
    answer_fits n h hart memory formed ram (fetched hart memory >>= carried_out given n h hart memory)
    (fetched_fits given n h hart memory formed ram rom allowed (fetched hart memory) (low_even hart memory (parcel hart memory hart.pc)))

hart_fits : (given : Given) (n h : ℕ) (hart : Hart) (memory : MemoryState) → IsWellFormed hart → AreBytes memory.ram → AreBytes memory.rom → IsAllowed hart given → FitAnswer n hart memory (hart_step given n h hart memory)
unfolding hart_step
hart_fits given n h hart memory formed ram rom allowed = interrupt_fits given n h hart memory formed ram rom allowed given.interrupt

-- ---- its core

-- what is out of debug mode stays out of it, also past the end of the list
keeps_outside : (f : Hart → Hart) → ((x : Hart) → (f x).csrs ≡ x.csrs) → (xs : List Hart) (k : ℕ) (d : Hart) → is_in_debug (get_or xs k d) ≡ false → is_in_debug (get_or (map f xs) k d) ≡ false
keeps_outside f keeps [] k d out = out
keeps_outside f keeps (x ∷ xs) zero d out = ap (λ (r : Registers). is_some r.debug) (keeps x) ∙ out
keeps_outside f keeps (x ∷ xs) (suc k) d out = keeps_outside f keeps xs k d out

lost_outside : (put : Option Put) (xs : List Hart) (k : ℕ) (d : Hart) → is_in_debug (get_or xs k d) ≡ false → is_in_debug (get_or (after_store put xs) k d) ≡ false
lost_outside None xs k d out = out
lost_outside (Some put) xs k d out = keeps_outside (without_reservation put.at put.size) (lost_keeps put.at put.size) xs k d out

set_outside : (xs : List Hart) (h : ℕ) (y : Hart) (k : ℕ) (d : Hart) → (k ≡ h → is_in_debug y ≡ false) → is_in_debug (get_or xs k d) ≡ false → is_in_debug (get_or (set xs h y) k d) ≡ false
set_outside [] h y k d own out = out
set_outside (x ∷ xs) zero y zero d own out = own refl
set_outside (x ∷ xs) zero y (suc k) d own out = out
set_outside (x ∷ xs) (suc h) y zero d own out = out
set_outside (x ∷ xs) (suc h) y (suc k) d own out = set_outside xs h y k d (λ e. own (ap suc e)) out

after_fit : (put : Option Put) (harts : List Hart) → All IsWellFormed harts → All IsWellFormed (after_store put harts)
after_fit None harts fit = fit
after_fit (Some put) harts fit = lost_fit put.at put.size harts fit

either_rom : (b : Bool) (before after : List ℕ) → after ≡ before → ((if b then [] else after) ≡ before) ⊎ ((if b then [] else after) ≡ [])
either_rom true before after same = inr refl
either_rom false before after same = inl same

rom_bytes : (before after : List ℕ) → AreBytes before → (after ≡ before) ⊎ (after ≡ []) → AreBytes after
rom_bytes before after are (inl same) = subst AreBytes (sym same) are
rom_bytes before after are (inr none) = subst AreBytes (sym none) (All-nil (λ b. b < 256))

core_fits : (core : CoreState) (h : ℕ) → IsFit core → h < length core.harts → (a : HartAnswer) → FitAnswer (length core.harts) (hart_of core h) (memory_of core) a → StepStaysFit core (core_after core h (hart_of core h) a)
core_fits core h fit within a fits =
    let now : CoreState = (core_after core h (hart_of core h) a).core in
    let formed : All IsWellFormed now.harts = All-set IsWellFormed (after_store a.stored core.harts) h a.hart fits.hart_fits.formed (after_fit a.stored core.harts fit.kept.harts) in
    let left : Bool = (is_in_debug (hart_of core h) && not (is_in_debug a.hart)) && not (list_any is_in_debug now.harts) in
    let rom : (now.rom ≡ core.rom) ⊎ (now.rom ≡ []) = either_rom left core.rom a.memory.rom fits.memory_fits.rom in
    let rom_is : now.rom ≡ rom_after (hart_of core h) a.hart now.harts core.rom = ap (λ (r : List ℕ). rom_after (hart_of core h) a.hart now.harts r) fits.memory_fits.rom in
    record {
      core = record {
        fit = record {
          kept = kept_step core now a.stored h (hart_of core h) a.hart fit.kept within refl fits.hart_fits.number formed refl rom_is;
          ram = fits.memory_fits.bytes;
          rom = rom_bytes core.rom now.rom fit.rom rom;
        };
        harts = after_length a.stored core.harts h a.hart;
        ram = fits.memory_fits.long;
        rom = rom;
        outside = λ k out. set_outside (after_store a.stored core.harts) h a.hart k (reset_hart 0 0)
            (λ e. fits.hart_fits.outside (subst (λ (i : ℕ). is_in_debug (hart_of core i) ≡ false) e out))
            (lost_outside a.stored core.harts k (reset_hart 0 0) out);
      };
      access = fits.access;
    }

pub steps_stay_fit_lem : StepsStayFit
unfolding step
steps_stay_fit_lem given core h fit within allowed =
    core_fits core h fit within _ (hart_fits given (length core.harts) h (hart_of core h) (memory_of core) (fit.kept.harts h (reset_hart 0 0) within) fit.ram fit.rom allowed)

-- ---- beside the steps

pub host_stays_fit : HostStaysFit
host_stays_fit core at fit =
    let now : CoreState = host_cleared core at in
    record {
      fit = record {
        kept = kept_lost core now at 8 fit.kept (lost_fit at 8 core.harts fit.kept.harts) refl refl;
        ram = stored_bytes core.ram at 8 0 fit.ram;
        rom = fit.rom;
      };
      harts = length-map core.harts _;
      ram = length-with_part core.ram at (little_bytes 8 0);
      rom = inl refl;
      outside = λ k out. keeps_outside (without_reservation at 8) (lost_keeps at 8) core.harts k (reset_hart 0 0) out;
    }

pub unreserved_stays_fit : UnreservedStaysFit
unreserved_stays_fit core fit =
    let now : CoreState = unreserved core in
    record {
      fit = record {
        kept = kept_unreserved core now fit.kept (unreserved_fit core.harts fit.kept.harts) refl refl;
        ram = fit.ram;
        rom = fit.rom;
      };
      harts = length-map core.harts unreserved_hart;
      ram = refl;
      rom = inl refl;
      outside = λ k out. keeps_outside unreserved_hart (λ x. refl) core.harts k (reset_hart 0 0) out;
    }

-- ---- reset

reset_formed : (h entry : ℕ) → h < 8 → entry % 2 ≡ 0 → entry < 2 ^ 64 → IsWellFormed (reset_hart h entry)
reset_formed h entry within even below = record {
  fit = record { zero = refl; even = even; aligned = tt };
  pc = below;
  count = refl;
  values = All-replicate (λ v. v < 2 ^ 64) 32 0 (lit< tt);
  registers = reset_registers-fit h within;
  reservation = tt;
}

resets_formed : (n entry : ℕ) → n ≤ 8 → entry % 2 ≡ 0 → entry < 2 ^ 64 → All IsWellFormed (reset_harts n entry)
unfolding reset_harts
resets_formed zero entry most even below = All-nil IsWellFormed
resets_formed (suc n) entry most even below =
    All-push IsWellFormed (reset_harts n entry) (reset_hart n entry) (resets_formed n entry (omega (arith, most)) even below) (reset_formed n entry (omega (arith, most)) even below)

pub reset_is_fit_lem : ResetIsFit
reset_is_fit_lem harts ram entry some most are even below = record {
  kept = kept_reset harts entry (reset_core harts ram entry) some most (resets_formed harts entry most even below) refl refl;
  ram = are;
  rom = All-nil (λ b. b < 256);
}

debug_formed : (h : ℕ) → h < 8 → IsWellFormed (reset_debug_hart h)
debug_formed h within = record {
  fit = record { zero = refl; even = refl; aligned = tt };
  pc = lit< tt;
  count = refl;
  values = All-replicate (λ v. v < 2 ^ 64) 32 0 (lit< tt);
  registers = reset_in_debug-fit h within;
  reservation = tt;
}

debugs_formed : (n : ℕ) → n ≤ 8 → All IsWellFormed (debug_harts n)
unfolding debug_harts
debugs_formed zero most = All-nil IsWellFormed
debugs_formed (suc n) most =
    All-push IsWellFormed (debug_harts n) (reset_debug_hart n) (debugs_formed n (omega (arith, most))) (debug_formed n (omega (arith, most)))

pub debug_reset_is_fit_lem : DebugResetIsFit
debug_reset_is_fit_lem harts ram rom some most ram_are rom_are room = record {
  kept = kept_debug harts (debug_core harts ram rom) some most (debugs_formed harts most) refl room;
  ram = ram_are;
  rom = rom_are;
}
