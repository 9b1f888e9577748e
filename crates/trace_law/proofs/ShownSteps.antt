-- What a step of a well-formed core shows has a spelling.
use Rattle.std.proofs.Common.{◌≡◌, ℕ, ◌+◌, ◌*◌, ◌%◌, ◌^◌, ◌<◌, ◌≤◌, ◌==◌, ◌&&◌, Bool, true, false, if◌then◌else◌, length, Option, Some, None, IfSome, IsTrue, refl, subst, arith, lit<}
use Rattle.std.specs.Prelude.{Result, Ok, Err}
use Rattle.guest_ram.specs.Bytes.{has_part, most_bytes, number_at}
use Rattle.rv_decode.specs.declared.Insn.{Insn}
use Rattle.trap_rules.specs.Interrupt.{may_be_taken}
use Rattle.sv39_walk.specs.declared.Kind.{Kind}
use Rattle.hart_step.specs.declared.hart.Hart.{Hart}
use Rattle.hart_step.specs.Allowed.{IsAllowed}
use Rattle.hart_step.specs.Answers.{Given}
use Rattle.hart_step.specs.Effects.{Outcome, Situation, effect}
use Rattle.hart_step.specs.Events.{IsWritten}
use Rattle.hart_step.specs.Fit.{AreBytes, IsFit, IsWellFormed}
use Rattle.hart_step.specs.Harts.{CoreState, hart_of, is_in_debug, reset_hart}
use Rattle.hart_step.specs.Memory.{◌>>=◌, Exception, MemoryState, access_cause, acting_mode, exception, physical, rom_holds, rom_number}
use Rattle.hart_step.specs.Step.{Fetched, HartAnswer, carried_out, commits, completed, decoded, fetched, hart_step, memory_of, or_illegal, or_raises, parcel, step, step_after}
use Rattle.hart_step.proofs.Causes.{taken_small}
use Rattle.hart_step.proofs.FitClasses.{FitOutcome}
use Rattle.hart_step.proofs.FitEffects.{effect_fits}
use Rattle.hart_step.proofs.FitHarts.{register_below}
use Rattle.hart_step.proofs.FitOffsets.{HasEvenOffset, decoded_even}
use Rattle.hart_step.proofs.FitValues.{number_below, rom_number_below}
use Rattle.commit_log.specs.Spelling.{IsSpellable, IsWrittenWord}
use Rattle.trace_law.proofs.Destinations.{WritesRegister, decoded_writes}
use Rattle.trace_law.proofs.ShownClasses.{HasWritten, IsRaised, OutcomeShown, Raises, physical_raises}
use Rattle.trace_law.proofs.ShownEffects.{effect_shown}

-- where a step of a hart begins
record Starts (given : Given) (hart : Hart) (memory : MemoryState) : Type 0 where
  formed : IsWellFormed hart
  allowed : IsAllowed hart given
  ram : AreBytes memory.ram
  rom : AreBytes memory.rom
  room : length memory.ram ≤ most_bytes

-- ---- fetch

abbrev ParcelShown : Result ℕ Exception → Type 0
ParcelShown (Ok v) = v < 0x10000
ParcelShown (Err x) = IsRaised x

held_by : (va in_ram in_rom : ℕ) (is_ram is_rom : Bool) → va < 2 ^ 64 → in_ram < 0x10000 → in_rom < 0x10000 → ParcelShown (if is_ram then Ok in_ram else if is_rom then Ok in_rom else Err (exception (access_cause Kind.Fetch) va))
held_by va in_ram in_rom true is_rom is first second = first
held_by va in_ram in_rom false true is first second = second
held_by va in_ram in_rom false false is first second = (lit< tt, is)

parcel_from : (given : Given) (hart : Hart) (memory : MemoryState) → Starts given hart memory → (va : ℕ) → va < 2 ^ 64 → (a : Result ℕ Exception) → Raises a → ParcelShown (a >>= λ at. if has_part memory.ram at 2 then Ok (number_at memory.ram at 2) else if is_in_debug hart && rom_holds memory.rom at 2 then Ok (rom_number memory.rom at 2) else Err (exception (access_cause Kind.Fetch) va))
parcel_from given hart memory s va is (Err x) raises = raises
parcel_from given hart memory s va is (Ok at) raises =
    held_by va (number_at memory.ram at 2) (rom_number memory.rom at 2) (has_part memory.ram at 2) (is_in_debug hart && rom_holds memory.rom at 2) is (number_below memory.ram at 2 s.ram) (rom_number_below memory.rom at 2 s.rom)

parcel_shown : (given : Given) (hart : Hart) (memory : MemoryState) → Starts given hart memory → (va : ℕ) → va < 2 ^ 64 → ParcelShown (parcel hart memory va)
parcel_shown given hart memory s va is =
    parcel_from given hart memory s va is (physical (acting_mode hart) Kind.Fetch hart memory.ram va) (physical_raises (acting_mode hart) Kind.Fetch hart memory.ram va is)

-- a word of 32 bits, and an even length
abbrev FetchShown : Result Fetched Exception → Type 0
FetchShown (Ok f) = (f.word < 2 ^ 32) × (f.len % 2 ≡ 0)
FetchShown (Err x) = IsRaised x

high_shown : (low : ℕ) → low < 0x10000 → (r : Result ℕ Exception) → ParcelShown r → FetchShown (r >>= λ high. Ok (record { word = low + 0x10000 * high; len = 4 }))
high_shown low small (Ok high) shown = (omega (arith, small, shown), refl)
high_shown low small (Err x) shown = shown

either_fetched : (b : Bool) (x y : Result Fetched Exception) → FetchShown x → FetchShown y → FetchShown (if b then x else y)
either_fetched true x y first second = first
either_fetched false x y first second = second

low_shown : (given : Given) (hart : Hart) (memory : MemoryState) → Starts given hart memory → (r : Result ℕ Exception) → ParcelShown r → FetchShown (r >>= completed hart memory)
low_shown given hart memory s (Err x) shown = shown
low_shown given hart memory s (Ok low) shown =
    either_fetched (low % 4 == 3) _ (Ok (record { word = low; len = 2 }))
    (high_shown low shown (parcel hart memory ((hart.pc + 2) % 2 ^ 64)) (parcel_shown given hart memory s ((hart.pc + 2) % 2 ^ 64) (omega arith)))
    (omega (arith, shown), refl)

fetch_shown : (given : Given) (hart : Hart) (memory : MemoryState) → Starts given hart memory → FetchShown (fetched hart memory)
fetch_shown given hart memory s = low_shown given hart memory s (parcel hart memory hart.pc) (parcel_shown given hart memory s hart.pc s.formed.pc)

-- ---- one hart

-- an answer whose event has a spelling, or an exception
abbrev SpelledOrRaised : Result HartAnswer Exception → Type 0
SpelledOrRaised (Ok a) = IsSpellable a.event
SpelledOrRaised (Err x) = IsRaised x

-- the value that is shown has the width of a register
written_word : (hart : Hart) → IsWellFormed hart → (rd : Option (ℕ × ℕ)) → HasWritten hart rd → IsWritten rd × IsWrittenWord rd
written_word hart formed None has = (tt, tt)
written_word hart formed (Some rd) has = ((has.0, has.1), subst (λ (v : ℕ). v < 2 ^ 64) has.2 (register_below hart rd.0 formed))

commit_shown : (n h : ℕ) (hart : Hart) (memory : MemoryState) (word : ℕ) → h < 8 → hart.pc < 2 ^ 64 → word < 2 ^ 32 → (outcome : Outcome) → FitOutcome n hart memory outcome → OutcomeShown outcome → SpelledOrRaised (outcome >>= λ e. Ok (commits h hart word e))
commit_shown n h hart memory word few pc small (Err x) fits shown = shown
commit_shown n h hart memory word few pc small (Ok e) fits shown =
    let rd = written_word e.hart fits.hart_fits.formed e.done.rd shown.rd in
    ((few, rd.0, shown.st), (pc, small, rd.1, shown.at, shown.dv, shown.vl))

decoded_shown : (given : Given) (n h : ℕ) (hart : Hart) (memory : MemoryState) → Starts given hart memory → h < 8 → (f : Fetched) → f.word < 2 ^ 32 → f.len % 2 ≡ 0 → (o : Option Insn) → IfSome o HasEvenOffset → IfSome o WritesRegister → SpelledOrRaised (or_illegal f.word o >>= λ insn. effect (record { given = given; harts = n; word = f.word; len = f.len }) insn hart memory >>= λ e. Ok (commits h hart f.word e))
decoded_shown given n h hart memory s few f small even None offset writes = (lit< tt, omega (arith, small))
decoded_shown given n h hart memory s few f small even (Some insn) offset writes =
    let here : Situation = record { given = given; harts = n; word = f.word; len = f.len } in
    commit_shown n h hart memory f.word few s.formed.pc small (effect here insn hart memory)
    (effect_fits here insn hart memory (record { formed = s.formed; ram = s.ram; rom = s.rom; allowed = s.allowed; len_even = even }) offset)
    (effect_shown here insn hart memory (record { formed = s.formed; allowed = s.allowed; word = omega (arith, small); room = s.room }) writes)

fetched_shown : (given : Given) (n h : ℕ) (hart : Hart) (memory : MemoryState) → Starts given hart memory → h < 8 → (r : Result Fetched Exception) → FetchShown r → SpelledOrRaised (r >>= carried_out given n h hart memory)
fetched_shown given n h hart memory s few (Err x) shown = shown
fetched_shown given n h hart memory s few (Ok f) shown =
    decoded_shown given n h hart memory s few f shown.0 shown.1 (decoded f.word f.len) (decoded_even f.word f.len) (decoded_writes f.word f.len)

answer_shown : (h : ℕ) (hart : Hart) (memory : MemoryState) → h < 8 → hart.pc < 2 ^ 64 → (r : Result HartAnswer Exception) → SpelledOrRaised r → IsSpellable (or_raises h hart memory r).event
answer_shown h hart memory few pc (Ok a) shown = shown
answer_shown h hart memory few pc (Err x) shown = ((few, shown.0), (pc, shown.1))

after_shown : (given : Given) (n h : ℕ) (hart : Hart) (memory : MemoryState) → Starts given hart memory → h < 8 → (i : Option ℕ) → IfSome i (λ cause. IsTrue (may_be_taken hart.csrs hart.mode cause)) → IsSpellable (step_after i given n h hart memory).event
after_shown given n h hart memory s few (Some cause) taken = ((few, taken_small hart.csrs hart.mode cause taken), tt)
after_shown given n h hart memory s few None taken =
    answer_shown h hart memory few s.formed.pc (fetched hart memory >>= carried_out given n h hart memory) (fetched_shown given n h hart memory s few (fetched hart memory) (fetch_shown given hart memory s))

hart_shown : (given : Given) (n h : ℕ) (hart : Hart) (memory : MemoryState) → Starts given hart memory → h < 8 → IsSpellable (hart_step given n h hart memory).event
unfolding hart_step
hart_shown given n h hart memory s few = after_shown given n h hart memory s few given.interrupt s.allowed.interrupt

-- ---- its core

pub step_shown : (given : Given) (core : CoreState) (h : ℕ) → IsFit core → length core.ram ≤ most_bytes → h < length core.harts → IsAllowed (hart_of core h) given → IsSpellable (step given core h).event
unfolding step
step_shown given core h fit room within allowed =
    hart_shown given (length core.harts) h (hart_of core h) (memory_of core)
    (record { formed = fit.kept.harts h (reset_hart 0 0) within; allowed = allowed; ram = fit.ram; rom = fit.rom; room = room })
    (let most = fit.kept.most in omega (arith, within, most))
