-- Steps of a hart in debug mode that reach the ROM's pool, a device, or the end of debug mode.
use Rattle.std.specs.Prelude.{nat_le, None, Ok}
use Rattle.std.proofs.Common.{◌≡◌, ℕ, ◌+◌, ◌%◌, ◌^◌, ◌-◌, ◌<◌, ◌≤◌, true, false, List, ◌++◌, length, take, drop, refl, sym, ap, ◌∙◌, arith, eq-eqb, subst}
use Rattle.std.proofs.lemmas.Bool.{lt-leb, le-leb}
use Rattle.byteorder.specs.Endian.{little_bytes, little_from, little_number}
use Rattle.byteorder.specs.Numbers.{little_from-take, little_number-reads_back}
use Rattle.rv_alu.specs.Bits.{low_bytes}
use Rattle.rv_decode.specs.declared.Insn.{Insn}
use Rattle.rv_decode.specs.Encode.{encoded}
use Rattle.trap_rules.specs.Return.{debug_returned, resumed_mode, resumed_pc}
use Rattle.sv39_walk.specs.declared.Kind.{Kind}
use Rattle.sv39_walk.specs.Plain.{translated}
use Rattle.guest_ram.specs.Bytes.{base}
use Rattle.board_bus.specs.Listed.{is_listed}
use Rattle.hart_step.specs.declared.hart.Hart.{Hart}
use Rattle.hart_step.specs.Answers.{Given, Stores, Untouched}
use Rattle.hart_step.specs.Harts.{is_in_debug}
use Rattle.hart_step.specs.Memory.{◌>>=◌, MemoryState, answered, from_device, data_address, from_memory, loaded, most_rom, rom_base}
use Rattle.hart_step.specs.Effects.{at_pc, effect, goes_on, pc_after, resumed, shows_nothing, shows_store, stores_at, stores_in}
use Rattle.hart_step.specs.Step.{hart_step}
use Rattle.rom_gen.specs.Items.{Stands}
use Rattle.rom_gen.proofs.DevicePlaces.{device_place}
use Rattle.rom_gen.proofs.Fetch.{room}
use Rattle.rom_gen.proofs.Joins.{Does}
use Rattle.rom_gen.proofs.Steps.{at_long, at_word, does_effect, shows}

-- debug mode loads and stores in machine mode, MPRV or not
pub data_untranslated : (kind : Kind) (size : ℕ) (hart : Hart) (ram : List ℕ) (va : ℕ) → is_in_debug hart ≡ true → va % size ≡ 0 → data_address kind size hart ram va ≡ Ok va
unfolding translated
data_untranslated kind size hart ram va debugs aligned = rw (eq-eqb (va % size) 0 aligned, debugs) refl

-- a store to a device register
pub stores_device : (n size value : ℕ) (hart : Hart) (memory : MemoryState) (va : ℕ) → is_in_debug hart ≡ true → is_listed n va size ≡ true →
    stores_at n size value 4 va hart memory ≡ Ok (record { hart = at_pc hart (pc_after hart 4); memory = memory; done = shows_store va size value; access = Stores va size (low_bytes size value) })
stores_device n size value hart memory va debugs listed =
    let (aligned, below) = device_place n va size listed in
    let not_ram : nat_le base va ≡ false = lt-leb _ _ below in
    ap (λ a. a >>= λ at. stores_in n size value 4 va at hart memory) (data_untranslated Kind.Store size hart memory.ram va debugs aligned) ∙ rw (not_ram, listed) refl

-- a load from a device register
pub loads_device : (given : Given) (n size : ℕ) (hart : Hart) (memory : MemoryState) (va : ℕ) → is_in_debug hart ≡ true → is_listed n va size ≡ true → loaded given n hart memory size va ≡ Ok (from_device given va size)
loads_device given n size hart memory va debugs listed =
    let (aligned, below) = device_place n va size listed in
    let not_ram : nat_le base va ≡ false = lt-leb _ _ below in
    ap (λ a. a >>= answered given n hart memory size va) (data_untranslated Kind.Load size hart memory.ram va debugs aligned) ∙ rw (not_ram, listed) refl

-- a load of a number that stands in the ROM
pub loads_pool : (given : Given) (n : ℕ) (hart : Hart) (memory : MemoryState) (q v : ℕ) (rest : List ℕ) → is_in_debug hart ≡ true → q % 8 ≡ 0 → v < 2 ^ 64 →
    length memory.rom ≤ most_rom → is_listed n (rom_base + q) 8 ≡ false → drop q memory.rom ≡ little_bytes 8 v ++ rest →
    loaded given n hart memory 8 (rom_base + q) ≡ Ok (from_memory v)
loads_pool given n hart memory q v rest debugs aligned fits small unlisted there =
    let within : q + 8 ≤ length memory.rom = omega (arith, room q (little_bytes 8 v) rest memory.rom there (omega arith)) in
    let not_ram : nat_le base (rom_base + q) ≡ false = lt-leb _ _ (omega arith) in
    let low : nat_le rom_base (rom_base + q) ≡ true = le-leb _ _ (omega arith) in
    let high : nat_le (rom_base + q + 8) (rom_base + length memory.rom) ≡ true = le-leb _ _ (omega arith) in
    let place : rom_base + q - rom_base ≡ q = omega arith in
    let number : little_number 8 (take 8 (drop q memory.rom)) ≡ v = little_from-take 0 8 8 (drop q memory.rom) (omega arith) ∙ ap (little_from 0 8) there ∙ little_number-reads_back 8 v rest (omega arith) in
    ap (λ a. a >>= answered given n hart memory 8 (rom_base + q)) (data_untranslated Kind.Load 8 hart memory.ram (rom_base + q) debugs (omega arith))
    ∙ rw (not_ram, unlisted, debugs, low, high, place, number) refl

-- dret
pub leave_effect : (given : Given) (n word : ℕ) (hart : Hart) (memory : MemoryState) → is_in_debug hart ≡ true →
    effect (at_long given n word) Insn.Dret hart memory ≡ Ok (goes_on (resumed (debug_returned hart.csrs) (resumed_mode hart.csrs.debug) (resumed_pc hart.csrs.debug) hart) memory)
unfolding effect
leave_effect given n word hart memory debugs = rw debugs refl

-- the step of dret
pub leave_step : (given : Given) (n h : ℕ) (hart : Hart) (memory : MemoryState) (p : ℕ) (rest : List ℕ) → Stands memory hart p → given.interrupt ≡ None →
    drop p memory.rom ≡ little_bytes 4 (encoded Insn.Dret) ++ rest →
    Does memory (hart_step given n h hart memory) None (resumed (debug_returned hart.csrs) (resumed_mode hart.csrs.debug) (resumed_pc hart.csrs.debug) hart) Untouched
unfolding encoded
leave_step given n h hart memory p rest stands none there =
    let word : ℕ = encoded Insn.Dret in
    let next : Hart = resumed (debug_returned hart.csrs) (resumed_mode hart.csrs.debug) (resumed_pc hart.csrs.debug) hart in
    subst (λ a. Does memory a None next Untouched)
    (sym (at_word given n h hart memory p rest Insn.Dret stands none tt (record { below = omega arith; last = refl }) there ∙ ap (shows h hart memory word) (leave_effect given n word hart memory stands.debugs)))
    (does_effect h hart next memory word (goes_on next memory) shows_nothing Untouched stands.debugs refl refl refl refl)
