-- One step at each instruction that spells an item.
use Rattle.std.specs.Prelude.{◌-ℤ◌, nat_le, Some, None, Ok, ℤ, pos, negsuc}
use Rattle.std.proofs.Common.{◌≡◌, ℕ, ◌+◌, ◌*◌, ◌%◌, ◌^◌, ◌-◌, ◌<◌, ◌≤◌, ⊎_elim, true, false, cond, List, ◌++◌, length, drop, refl, sym, ap, ◌∙◌, arith, subst}
use Rattle.std.proofs.lemmas.Int.{ints}
use Rattle.std.proofs.lemmas.Bool.{cases_lt, lt-ltb, le-ltb, lt-leb}
use Rattle.byteorder.specs.Endian.{little_bytes}
use Rattle.rv_alu.specs.Arithmetic.{alu_of, bits_of, modulo, sign_extended, signed}
use Rattle.rv_alu.specs.Bits.{low_bytes}
use Rattle.rv_alu.specs.declared.BinOp.{BinOp}
use Rattle.rv_decode.specs.declared.Insn.{Insn}
use Rattle.rv_decode.specs.Encode.{encoded}
use Rattle.rv_decode.specs.Ranges.{IsInRange, IsMultiple, IsSigned}
use Rattle.board_bus.specs.Listed.{is_listed as is_device, place_of}
use Rattle.hart_step.specs.declared.hart.Hart.{Hart}
use Rattle.hart_step.specs.Answers.{Given, Loads, Stores, Untouched}
use Rattle.hart_step.specs.Harts.{is_in_debug, register}
use Rattle.hart_step.specs.Memory.{MemoryState, from_device, from_memory, loaded, most_rom, rom_base}
use Rattle.hart_step.specs.Effects.{Effect, at_pc, effect, even_part, goes_on, offset_by, pc_after, shows_nothing, shows_store, shows_write, stores_at, with_write, writes}
use Rattle.hart_step.specs.Done.{Done}
use Rattle.hart_step.specs.Step.{hart_step}
use Rattle.rom_gen.specs.Items.{StandAt, Width, Byte, Word, Double, load_insn, size_of, store_insn, Stands}
use Rattle.rom_gen.specs.ItemEffects.{extended}
use Rattle.rom_gen.proofs.Fetch.{room}
use Rattle.rom_gen.proofs.Joins.{Does}
use Rattle.rom_gen.proofs.Steps.{at_long, at_word, does_effect, shows}
use Rattle.rom_gen.proofs.Devices.{loads_device, loads_pool, stores_device}
use Rattle.rom_gen.proofs.WordForms.{IsWord, word_r_fits, word_long_fits, modulo_12}

-- ---- values

below_64 : (a : ℕ) → a < 2 ^ 64 → 2 ^ 63 ≤ a → pos a -ℤ pos 18446744073709551616 ≡ negsuc (18446744073709551615 - a)
below_64 a h k = omega (arith, ints)

same_64 : (v : ℕ) → v < 2 ^ 64 → sign_extended v 64 ≡ v
same_64 v h =
    let e : v % 2 ^ 64 ≡ v = omega arith in
    ap (λ a. modulo 64 (signed 64 a)) e ∙ ⊎_elim
    (λ l. ap (λ b. modulo 64 (cond b (pos v) (pos v -ℤ pos 18446744073709551616))) (lt-ltb v 9223372036854775808 l) ∙ omega arith)
    (λ l. ap (λ b. modulo 64 (cond b (pos v) (pos v -ℤ pos 18446744073709551616))) (le-ltb v 9223372036854775808 l) ∙ ap (modulo 64) (below_64 v h l) ∙ omega arith)
    (cases_lt v (2 ^ 63))

-- no device register stands below the first block
pub no_device : (n at size : ℕ) → at < 0x2000000 → is_device n at size ≡ false
unfolding is_device place_of
no_device n at size low =
    let first : nat_le 0x2000000 at ≡ false = lt-leb _ _ low in
    let second : nat_le 0x0c000000 at ≡ false = lt-leb _ _ (omega arith) in
    let third : nat_le 0x10000000 at ≡ false = lt-leb _ _ (omega arith) in
    rw (first, second, third) refl

-- ---- ld of a pool's value

-- the load gives the value that stands in the pool
pub pooled_effect : (given : Given) (n : ℕ) (hart : Hart) (memory : MemoryState) (word r v block off : ℕ) → is_in_debug hart ≡ true → v < 2 ^ 64 → (block + off) % 8 ≡ 0 →
    off < 2048 → length memory.rom ≤ most_rom → register hart 1 ≡ rom_base + block → StandAt (little_bytes 8 v) (block + off) memory.rom →
    effect (at_long given n word) (Insn.Ld r 1 (pos off)) hart memory ≡ Ok (writes r v (pc_after hart 4) hart memory)
unfolding effect
pooled_effect given n hart memory word r v block off debugs fits aligned near small at there =
    let within : block + off + 8 ≤ length memory.rom = omega (arith, room (block + off) (little_bytes 8 v) there.0 memory.rom there.1 (omega arith)) in
    let va : offset_by (register hart 1) (pos off) ≡ rom_base + (block + off) = ap (λ a. offset_by a (pos off)) at ∙ omega arith in
    let e : loaded given n hart memory 8 (offset_by (register hart 1) (pos off)) ≡ Ok (from_memory v) = ap (loaded given n hart memory 8) va ∙ loads_pool given n hart memory (block + off) v there.0 debugs aligned fits small (no_device n (rom_base + (block + off)) 8 (omega arith)) there.1 in
    rw e (ap (λ x. Ok (writes r x (pc_after hart 4) hart memory)) (same_64 v fits))

pub pooled_step : (given : Given) (n h : ℕ) (hart : Hart) (memory : MemoryState) (p r v block off : ℕ) (rest : List ℕ) → Stands memory hart p → given.interrupt ≡ None →
    r < 32 → v < 2 ^ 64 → (block + off) % 8 ≡ 0 → off < 2048 → register hart 1 ≡ rom_base + block → StandAt (little_bytes 8 v) (block + off) memory.rom →
    drop p memory.rom ≡ little_bytes 4 (encoded (Insn.Ld r 1 (pos off))) ++ rest →
    Does memory (hart_step given n h hart memory) None (with_write hart r v (pc_after hart 4)) Untouched
unfolding encoded
pooled_step given n h hart memory p r v block off rest stands none r_fits fits aligned near at pool there =
    let word : ℕ = encoded (Insn.Ld r 1 (pos off)) in
    let next : Hart = with_write hart r v (pc_after hart 4) in
    subst (λ a. Does memory a None next Untouched)
    (sym (at_word given n h hart memory p rest (Insn.Ld r 1 (pos off)) stands none (r_fits, omega arith, (omega (arith, ints), omega (arith, ints))) (word_r_fits 0x3003 r 1 (modulo 12 (pos off)) (omega arith) refl r_fits (omega arith) (modulo_12 (pos off))) there
    ∙ ap (shows h hart memory word) (pooled_effect given n hart memory word r v block off stands.debugs fits aligned near stands.small at pool)))
    (does_effect h hart next memory word (writes r v (pc_after hart 4) hart memory) (shows_write r v) Untouched stands.debugs refl refl refl refl)

-- ---- lui, and addiw onto what it gave

bits_20 : (z : ℤ) → bits_of (modulo 32 z) 12 20 < 1048576
bits_20 z = omega arith

pub upper_step : (given : Given) (n h : ℕ) (hart : Hart) (memory : MemoryState) (p r v : ℕ) (imm : ℤ) (rest : List ℕ) → Stands memory hart p → given.interrupt ≡ None →
    r < 32 → IsSigned 32 imm → IsMultiple 12 imm → modulo 64 imm ≡ v → drop p memory.rom ≡ little_bytes 4 (encoded (Insn.Lui r imm)) ++ rest →
    Does memory (hart_step given n h hart memory) None (with_write hart r v (pc_after hart 4)) Untouched
unfolding encoded effect
upper_step given n h hart memory p r v imm rest stands none r_fits is_signed multiple is there =
    let word : ℕ = encoded (Insn.Lui r imm) in
    let next : Hart = with_write hart r v (pc_after hart 4) in
    subst (λ a. Does memory a None next Untouched)
    (sym (at_word given n h hart memory p rest (Insn.Lui r imm) stands none (r_fits, is_signed, multiple) (word_long_fits 0x37 r (bits_of (modulo 32 imm) 12 20) (omega arith) refl r_fits (bits_20 imm)) there
    ∙ ap (λ x. shows h hart memory word (Ok (writes r x (pc_after hart 4) hart memory))) is))
    (does_effect h hart next memory word (writes r v (pc_after hart 4) hart memory) (shows_write r v) Untouched stands.debugs refl refl refl refl)

pub low_step : (given : Given) (n h : ℕ) (hart : Hart) (memory : MemoryState) (p r v : ℕ) (imm : ℤ) (rest : List ℕ) → Stands memory hart p → given.interrupt ≡ None →
    r < 32 → IsSigned 12 imm → alu_of BinOp.Addw (register hart r) (modulo 64 imm) ≡ v → drop p memory.rom ≡ little_bytes 4 (encoded (Insn.Addiw r r imm)) ++ rest →
    Does memory (hart_step given n h hart memory) None (with_write hart r v (pc_after hart 4)) Untouched
unfolding encoded effect
low_step given n h hart memory p r v imm rest stands none r_fits is_signed is there =
    let word : ℕ = encoded (Insn.Addiw r r imm) in
    let next : Hart = with_write hart r v (pc_after hart 4) in
    subst (λ a. Does memory a None next Untouched)
    (sym (at_word given n h hart memory p rest (Insn.Addiw r r imm) stands none (r_fits, r_fits, is_signed) (word_r_fits 0x1b r r (modulo 12 imm) (omega arith) refl r_fits r_fits (modulo_12 imm)) there
    ∙ ap (λ x. shows h hart memory word (Ok (writes r x (pc_after hart 4) hart memory))) is))
    (does_effect h hart next memory word (writes r v (pc_after hart 4) hart memory) (shows_write r v) Untouched stands.debugs refl refl refl refl)

-- ---- jalr to a register, without a link

even_nothing : (a : ℕ) → a < 2 ^ 64 → offset_by a (pos 0) ≡ a
even_nothing a fits = omega arith

pub go_step : (given : Given) (n h : ℕ) (hart : Hart) (memory : MemoryState) (p r : ℕ) (rest : List ℕ) → Stands memory hart p → given.interrupt ≡ None → r < 32 →
    register hart r < 2 ^ 64 → drop p memory.rom ≡ little_bytes 4 (encoded (Insn.Jalr 0 r (pos 0))) ++ rest →
    Does memory (hart_step given n h hart memory) None (at_pc hart (even_part (register hart r))) Untouched
unfolding encoded effect
go_step given n h hart memory p r rest stands none r_fits fits there =
    let word : ℕ = encoded (Insn.Jalr 0 r (pos 0)) in
    let next : Hart = at_pc hart (even_part (register hart r)) in
    subst (λ a. Does memory a None next Untouched)
    (sym (at_word given n h hart memory p rest (Insn.Jalr 0 r (pos 0)) stands none (omega arith, r_fits, (omega (arith, ints), omega (arith, ints))) (word_r_fits 0x67 0 r (modulo 12 (pos 0)) (omega arith) refl (omega arith) r_fits (modulo_12 (pos 0))) there
    ∙ ap (λ a. shows h hart memory word (Ok (goes_on (at_pc hart (even_part a)) memory))) (even_nothing (register hart r) fits)))
    (does_effect h hart next memory word (goes_on next memory) shows_nothing Untouched stands.debugs refl refl refl refl)

-- ---- sw to a device register

split_12 : (z : ℤ) → bits_of (modulo 12 z) 0 5 < 32 × bits_of (modulo 12 z) 5 7 < 128
split_12 z = (omega arith, omega arith)

pub store_word : (w : Width) (r at : ℕ) (off : ℤ) → r < 32 → at < 32 → IsWord (encoded (store_insn w at r off))
unfolding encoded
store_word Byte r at off r_fits at_fits = let parts = split_12 off in word_r_fits 0x23 (bits_of (modulo 12 off) 0 5) at (r + bits_of (modulo 12 off) 5 7 * 2 ^ 5) (omega arith) refl parts.0 at_fits (let q = parts.1 in omega arith)
store_word Word r at off r_fits at_fits = let parts = split_12 off in word_r_fits 0x2023 (bits_of (modulo 12 off) 0 5) at (r + bits_of (modulo 12 off) 5 7 * 2 ^ 5) (omega arith) refl parts.0 at_fits (let q = parts.1 in omega arith)
store_word Double r at off r_fits at_fits = let parts = split_12 off in word_r_fits 0x3023 (bits_of (modulo 12 off) 0 5) at (r + bits_of (modulo 12 off) 5 7 * 2 ^ 5) (omega arith) refl parts.0 at_fits (let q = parts.1 in omega arith)

store_range : (w : Width) (r at : ℕ) (off : ℤ) → r < 32 → at < 32 → IsSigned 12 off → IsInRange (store_insn w at r off)
store_range Byte r at off r_fits at_fits signed = (at_fits, r_fits, signed)
store_range Word r at off r_fits at_fits signed = (at_fits, r_fits, signed)
store_range Double r at off r_fits at_fits signed = (at_fits, r_fits, signed)

store_effect : (given : Given) (w : Width) (n word r at : ℕ) (off : ℤ) (hart : Hart) (memory : MemoryState) → effect (at_long given n word) (store_insn w at r off) hart memory ≡ stores_at n (size_of w) (register hart r) 4 (offset_by (register hart at) off) hart memory
unfolding effect
store_effect given Byte n word r at off hart memory = refl
store_effect given Word n word r at off hart memory = refl
store_effect given Double n word r at off hart memory = refl

-- a store of any width
pub store_step : (w : Width) (given : Given) (n h : ℕ) (hart : Hart) (memory : MemoryState) (p r at : ℕ) (off : ℤ) (rest : List ℕ) → Stands memory hart p →
    given.interrupt ≡ None → r < 32 → at < 32 → IsSigned 12 off →
    is_device n (offset_by (register hart at) off) (size_of w) ≡ true → drop p memory.rom ≡ little_bytes 4 (encoded (store_insn w at r off)) ++ rest →
    Does memory (hart_step given n h hart memory) (Some (record { at = offset_by (register hart at) off; size = size_of w; value = low_bytes (size_of w) (register hart r) })) (at_pc hart (pc_after hart 4)) (Stores (offset_by (register hart at) off) (size_of w) (low_bytes (size_of w) (register hart r)))
store_step w given n h hart memory p r at off rest stands none r_fits at_fits is_signed device there =
    let word : ℕ = encoded (store_insn w at r off) in
    let va : ℕ = offset_by (register hart at) off in
    let next : Hart = at_pc hart (pc_after hart 4) in
    let v : ℕ = register hart r in
    let s : ℕ = size_of w in
    let e : Effect = record { hart = next; memory = memory; done = shows_store va s v; access = Stores va s (low_bytes s v) } in
    subst (λ a. Does memory a (Some (record { at = va; size = s; value = low_bytes s v })) next (Stores va s (low_bytes s v)))
    (sym (at_word given n h hart memory p rest (store_insn w at r off) stands none (store_range w r at off r_fits at_fits is_signed) (store_word w r at off r_fits at_fits) there
    ∙ ap (shows h hart memory word) (store_effect given w n word r at off hart memory ∙ stores_device n s v hart memory va stands.debugs device)))
    (does_effect h hart next memory word e (shows_store va s v) (Stores va s (low_bytes s v)) stands.debugs refl refl refl refl)

-- ---- lbu and lw from a device register

load_word : (w : Width) (r at : ℕ) (off : ℤ) → r < 32 → at < 32 → IsWord (encoded (load_insn w r at off))
unfolding encoded
load_word Byte r at off r_fits at_fits = word_r_fits 0x4003 r at (modulo 12 off) (omega arith) refl r_fits at_fits (modulo_12 off)
load_word Word r at off r_fits at_fits = word_r_fits 0x2003 r at (modulo 12 off) (omega arith) refl r_fits at_fits (modulo_12 off)
load_word Double r at off r_fits at_fits = word_r_fits 0x3003 r at (modulo 12 off) (omega arith) refl r_fits at_fits (modulo_12 off)

load_range : (w : Width) (r at : ℕ) (off : ℤ) → r < 32 → at < 32 → IsSigned 12 off → IsInRange (load_insn w r at off)
load_range Byte r at off r_fits at_fits signed = (r_fits, at_fits, signed)
load_range Word r at off r_fits at_fits signed = (r_fits, at_fits, signed)
load_range Double r at off r_fits at_fits signed = (r_fits, at_fits, signed)

abbrev pub load_done : Given → ℕ → ℕ → ℕ → Done
load_done given va size r = record (shows_write r (extended size (given.device va size))) { dv = Some (given.device va size) }

abbrev pub load_effect_of : Given → ℕ → ℕ → ℕ → Hart → MemoryState → Effect
load_effect_of given va size r hart memory = record {
  hart = with_write hart r (extended size (given.device va size)) (pc_after hart 4);
  memory = memory;
  done = load_done given va size r;
  access = Loads va size;
}

load_effect : (given : Given) (w : Width) (n word r at : ℕ) (off : ℤ) (hart : Hart) (memory : MemoryState) →
    loaded given n hart memory (size_of w) (offset_by (register hart at) off) ≡ Ok (from_device given (offset_by (register hart at) off) (size_of w)) →
    effect (at_long given n word) (load_insn w r at off) hart memory ≡ Ok (load_effect_of given (offset_by (register hart at) off) (size_of w) r hart memory)
unfolding effect
load_effect given Byte n word r at off hart memory e = rw e refl
load_effect given Word n word r at off hart memory e = rw e refl
load_effect given Double n word r at off hart memory e = rw e refl

-- and a load
pub load_step : (w : Width) (given : Given) (n h : ℕ) (hart : Hart) (memory : MemoryState) (p r at : ℕ) (off : ℤ) (rest : List ℕ) → Stands memory hart p →
    given.interrupt ≡ None → r < 32 → at < 32 → IsSigned 12 off →
    is_device n (offset_by (register hart at) off) (size_of w) ≡ true → drop p memory.rom ≡ little_bytes 4 (encoded (load_insn w r at off)) ++ rest →
    Does memory (hart_step given n h hart memory) None (with_write hart r (extended (size_of w) (given.device (offset_by (register hart at) off) (size_of w))) (pc_after hart 4)) (Loads (offset_by (register hart at) off) (size_of w))
load_step w given n h hart memory p r at off rest stands none r_fits at_fits is_signed device there =
    let word : ℕ = encoded (load_insn w r at off) in
    let va : ℕ = offset_by (register hart at) off in
    let s : ℕ = size_of w in
    let e : Effect = load_effect_of given va s r hart memory in
    subst (λ a. Does memory a None e.hart (Loads va s))
    (sym (at_word given n h hart memory p rest (load_insn w r at off) stands none (load_range w r at off r_fits at_fits is_signed) (load_word w r at off r_fits at_fits) there
    ∙ ap (shows h hart memory word) (load_effect given w n word r at off hart memory (loads_device given n s hart memory va stands.debugs device))))
    (does_effect h hart e.hart memory word e (load_done given va s r) (Loads va s) stands.debugs refl refl refl refl)
