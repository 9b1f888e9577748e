-- One step of a hart in debug mode at a word that stands in the ROM.
use Rattle.std.specs.Prelude.{◌||◌, bit_and, nat_le, Bool, is_some, Some, None, Ok, Err, ℤ, pos, negsuc}
use Rattle.std.proofs.Common.{◌≡◌, ℕ, ◌/◌, ◌%◌, ◌^◌, ◌<◌, true, false, cond, not, ◌&&◌, List, ◌++◌, drop, refl, sym, ap, ◌∙◌, arith, ◌==◌, subst}
use Rattle.std.proofs.lemmas.Bool.{and_parts, le-leb}
use Rattle.byteorder.specs.Endian.{little_bytes}
use Rattle.rv_alu.specs.declared.BinOp.{BinOp}
use Rattle.rv_alu.specs.Arithmetic.{alu_of, modulo}
use Rattle.rv_alu.specs.declared.Mode.{Mode}
use Rattle.rv_decode.specs.declared.Insn.{Insn}
use Rattle.rv_decode.specs.Encode.{encoded}
use Rattle.rv_decode.specs.Ranges.{IsInRange, IsSigned}
use Rattle.rv_decode.proofs.Encoded.{encoded_is_decoded_lem}
use Rattle.csr_file.specs.Access.{allows, may_access}
use Rattle.csr_file.specs.Bits.{mstatus_tvm}
use Rattle.csr_file.specs.Numbers.{csr_satp, is_debug_number, is_user_counter, is_listed, is_read_only}
use Rattle.csr_file.specs.declared.registers.Registers.{Registers}
use Rattle.csr_file.specs.Write.{written}
use Rattle.hart_step.specs.declared.hart.Hart.{Hart}
use Rattle.hart_step.specs.Answers.{Access, Given, Untouched}
use Rattle.hart_step.specs.Harts.{is_in_debug, register}
use Rattle.hart_step.specs.Memory.{◌>>=◌, exception, MemoryState}
use Rattle.hart_step.specs.Effects.{Effect, Outcome, Situation, effect, pc_after, shows_write, with_memory, with_write, writes}
use Rattle.hart_step.specs.Done.{Done}
use Rattle.hart_step.specs.Step.{HartAnswer, carried_out, commits, hart_step, or_illegal, or_raises, retired, step_after}
use Rattle.rom_gen.specs.Items.{is_writable, Stands}
use Rattle.rom_gen.proofs.Fetch.{rom_fetched}
use Rattle.rom_gen.proofs.Joins.{Does}
use Rattle.rom_gen.proofs.WordForms.{IsWord, word_r_fits, modulo_12}

-- the situation of an instruction of four bytes
abbrev pub at_long : Given → ℕ → ℕ → Situation
at_long given n word = record { given = given; harts = n; word = word; len = 4 }

-- the step of an instruction that comes to this
abbrev pub shows : ℕ → Hart → MemoryState → ℕ → Outcome → HartAnswer
shows h hart memory word outcome = or_raises h hart memory (outcome >>= λ e. Ok (commits h hart word e))

-- the step at an instruction's word is the instruction's effect
pub at_word : (given : Given) (n h : ℕ) (hart : Hart) (memory : MemoryState) (p : ℕ) (rest : List ℕ) (insn : Insn) → Stands memory hart p → given.interrupt ≡ None →
    IsInRange insn → IsWord (encoded insn) → drop p memory.rom ≡ little_bytes 4 (encoded insn) ++ rest →
    hart_step given n h hart memory ≡ shows h hart memory (encoded insn) (effect (at_long given n (encoded insn)) insn hart memory)
unfolding hart_step
at_word given n h hart memory p rest insn stands none range word there =
    ap (λ i. step_after i given n h hart memory) none
    ∙ ap (λ f. or_raises h hart memory (f >>= carried_out given n h hart memory)) (rom_fetched hart memory p (encoded insn) rest stands.debugs stands.at stands.small word.below word.last there)
    ∙ ap (λ o. or_raises h hart memory (or_illegal (encoded insn) o >>= λ i. effect (at_long given n (encoded insn)) i hart memory >>= λ e. Ok (commits h hart (encoded insn) e))) (encoded_is_decoded_lem insn range)

-- what a step does whose instruction commits in debug mode
pub does_effect : (h : ℕ) (hart next : Hart) (memory : MemoryState) (word : ℕ) (e : Effect) (done : Done) (access : Access) → is_in_debug hart ≡ true →
    e.done ≡ done → e.hart ≡ next → e.memory ≡ memory → e.access ≡ access → Does memory (commits h hart word e) done.st next access
does_effect h hart next memory word e done access debugs shown hart_is memory_is access_is = record {
  commits = refl;
  stores = ap (λ (d : Done). d.st) shown;
  hart_is = ap (λ b. retired b e.done.wrote e.hart) debugs ∙ hart_is;
  memory_is = memory_is;
  access_is = access_is;
}

-- ---- addi from x0

modulo_64 : (z : ℤ) → modulo 64 z < 2 ^ 64
modulo_64 (pos a) = omega arith
modulo_64 (negsuc a) = omega arith

add_nothing : (a : ℕ) → a < 2 ^ 64 → alu_of BinOp.Add 0 a ≡ a
add_nothing a fits = omega arith

pub small_effect : (given : Given) (n : ℕ) (hart : Hart) (memory : MemoryState) (word r v : ℕ) (imm : ℤ) → register hart 0 ≡ 0 → modulo 64 imm ≡ v → effect (at_long given n word) (Insn.Addi r 0 imm) hart memory ≡ Ok (writes r v (pc_after hart 4) hart memory)
unfolding effect
small_effect given n hart memory word r v imm nought is =
    ap (λ x. Ok (writes r x (pc_after hart 4) hart memory)) (ap (λ x. alu_of BinOp.Add x (modulo 64 imm)) nought ∙ add_nothing (modulo 64 imm) (modulo_64 imm) ∙ is)

pub small_range : (r : ℕ) (imm : ℤ) → r < 32 → IsSigned 12 imm → IsInRange (Insn.Addi r 0 imm)
small_range r imm r_fits signed = (r_fits, omega arith, signed)

pub small_word : (r : ℕ) (imm : ℤ) → r < 32 → IsWord (encoded (Insn.Addi r 0 imm))
unfolding encoded
small_word r imm r_fits = word_r_fits 0x13 r 0 (modulo 12 imm) (omega arith) refl r_fits (omega arith) (modulo_12 imm)

pub small_step : (given : Given) (n h : ℕ) (hart : Hart) (memory : MemoryState) (p r v : ℕ) (imm : ℤ) (rest : List ℕ) → Stands memory hart p → given.interrupt ≡ None →
    r < 32 → IsSigned 12 imm → modulo 64 imm ≡ v → drop p memory.rom ≡ little_bytes 4 (encoded (Insn.Addi r 0 imm)) ++ rest →
    Does memory (hart_step given n h hart memory) None (with_write hart r v (pc_after hart 4)) Untouched
small_step given n h hart memory p r v imm rest stands none r_fits signed is there =
    let word : ℕ = encoded (Insn.Addi r 0 imm) in
    subst (λ a. Does memory a None (with_write hart r v (pc_after hart 4)) Untouched)
    (sym (at_word given n h hart memory p rest (Insn.Addi r 0 imm) stands none (small_range r imm r_fits signed) (small_word r imm r_fits) there ∙ ap (shows h hart memory word) (small_effect given n hart memory word r v imm stands.nought is)))
    (does_effect h hart (with_write hart r v (pc_after hart 4)) memory word (writes r v (pc_after hart 4) hart memory) (shows_write r v) Untouched stands.debugs refl refl refl refl)

-- ---- csrrw to no register

open_last : (d a b c : Bool) → ((d || true) && true && true && not (a && false && c) && (b || true)) ≡ true
open_last true true true true = refl
open_last true true true false = refl
open_last true true false true = refl
open_last true true false false = refl
open_last true false true true = refl
open_last true false true false = refl
open_last true false false true = refl
open_last true false false false = refl
open_last false true true true = refl
open_last false true true false = refl
open_last false true false true = refl
open_last false true false false = refl
open_last false false true true = refl
open_last false false true false = refl
open_last false false false true = refl
open_last false false false false = refl

may_write : (r : Registers) (mode : Mode) (num : ℕ) → is_some r.debug ≡ true → num < 4096 → is_writable num ≡ true → may_access r mode num true ≡ true
unfolding allows is_writable
may_write r mode num debugs fits writable =
    let both = and_parts (is_listed num) (not (is_read_only num)) writable in
    let low : nat_le (num / 256 % 4) 3 ≡ true = le-leb _ _ (omega arith) in
    rw (both.0, debugs, low, both.1) (open_last (not (is_debug_number num)) (num == csr_satp) (not (is_user_counter num)) (not (bit_and r.kept.mstatus mstatus_tvm == 0)))

pub csr_effect : (given : Given) (n : ℕ) (hart : Hart) (memory : MemoryState) (word num r : ℕ) → may_access hart.csrs hart.mode num true ≡ true →
    effect (at_long given n word) (Insn.Csrrw 0 r num) hart memory ≡ Ok (record { hart = record hart { csrs = written num (register hart r) hart.csrs; pc = pc_after hart 4 }; memory = memory; done = record { rd = None; st = None; dv = None; vl = None; wrote = Some num }; access = Untouched })
unfolding effect
csr_effect given n hart memory word num r may = ap (λ b. with_memory (cond b (Ok (record { hart = record hart { csrs = written num (register hart r) hart.csrs; pc = pc_after hart 4 }; done = record { rd = None; st = None; dv = None; vl = None; wrote = Some num } })) (Err (exception 2 word))) memory) may

pub csr_range : (num r : ℕ) → r < 32 → num < 4096 → IsInRange (Insn.Csrrw 0 r num)
csr_range num r r_fits fits = (omega arith, r_fits, fits)

pub csr_word : (num r : ℕ) → r < 32 → num < 4096 → IsWord (encoded (Insn.Csrrw 0 r num))
unfolding encoded
csr_word num r r_fits fits = word_r_fits 0x1073 0 r num (omega arith) refl (omega arith) r_fits fits

pub csr_step : (given : Given) (n h : ℕ) (hart : Hart) (memory : MemoryState) (p num r : ℕ) (rest : List ℕ) → Stands memory hart p → given.interrupt ≡ None → r < 32 →
    num < 4096 → is_writable num ≡ true → drop p memory.rom ≡ little_bytes 4 (encoded (Insn.Csrrw 0 r num)) ++ rest →
    Does memory (hart_step given n h hart memory) None (record hart { csrs = written num (register hart r) hart.csrs; pc = pc_after hart 4 }) Untouched
csr_step given n h hart memory p num r rest stands none r_fits fits writable there =
    let word : ℕ = encoded (Insn.Csrrw 0 r num) in
    let next : Hart = record hart { csrs = written num (register hart r) hart.csrs; pc = pc_after hart 4 } in
    let done : Done = record { rd = None; st = None; dv = None; vl = None; wrote = Some num } in
    let e : Effect = record { hart = next; memory = memory; done = done; access = Untouched } in
    subst (λ a. Does memory a None next Untouched)
    (sym (at_word given n h hart memory p rest (Insn.Csrrw 0 r num) stands none (csr_range num r r_fits fits) (csr_word num r r_fits fits) there ∙ ap (shows h hart memory word) (csr_effect given n hart memory word num r (may_write hart.csrs hart.mode num stands.debugs fits writable))))
    (does_effect h hart next memory word e done Untouched stands.debugs refl refl refl refl)

-- ---- csrrwi to no register

pub csr_imm_effect : (given : Given) (n : ℕ) (hart : Hart) (memory : MemoryState) (word num u : ℕ) → may_access hart.csrs hart.mode num true ≡ true →
    effect (at_long given n word) (Insn.Csrrwi 0 u num) hart memory ≡ Ok (record { hart = record hart { csrs = written num u hart.csrs; pc = pc_after hart 4 }; memory = memory; done = record { rd = None; st = None; dv = None; vl = None; wrote = Some num }; access = Untouched })
unfolding effect
csr_imm_effect given n hart memory word num u may = ap (λ b. with_memory (cond b (Ok (record { hart = record hart { csrs = written num u hart.csrs; pc = pc_after hart 4 }; done = record { rd = None; st = None; dv = None; vl = None; wrote = Some num } })) (Err (exception 2 word))) memory) may

pub csr_imm_step : (given : Given) (n h : ℕ) (hart : Hart) (memory : MemoryState) (p num u : ℕ) (rest : List ℕ) → Stands memory hart p → given.interrupt ≡ None → u < 32 →
    num < 4096 → is_writable num ≡ true → drop p memory.rom ≡ little_bytes 4 (encoded (Insn.Csrrwi 0 u num)) ++ rest →
    Does memory (hart_step given n h hart memory) None (record hart { csrs = written num u hart.csrs; pc = pc_after hart 4 }) Untouched
unfolding encoded
csr_imm_step given n h hart memory p num u rest stands none u_fits fits writable there =
    let word : ℕ = encoded (Insn.Csrrwi 0 u num) in
    let next : Hart = record hart { csrs = written num u hart.csrs; pc = pc_after hart 4 } in
    let done : Done = record { rd = None; st = None; dv = None; vl = None; wrote = Some num } in
    let e : Effect = record { hart = next; memory = memory; done = done; access = Untouched } in
    subst (λ a. Does memory a None next Untouched)
    (sym (at_word given n h hart memory p rest (Insn.Csrrwi 0 u num) stands none (omega arith, u_fits, fits) (word_r_fits 0x5073 0 u num (omega arith) refl (omega arith) u_fits fits) there ∙ ap (shows h hart memory word) (csr_imm_effect given n hart memory word num u (may_write hart.csrs hart.mode num stands.debugs fits writable))))
    (does_effect h hart next memory word e done Untouched stands.debugs refl refl refl refl)
