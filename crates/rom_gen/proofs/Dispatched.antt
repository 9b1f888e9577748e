-- The dispatch leads each hart to its block.
use Rattle.std.specs.Prelude.{pos, None, Ok, slice_set, slice_index, is_some, All}
use Rattle.std.proofs.Common.{◌≡◌, ℕ, ◌+◌, ◌*◌, ◌%◌, ◌^◌, ◌<◌, ◌≤◌, true, List, [], ◌∷◌, ◌++◌, length, drop, refl, sym, ap, ◌∙◌, arith, subst, is_some, false}
use Rattle.std.proofs.lemmas.Int.{ints}
use Rattle.std.proofs.lemmas.List.{get_or-set_same, get_or-set_other, length-set, set-set, set_comm}
use Rattle.byteorder.specs.Endian.{little_bytes}
use Rattle.rv_alu.specs.Arithmetic.{alu_of, modulo, bits_of}
use Rattle.rv_alu.specs.declared.BinOp.{BinOp}
use Rattle.rv_alu.specs.declared.Mode.{Mode}
use Rattle.rv_decode.specs.declared.Insn.{Insn}
use Rattle.rv_decode.specs.Encode.{encoded}
use Rattle.rv_decode.specs.Ranges.{IsInRange}
use Rattle.csr_file.specs.declared.registers.Registers.{Registers}
use Rattle.csr_file.specs.Access.{allows, may_access}
use Rattle.csr_file.specs.Numbers.{csr_mhartid, is_listed}
use Rattle.csr_file.specs.View.{is_volatile_number, view, volatile_bits}
use Rattle.hart_step.specs.declared.hart.Hart.{Hart}
use Rattle.hart_step.specs.Answers.{Given, Untouched}
use Rattle.hart_step.specs.Harts.{hart_of, is_in_debug, register, reset_hart}
use Rattle.hart_step.specs.Memory.{MemoryState, most_rom, rom_base}
use Rattle.hart_step.specs.Effects.{at_pc, effect, even_part, offset_by, pc_after, shows_write, with_write, writes}
use Rattle.hart_step.specs.Step.{hart_step, memory_of}
use Rattle.hart_turns.specs.Boot.{Booting, Leads, boot_hart}
use Rattle.hart_turns.proofs.BootSteps.{leads_join}
use Rattle.rom_gen.specs.Items.{StandAt, code, Stands}
use Rattle.rom_gen.specs.ItemEffects.{becomes}
use Rattle.rom_gen.specs.Rom.{dispatch_insns, dispatch_bytes, table}
use Rattle.rom_gen.specs.Executed.{HasCome, Dispatches, HasBegun, sent_on}
use Rattle.rom_gen.proofs.Blocks.{becomes_again, becomes_itself}
use Rattle.rom_gen.proofs.Fetch.{room}
use Rattle.rom_gen.proofs.Forms.{go_step, pooled_effect}
use Rattle.rom_gen.proofs.ItemSteps.{leads_quiet, stand_first, stand_second, code_length}
use Rattle.rom_gen.proofs.Standing.{put_is, stands_put}
use Rattle.rom_gen.proofs.Joins.{Does}
use Rattle.rom_gen.proofs.Steps.{at_long, at_word, does_effect, shows}
use Rattle.rom_gen.proofs.WordForms.{IsWord, modulo_12, word_long_fits, word_r_fits}
use Rattle.rom_gen.proofs.RomParts.{entry_stands}

-- a hart with other registers, at a place of the ROM
abbrev pub at_place : Hart → List ℕ → ℕ → Hart
at_place hart xs p = record hart { x = xs; pc = rom_base + p }

write_step : (given : Given) (n h : ℕ) (hart : Hart) (memory : MemoryState) (p r v : ℕ) (insn : Insn) (rest : List ℕ) → Stands memory hart p → given.interrupt ≡ None →
    IsInRange insn → IsWord (encoded insn) → drop p memory.rom ≡ little_bytes 4 (encoded insn) ++ rest →
    effect (at_long given n (encoded insn)) insn hart memory ≡ Ok (writes r v (pc_after hart 4) hart memory) →
    Does memory (hart_step given n h hart memory) None (with_write hart r v (pc_after hart 4)) Untouched
write_step given n h hart memory p r v insn rest stands none range word there is =
    subst (λ a. Does memory a None (with_write hart r v (pc_after hart 4)) Untouched)
    (sym (at_word given n h hart memory p rest insn stands none range word there ∙ ap (shows h hart memory (encoded insn)) is))
    (does_effect h hart (with_write hart r v (pc_after hart 4)) memory (encoded insn) (writes r v (pc_after hart 4) hart memory) (shows_write r v) Untouched stands.debugs refl refl refl refl)

-- n steps have led hart h to a place of the ROM
record Reaches (b : Booting) (h n p : ℕ) (hart : Hart) (xs : List ℕ) : Type 0 where
  leads : Leads h n b (becomes h n (at_place hart xs p) b)
  stands : Stands (memory_of b.core) (at_place hart xs p) p

next_word : (b : Booting) (h n p r v : ℕ) (hart : Hart) (xs : List ℕ) (insn : Insn) (after : List Insn) → h < length b.core.harts → 0 < r → IsInRange insn →
    IsWord (encoded insn) → StandAt (code (insn ∷ after)) p b.core.rom →
    ((given : Given) → effect (at_long given (length b.core.harts) (encoded insn)) insn (at_place hart xs p) (memory_of b.core) ≡ Ok (writes r v (pc_after (at_place hart xs p) 4) (at_place hart xs p) (memory_of b.core))) →
    Reaches b h n p hart xs → Reaches b h (n + 1) (p + 4) hart (slice_set xs r v)
next_word b h n p r v hart xs insn after inside some range word there does reached =
    let here : Hart = at_place hart xs p in
    let b1 : Booting = becomes h n here b in
    let next : Hart = with_write here r v (pc_after here 4) in
    let first : StandAt (little_bytes 4 (encoded insn)) p b.core.rom = stand_first (little_bytes 4 (encoded insn)) (code after) p b.core.rom there in
    let within : p + 4 ≤ length b.core.rom = omega (arith, room p (little_bytes 4 (encoded insn)) first.0 b.core.rom first.1 (omega arith)) in
    let small : length b.core.rom ≤ most_rom = reached.stands.small in
    let same_harts : length b1.core.harts ≡ length b.core.harts = length-set b.core.harts h here in
    let pc : (rom_base + p + 4) % 2 ^ 64 ≡ rom_base + (p + 4) = omega arith in
    let is : next ≡ at_place hart (slice_set xs r v) (p + 4) = put_is here r v (pc_after here 4) some ∙ ap (λ q. record hart { x = slice_set xs r v; pc = q }) pc in
    let on : Stands (memory_of b.core) next (p + 4) = stands_put (memory_of b.core) here p 4 r v reached.stands some within in
    let step : Leads h 1 b1 (becomes h 1 next b1) = leads_quiet b1 h here next (omega (arith, inside, same_harts)) (get_or-set_same b.core.harts h here (reset_hart 0 0) inside) reached.stands.debugs on.debugs
    (λ given none. write_step given (length b1.core.harts) h here (memory_of b.core) p r v insn first.0 reached.stands none range word first.1 (subst (λ m. effect (at_long given m (encoded insn)) insn here (memory_of b.core) ≡ Ok (writes r v (pc_after here 4) here (memory_of b.core))) (sym same_harts) (does given))) in
    record {
      leads = subst (λ x. Leads h (n + 1) b x) (becomes_again h n 1 here next b ∙ ap (λ x. becomes h (n + 1) x b) is) (leads_join h n 1 b b1 (becomes h 1 next b1) reached.leads step);
      stands = subst (λ x. Stands (memory_of b.core) x (p + 4)) is on;
    }

following : (insn : Insn) (after : List Insn) (p : ℕ) (rom : List ℕ) → StandAt (code (insn ∷ after)) p rom → StandAt (code after) (p + 4) rom
following insn after p rom there = stand_second (little_bytes 4 (encoded insn)) (code after) p rom there

-- ---- the effects of its words, and their form

may_number : (r : Registers) (mode : Mode) → is_some r.debug ≡ true → may_access r mode csr_mhartid false ≡ true
unfolding allows is_listed
may_number r mode debugs = rw debugs refl

number_effect : (given : Given) (n word : ℕ) (hart : Hart) (memory : MemoryState) → is_in_debug hart ≡ true → effect (at_long given n word) (Insn.Csrrs 2 0 0xf14) hart memory ≡ Ok (writes 2 hart.csrs.hart (pc_after hart 4) hart memory)
unfolding effect view is_volatile_number volatile_bits
number_effect given n word hart memory debugs = rw (may_number hart.csrs hart.mode debugs) refl

shift_effect : (given : Given) (n word : ℕ) (hart : Hart) (memory : MemoryState) → register hart 2 < 8 → effect (at_long given n word) (Insn.Slli 2 2 3) hart memory ≡ Ok (writes 2 (8 * register hart 2) (pc_after hart 4) hart memory)
unfolding effect
shift_effect given n word hart memory small = let e : alu_of BinOp.Sll (register hart 2) 3 ≡ 8 * register hart 2 = omega arith in ap (λ x. Ok (writes 2 x (pc_after hart 4) hart memory)) e

place_effect : (given : Given) (n p word : ℕ) (hart : Hart) (xs : List ℕ) (memory : MemoryState) → p < 2 ^ 32 →
    effect (at_long given n word) (Insn.Auipc 1 (pos 0)) (at_place hart xs p) memory ≡ Ok (writes 1 (rom_base + p) (pc_after (at_place hart xs p) 4) (at_place hart xs p) memory)
unfolding effect
place_effect given n p word hart xs memory small = let e : offset_by (rom_base + p) (pos 0) ≡ rom_base + p = omega arith in ap (λ v. Ok (writes 1 v (pc_after (at_place hart xs p) 4) (at_place hart xs p) memory)) e

sum_effect : (given : Given) (n word a c : ℕ) (hart : Hart) (memory : MemoryState) → register hart 1 ≡ a → register hart 2 ≡ c → a + c < 2 ^ 64 → effect (at_long given n word) (Insn.Add 1 1 2) hart memory ≡ Ok (writes 1 (a + c) (pc_after hart 4) hart memory)
unfolding effect
sum_effect given n word a c hart memory first second fits =
    let e : alu_of BinOp.Add a c ≡ a + c = omega arith in
    ap (λ x. Ok (writes 1 (alu_of BinOp.Add x (register hart 2)) (pc_after hart 4) hart memory)) first
    ∙ ap (λ x. Ok (writes 1 (alu_of BinOp.Add a x) (pc_after hart 4) hart memory)) second
    ∙ ap (λ x. Ok (writes 1 x (pc_after hart 4) hart memory)) e

place_word : IsWord (encoded (Insn.Auipc 1 (pos 0)))
unfolding encoded
place_word = word_long_fits 0x17 1 (bits_of (modulo 32 (pos 0)) 12 20) (omega arith) refl (omega arith) (omega arith)

number_word : IsWord (encoded (Insn.Csrrs 2 0 0xf14))
unfolding encoded
number_word = word_r_fits 0x2073 2 0 0xf14 (omega arith) refl (omega arith) (omega arith) (omega arith)

shift_word : IsWord (encoded (Insn.Slli 2 2 3))
unfolding encoded
shift_word = word_r_fits 0x1013 2 2 3 (omega arith) refl (omega arith) (omega arith) (omega arith)

sum_word : IsWord (encoded (Insn.Add 1 1 2))
unfolding encoded
sum_word = word_r_fits 0x33 1 1 2 (omega arith) refl (omega arith) (omega arith) (omega arith)

entry_word : IsWord (encoded (Insn.Ld 1 1 (pos 24)))
unfolding encoded
entry_word = word_r_fits 0x3003 1 1 (modulo 12 (pos 24)) (omega arith) refl (omega arith) (omega arith) (modulo_12 (pos 24))

-- ---- the six steps

-- what the registers x are after the dispatch
registers_after : (xs : List ℕ) (a h k s start : ℕ) → slice_set (slice_set (slice_set (slice_set (slice_set xs 1 a) 2 h) 2 k) 1 s) 1 start ≡ slice_set (slice_set xs 1 start) 2 k
registers_after xs a h k s start =
    set-set (slice_set (slice_set (slice_set xs 1 a) 2 h) 2 k) 1 s start
    ∙ ap (λ ys. slice_set ys 1 start) (set-set (slice_set xs 1 a) 2 h k)
    ∙ set_comm (slice_set xs 1 a) 2 1 k start (omega arith)
    ∙ ap (λ ys. slice_set ys 2 k) (set-set xs 1 a start)

-- the six words, and what stands in the table at the hart's number
pub record Listed (h start : ℕ) (rom : List ℕ) : Type 0 where
  pub few : h < 8
  pub fits : start < 2 ^ 64
  pub words : StandAt (code dispatch_insns) 0 rom
  pub entry : StandAt (little_bytes 8 start) (24 + 8 * h) rom

sent : (b : Booting) (h start : ℕ) → HasBegun b h → Listed h start b.core.rom → Leads h 6 b (becomes h 6 (sent_on h start (hart_of b.core h)) b)
sent b h start begun listed =
    let rom : List ℕ = b.core.rom in
    let n : ℕ = length b.core.harts in
    let memory : MemoryState = memory_of b.core in
    let hart : Hart = hart_of b.core h in
    let inside : h < n = begun.inside in
    let few : h < 8 = listed.few in
    let debugs : is_in_debug hart ≡ true = begun.stands.debugs in
    let small : length rom ≤ most_rom = begun.stands.small in
    let count : length hart.x ≡ 32 = begun.stands.count in
    let x0 : List ℕ = hart.x in
    let x1 : List ℕ = slice_set x0 1 (rom_base + 0) in
    let x2 : List ℕ = slice_set x1 2 hart.csrs.hart in
    let x3 : List ℕ = slice_set x2 2 (8 * h) in
    let x4 : List ℕ = slice_set x3 1 (rom_base + 8 * h) in
    let x5 : List ℕ = slice_set x4 1 start in
    let c1 : length x1 ≡ 32 = length-set x0 1 (rom_base + 0) ∙ count in
    let c2 : length x2 ≡ 32 = length-set x1 2 hart.csrs.hart ∙ c1 in
    let c3 : length x3 ≡ 32 = length-set x2 2 (8 * h) ∙ c2 in
    let c4 : length x4 ≡ 32 = length-set x3 1 (rom_base + 8 * h) ∙ c3 in
    let w5 : List Insn = Insn.Jalr 0 1 (pos 0) ∷ [] in
    let w4 : List Insn = Insn.Ld 1 1 (pos 24) ∷ w5 in
    let w3 : List Insn = Insn.Add 1 1 2 ∷ w4 in
    let w2 : List Insn = Insn.Slli 2 2 3 ∷ w3 in
    let w1 : List Insn = Insn.Csrrs 2 0 0xf14 ∷ w2 in
    let s1 = following (Insn.Auipc 1 (pos 0)) w1 0 rom listed.words in
    let s2 = following (Insn.Csrrs 2 0 0xf14) w2 4 rom s1 in
    let s3 = following (Insn.Slli 2 2 3) w3 8 rom s2 in
    let s4 = following (Insn.Add 1 1 2) w4 12 rom s3 in
    let s5 = following (Insn.Ld 1 1 (pos 24)) w5 16 rom s4 in
    let begins : hart ≡ at_place hart x0 0 = ap (λ q. record hart { pc = q }) begun.stands.at in
    let r0 : Reaches b h 0 0 hart x0 = record {
      leads = subst (λ x. Leads h 0 b (becomes h 0 x b)) begins (λ left. let e : 0 + left ≡ left = omega arith in ap (λ k. boot_hart k h b) e ∙ ap (boot_hart left h) (sym (becomes_itself h b)));
      stands = record { debugs = debugs; at = refl; nought = begun.stands.nought; count = count; small = small };
    } in
    let r1 : Reaches b h 1 4 hart x1 = next_word b h 0 0 1 (rom_base + 0) hart x0 (Insn.Auipc 1 (pos 0)) w1 inside (omega arith) (omega arith, (omega (arith, ints), omega (arith, ints)), refl) place_word listed.words (λ given. place_effect given n 0 _ hart x0 memory (omega arith)) r0 in
    let r2 : Reaches b h 2 8 hart x2 = next_word b h 1 4 2 hart.csrs.hart hart x1 (Insn.Csrrs 2 0 0xf14) w2 inside (omega arith) (omega arith, omega arith, omega arith) number_word s1 (λ given. number_effect given n _ (at_place hart x1 4) memory debugs) r1 in
    let two : register (at_place hart x2 8) 2 ≡ h = get_or-set_same x1 2 hart.csrs.hart 0 (omega arith) ∙ begun.number in
    let r3 : Reaches b h 3 12 hart x3 = next_word b h 2 8 2 (8 * h) hart x2 (Insn.Slli 2 2 3) w3 inside (omega arith) (omega arith, omega arith, omega arith) shift_word s2
    (λ given. shift_effect given n _ (at_place hart x2 8) memory (omega arith) ∙ ap (λ k. Ok (writes 2 (8 * k) (pc_after (at_place hart x2 8) 4) (at_place hart x2 8) memory)) two) r2 in
    let one3 : register (at_place hart x3 12) 1 ≡ rom_base = get_or-set_other x2 2 1 (8 * h) 0 (omega arith) ∙ get_or-set_other x1 2 1 hart.csrs.hart 0 (omega arith) ∙ get_or-set_same x0 1 (rom_base + 0) 0 (omega arith) in
    let two3 : register (at_place hart x3 12) 2 ≡ 8 * h = get_or-set_same x2 2 (8 * h) 0 (omega arith) in
    let r4 : Reaches b h 4 16 hart x4 = next_word b h 3 12 1 (rom_base + 8 * h) hart x3 (Insn.Add 1 1 2) w4 inside (omega arith) (omega arith, omega arith, omega arith) sum_word s3 (λ given. sum_effect given n _ rom_base (8 * h) (at_place hart x3 12) memory one3 two3 (omega arith)) r3 in
    let one4 : register (at_place hart x4 16) 1 ≡ rom_base + 8 * h = get_or-set_same x3 1 (rom_base + 8 * h) 0 (omega arith) in
    let entry : StandAt (little_bytes 8 start) (8 * h + 24) rom = subst (λ q. StandAt (little_bytes 8 start) q rom) (omega arith) listed.entry in
    let r5 : Reaches b h 5 20 hart x5 = next_word b h 4 16 1 start hart x4 (Insn.Ld 1 1 (pos 24)) w5 inside (omega arith) (omega arith, omega arith, (omega (arith, ints), omega (arith, ints))) entry_word s4
    (λ given. pooled_effect given n (at_place hart x4 16) memory _ 1 start (8 * h) 24 debugs listed.fits (omega arith) (omega arith) small one4 entry) r4 in
    let one5 : register (at_place hart x5 20) 1 ≡ start = get_or-set_same x4 1 start 0 (omega arith) in
    let here : Hart = at_place hart x5 20 in
    let b5 : Booting = becomes h 5 here b in
    let next : Hart = at_pc here (even_part (register here 1)) in
    let same_harts : length b5.core.harts ≡ n = length-set b.core.harts h here in
    let fits : register here 1 < 2 ^ 64 = subst (λ v. v < 2 ^ 64) (sym one5) listed.fits in
    let goes : Leads h 1 b5 (becomes h 1 next b5) = leads_quiet b5 h here next (omega arith) (get_or-set_same b.core.harts h here (reset_hart 0 0) inside) debugs debugs
    (λ given none. go_step given (length b5.core.harts) h here memory 20 1 s5.0 r5.stands none (omega arith) fits s5.1) in
    let is : next ≡ sent_on h start hart =
    ap (λ v. at_pc here (even_part v)) one5
    ∙ ap (λ xs. record hart { x = xs; pc = even_part start }) (registers_after x0 (rom_base + 0) hart.csrs.hart (8 * h) (rom_base + 8 * h) start) in
    subst (λ x. Leads h 6 b x) (becomes_again h 5 1 here next b ∙ ap (λ x. becomes h 6 x b) is) (leads_join h 5 1 b b5 (becomes h 1 next b5) r5.leads goes)

-- the whole dispatch
pub dispatches : (starts : List ℕ) → length starts ≤ 8 → All (λ v. v < 2 ^ 64) starts → Dispatches starts (dispatch_bytes starts)
unfolding dispatch_bytes
dispatches starts most fit b h within begun there =
    let words : List ℕ = code dispatch_insns in
    let tail : StandAt (table starts) 24 b.core.rom = subst (λ q. StandAt (table starts) q b.core.rom) (code_length dispatch_insns) (stand_second words (table starts) 0 b.core.rom there) in
    sent b h (slice_index starts h) begun (record {
      few = omega arith;
      fits = fit h 0 within;
      words = stand_first words (table starts) 0 b.core.rom there;
      entry = entry_stands starts 24 h b.core.rom within tail;
    })

-- a hart has come to where it was sent
pub sent_comes : (b : Booting) (h place : ℕ) (csrs : Registers) → HasBegun b h → place % 8 ≡ 0 → place ≤ most_rom → (hart_of b.core h).csrs ≡ csrs → HasCome (becomes h 6 (sent_on h (rom_base + place) (hart_of b.core h)) b) h place csrs
sent_comes b h place csrs begun aligned near csrs_are =
    let hart : Hart = hart_of b.core h in
    let v : ℕ = rom_base + place in
    let next : Hart = sent_on h v hart in
    let count : length hart.x ≡ 32 = begun.stands.count in
    let end : hart_of (becomes h 6 next b).core h ≡ next = get_or-set_same b.core.harts h next (reset_hart 0 0) begun.inside in
    let put : length (slice_set hart.x 1 v) ≡ 32 = length-set hart.x 1 v ∙ count in
    let stands : Stands (memory_of b.core) next place = record {
      debugs = begun.stands.debugs;
      at = omega arith;
      nought = get_or-set_other (slice_set hart.x 1 v) 2 0 (8 * h) 0 (omega arith) ∙ get_or-set_other hart.x 1 0 v 0 (omega arith) ∙ begun.stands.nought;
      count = length-set (slice_set hart.x 1 v) 2 (8 * h) ∙ put;
      small = begun.stands.small;
    } in
    record {
      inside = omega (arith, begun.inside, length-set b.core.harts h next);
      stands = subst (λ x. Stands (memory_of b.core) x place) (sym end) stands;
      csrs_are = ap (λ (x : Hart). x.csrs) end ∙ csrs_are;
      at = ap (λ (x : Hart). register x 1) end ∙ get_or-set_other (slice_set hart.x 1 v) 2 1 (8 * h) 0 (omega arith) ∙ get_or-set_same hart.x 1 v 0 (omega arith);
      aligned = aligned;
    }
