-- Where the parts of the ROM stand, and how long they are.
use Rattle.std.specs.Prelude.{ℤ, pos, negsuc, slice_index, nat_le}
use Rattle.std.proofs.Common.{◌≡◌, ◌≢◌, ℕ, zero, suc, ◌+◌, ◌*◌, ◌%◌, ◌<◌, ◌≤◌, Bool, true, false, cond, List, [], ◌∷◌, ◌++◌, length, refl, sym, ap, ◌∙◌, arith, subst, length-append, ◌==◌, eq-eqb}
use Rattle.std.proofs.lemmas.Bool.{eqb-true}
use Rattle.std.proofs.Math.ListN.{get_or}
use Rattle.byteorder.specs.Endian.{little_bytes}
use Rattle.rv_alu.specs.Modes.{level}
use Rattle.rv_decode.specs.declared.Insn.{Insn}
use Rattle.csr_file.specs.Bits.{dcsr_fixed}
use Rattle.csr_file.specs.Legal.{kept_numbers}
use Rattle.csr_file.specs.Numbers.{csr_dcsr, csr_dpc}
use Rattle.clint.specs.State.{hart_count}
use Rattle.plic.specs.State.{context_count as contexts_of}
use Rattle.board_bus.specs.Board.{BoardState, IsFit}
use Rattle.hart_step.specs.declared.hart.Hart.{Hart}
use Rattle.rom_gen.specs.Items.{Put, Store, Word, Double, Spelling, StandAt, Width, all_insns, code, size_of, store_insn, word_count}
use Rattle.rom_gen.specs.HartWants.{controls, first_wants, number_wants, numbered, registers}
use Rattle.rom_gen.specs.Wants.{Want, Reg, Control, all_values, high_part, low_part, is_short, is_small, placed, pool, put_insns, want_items, want_values, put_values}
use Rattle.rom_gen.specs.Deeds.{Deed, Aim, Save, Again, Read, all_deed_values, deed_items, deed_values, placed_deeds}
use Rattle.rom_gen.specs.DeviceBlock.{compare_deeds, context_deeds, device_deeds, queue_deeds, soft_deeds, timer_deeds}
use Rattle.rom_gen.specs.Rom.{all_blocks, block_bytes, block_size, block_words, device_bytes, device_items, device_size, device_values, far_insns, hart_bytes, hart_items, hart_size, hart_values, padding, pool_place, rounded, block_places, table}
use Rattle.rom_gen.proofs.Deeds.{count_append}
use Rattle.rom_gen.proofs.HartBlock.{insns_count}
use Rattle.rom_gen.proofs.ItemSteps.{code_length, stand_first, stand_second}
use Rattle.rom_gen.proofs.Placed.{pool_length}
use Rattle.rom_gen.proofs.Sizes.{placed_fixed, placed_short, put_fixed, put_short, want_sized}

-- ---- a block

padding_length : (n : ℕ) (b : Bool) → (n % 2 == 0) ≡ b → length (code (cond b [] (Insn.Addi 0 0 (pos 0) ∷ []))) ≡ 4 * (n % 2)
padding_length n true is = let e : n % 2 ≡ 0 = eqb-true (n % 2) 0 is in omega arith
padding_length n false is = let e : n % 2 ≢ 0 = (λ z. cc (is, eq-eqb (n % 2) 0 z)) in omega arith

-- the code of a block and its pool, where they stand
pub record Laid (items : ℕ → List Spelling) (last : Insn) (values : List ℕ) (block : ℕ) (rom : List ℕ) : Type 0 where
  pub codes : StandAt (code (all_insns (items (pool_place items))) ++ code (last ∷ [])) block rom
  pub pools : StandAt (pool values) (block + pool_place items) rom

front_length : (items : ℕ → List Spelling) (last : Insn) → ((k : ℕ) → word_count (items k) ≡ word_count (items 0)) → length (code (all_insns (items (pool_place items))) ++ code (last ∷ [])) ≡ 4 * block_words items
front_length items last fixed =
    let k : ℕ = pool_place items in
    length-append (code (all_insns (items k))) (code (last ∷ [])) ∙ ap (λ n. n + 4) (code_length (all_insns (items k)) ∙ ap (λ n. 4 * n) (insns_count (items k) ∙ fixed k)) ∙ omega arith

-- how long a block is
pub block_length : (items : ℕ → List Spelling) (last : Insn) (values : List ℕ) → ((k : ℕ) → word_count (items k) ≡ word_count (items 0)) → length (block_bytes items last values) ≡ block_size items values
block_length items last values fixed =
    let front : List ℕ = code (all_insns (items (pool_place items))) ++ code (last ∷ []) in
    let pad : List ℕ = code (padding (block_words items)) in
    omega (arith, length-append front (pad ++ pool values), length-append pad (pool values), front_length items last fixed, padding_length (block_words items) (block_words items % 2 == 0) refl, pool_length values)

-- a block's parts, from its bytes
pub laid : (items : ℕ → List Spelling) (last : Insn) (values : List ℕ) (block : ℕ) (rom : List ℕ) → ((k : ℕ) → word_count (items k) ≡ word_count (items 0)) → StandAt (block_bytes items last values) block rom → Laid items last values block rom
laid items last values block rom fixed there =
    let front : List ℕ = code (all_insns (items (pool_place items))) ++ code (last ∷ []) in
    let pad : List ℕ = code (padding (block_words items)) in
    let behind : StandAt (pad ++ pool values) (block + length front) rom = stand_second front (pad ++ pool values) block rom there in
    let end : StandAt (pool values) (block + length front + length pad) rom = stand_second pad (pool values) (block + length front) rom behind in
    let place : block + length front + length pad ≡ block + pool_place items = omega (arith, front_length items last fixed, padding_length (block_words items) (block_words items % 2 == 0) refl) in
    record { codes = stand_first front (pad ++ pool values) block rom there; pools = subst (λ q. StandAt (pool values) q rom) place end }

-- ---- a hart's block

-- as many words wherever its pool stands
pub hart_fixed : (target : Hart) (k : ℕ) → word_count (hart_items target k) ≡ word_count (hart_items target 0)
hart_fixed target k =
    let ws : List Want = first_wants target in
    let l : Want = Reg 1 (slice_index target.x 1) in
    let n : ℕ = 8 * length (all_values want_values ws) in
    omega (arith, count_append (placed want_items want_values k ws) (want_items (k + n) l), count_append (placed want_items want_values 0 ws) (want_items (0 + n) l), placed_fixed want_values want_sized k 0 ws, want_sized.fixed (k + n) l, want_sized.fixed (0 + n) l)

controls_length : (target : Hart) → length (number_wants target.csrs kept_numbers) ≡ 22
unfolding number_wants kept_numbers
controls_length target = refl

numbered_length : (n i : ℕ) (xs : List ℕ) → length (numbered n i xs) ≡ n
unfolding numbered
numbered_length zero i xs = refl
numbered_length (suc n) i xs = let e = numbered_length n (suc i) xs in omega arith

wants_length : (target : Hart) → length (first_wants target) ≡ 54
wants_length target =
    let a : List Want = number_wants target.csrs kept_numbers in
    omega (arith, length-append (controls target) (registers target), length-append a (Control csr_dcsr (dcsr_fixed + level target.mode) ∷ Control csr_dpc target.pc ∷ []), controls_length target, numbered_length 30 2 target.x)

-- few words, so few steps
pub hart_short : (target : Hart) → word_count (hart_items target 0) ≤ 165
hart_short target =
    let ws : List Want = first_wants target in
    let l : Want = Reg 1 (slice_index target.x 1) in
    let n : ℕ = 8 * length (all_values want_values ws) in
    omega (arith, count_append (placed want_items want_values 0 ws) (want_items (0 + n) l), placed_short want_values want_sized 0 ws, want_sized.short (0 + n) l, wants_length target)

some_values : (b c : Bool) (v : ℕ) → length (cond b [] (cond c [] (v ∷ []))) ≤ 1
some_values true c v = omega arith
some_values false true v = omega arith
some_values false false v = omega arith

choice_few : (d : Bool) (v : ℕ) → length (cond d [] (put_values v)) ≤ 1
choice_few true v = omega arith
choice_few false v = some_values (is_small v) (is_short v) v

pub one_value : (w : Want) → length (want_values w) ≤ 1
one_value (Reg r v) = some_values (is_small v) (is_short v) v
one_value (Control number v) = choice_few (nat_le v 31) v

values_few : (ws : List Want) → length (all_values want_values ws) ≤ length ws
values_few [] = omega arith
values_few (w ∷ ws) = omega (arith, length-append (want_values w) (all_values want_values ws), one_value w, values_few ws)

-- and few values
pub hart_few : (target : Hart) → length (hart_values target) ≤ 55
hart_few target = omega (arith, length-append (all_values want_values (first_wants target)) (want_values (Reg 1 (slice_index target.x 1))), values_few (first_wants target), one_value (Reg 1 (slice_index target.x 1)), wants_length target)

pub hart_length : (target : Hart) → length (hart_bytes target) ≡ hart_size target
unfolding hart_bytes hart_size
hart_length target = block_length (hart_items target) Insn.Dret (hart_values target) (hart_fixed target)

pub hart_small : (target : Hart) → hart_size target ≤ 1112
unfolding hart_size
hart_small target = omega (arith, hart_short target, hart_few target)

pub hart_even : (target : Hart) → hart_size target % 8 ≡ 0
unfolding hart_size
hart_even target = let n : ℕ = word_count (hart_items target 0) in omega arith

-- ---- the block of the devices

saves : Bool → Bool → Bool → ℕ → ℕ → Width → ℕ → ℤ → List Spelling
saves z b c k v w by off =
    cond z (record { item = Store (size_of w) 0 by off; insns = store_insn w by 0 off ∷ [] } ∷ [])
    (record { item = Put 6 v; insns = put_insns k 6 v } ∷ record { item = Store (size_of w) 6 by off; insns = store_insn w by 6 off ∷ [] } ∷ [])

save_fixed : (z : Bool) (k v by : ℕ) (w : Width) (off : ℤ) → word_count (saves z true true k v w by off) ≡ word_count (saves z true true 0 v w by off)
unfolding saves
save_fixed true k v by w off = refl
save_fixed false k v by w off = ap (λ n. n + (1 + 0)) (put_fixed k 0 6 v (is_small v) (is_short v))

deed_fixed : (k : ℕ) (d : Deed) → word_count (deed_items k d) ≡ word_count (deed_items 0 d)
unfolding saves
deed_fixed k (Aim r v) = refl
deed_fixed k (Save w v by off at) = save_fixed (v == 0) k v by w off
deed_fixed k (Again w v by off at) = refl
deed_fixed k (Read w by off at) = refl

pub deeds_fixed : (k k' : ℕ) (ds : List Deed) → word_count (placed_deeds k ds) ≡ word_count (placed_deeds k' ds)
deeds_fixed k k' [] = refl
deeds_fixed k k' (d ∷ ds) =
    let next : ℕ = k + 8 * length (deed_values d) in
    let next' : ℕ = k' + 8 * length (deed_values d) in
    omega (arith, count_append (deed_items k d) (placed_deeds next ds), count_append (deed_items k' d) (placed_deeds next' ds), deed_fixed k d, deed_fixed k' d, deeds_fixed next next' ds)

-- as many words wherever its pool stands
pub device_fixed : (target : BoardState) (next k : ℕ) → word_count (device_items k target next) ≡ word_count (device_items 0 target next)
device_fixed target next k =
    let last : List Spelling = record { item = Put 1 next; insns = far_insns next } ∷ [] in
    omega (arith, count_append (placed_deeds k (device_deeds target)) last, count_append (placed_deeds 0 (device_deeds target)) last, deeds_fixed k 0 (device_deeds target))

-- and wherever it goes on
pub device_count : (target : BoardState) (next : ℕ) → word_count (device_items 0 target next) ≡ word_count (device_items 0 target 0)
device_count target next = count_append (placed_deeds 0 (device_deeds target)) (record { item = Put 1 next; insns = far_insns next } ∷ []) ∙ sym (count_append (placed_deeds 0 (device_deeds target)) (record { item = Put 1 0; insns = far_insns 0 } ∷ []))

pub device_length : (target : BoardState) (next : ℕ) → length (device_bytes target next) ≡ device_size target
unfolding device_bytes device_size
device_length target next = block_length (λ k. device_items k target next) (Insn.Jalr 0 1 (pos 0)) (device_values target) (device_fixed target next) ∙ ap (λ n. 4 * rounded (n + 1) + 8 * length (device_values target)) (device_count target next)

put_cost : (b c : Bool) (k v : ℕ) → 4 * length (cond b (Insn.Addi 6 0 (low_part v) ∷ []) (cond c (Insn.Lui 6 (high_part v) ∷ Insn.Addiw 6 6 (low_part v) ∷ []) (Insn.Ld 6 1 (pos k) ∷ []))) + 8 * length (cond b [] (cond c [] (v ∷ []))) ≤ 12
put_cost true c k v = omega arith
put_cost false true k v = omega arith
put_cost false false k v = omega arith

save_cost : (z : Bool) (v by : ℕ) (w : Width) (off : ℤ) → 4 * word_count (saves z true true 0 v w by off) + 8 * length (cond z [] (put_values v)) ≤ 16
unfolding saves
save_cost true v by w off = omega arith
save_cost false v by w off = let e = put_cost (is_small v) (is_short v) 0 v in omega arith

save_words : (z : Bool) (v by : ℕ) (w : Width) (off : ℤ) → word_count (saves z true true 0 v w by off) ≤ 3
unfolding saves
save_words true v by w off = omega arith
save_words false v by w off = let e = put_short 0 6 v (is_small v) (is_short v) in omega arith

deed_cost : (d : Deed) → 4 * word_count (deed_items 0 d) + 8 * length (deed_values d) ≤ 16
unfolding saves
deed_cost (Aim r v) = omega arith
deed_cost (Save w v by off at) = save_cost (v == 0) v by w off
deed_cost (Again w v by off at) = omega arith
deed_cost (Read w by off at) = omega arith

deed_words : (d : Deed) → word_count (deed_items 0 d) ≤ 3
unfolding saves
deed_words (Aim r v) = omega arith
deed_words (Save w v by off at) = save_words (v == 0) v by w off
deed_words (Again w v by off at) = omega arith
deed_words (Read w by off at) = omega arith

deeds_cost : (ds : List Deed) → 4 * word_count (placed_deeds 0 ds) + 8 * length (all_deed_values ds) ≤ 16 * length ds
deeds_cost [] = omega arith
deeds_cost (d ∷ ds) =
    let next : ℕ = 0 + 8 * length (deed_values d) in
    omega (arith, count_append (deed_items 0 d) (placed_deeds next ds), deeds_fixed next 0 ds, length-append (deed_values d) (all_deed_values ds), deed_cost d, deeds_cost ds)

deeds_words : (ds : List Deed) → word_count (placed_deeds 0 ds) ≤ 3 * length ds
deeds_words [] = omega arith
deeds_words (d ∷ ds) =
    let next : ℕ = 0 + 8 * length (deed_values d) in
    omega (arith, count_append (deed_items 0 d) (placed_deeds next ds), deeds_fixed next 0 ds, deed_words d, deeds_words ds)

queue_count : (q : List ℕ) (rest : List Deed) → length (queue_deeds q rest) ≡ length q + length rest
unfolding queue_deeds
queue_count [] rest = omega arith
queue_count (x ∷ q) rest = let e = queue_count q rest in omega arith

context_count : (k c : ℕ) (es harts : List ℕ) (rest : List Deed) → length (context_deeds k c es harts rest) ≡ 3 * k + length rest
unfolding context_deeds
context_count zero c es harts rest = omega arith
context_count (suc k) c es harts rest = let e = context_count k (suc c) es harts rest in omega arith

soft_count : (k h : ℕ) (xs : List ℕ) (rest : List Deed) → length (soft_deeds k h xs rest) ≡ k + length rest
unfolding soft_deeds
soft_count zero h xs rest = omega arith
soft_count (suc k) h xs rest = let e = soft_count k (suc h) xs rest in omega arith

compare_count : (k h : ℕ) (xs : List ℕ) (rest : List Deed) → length (compare_deeds k h xs rest) ≡ k + length rest
unfolding compare_deeds
compare_count zero h xs rest = omega arith
compare_count (suc k) h xs rest = let e = compare_count k (suc h) xs rest in omega arith

timer_count : (target : BoardState) → length (timer_deeds target) ≡ 4 + 2 * hart_count target.clint
timer_count target =
    let n : ℕ = hart_count target.clint in
    let last : List Deed = Aim 5 0x200c000 ∷ Save Double target.clint.mtime 5 (negsuc 7) 0x200bff8 ∷ [] in
    let more : List Deed = Aim 7 0x2004000 ∷ compare_deeds n 0 target.clint.mtimecmp last in
    omega (arith, soft_count n 0 target.clint.msip more, compare_count n 0 target.clint.mtimecmp last)

deeds_few : (target : BoardState) → IsFit target → length (device_deeds target) ≤ 100
deeds_few target fit =
    let n : ℕ = hart_count target.clint in
    let ds4 : List Deed = Save Word target.console.ctrl 2 (pos 8) 0x10000008 ∷ Save Double target.console.txaddr 2 (pos 16) 0x10000010 ∷ timer_deeds target in
    let ds3 : List Deed = context_deeds (contexts_of target.plic) 0 target.plic.enable target.plic.threshold ds4 in
    let ds2 : List Deed = Save Word (slice_index target.plic.priority 0) 3 (pos 4) 0xc000004 ∷ Save Word (slice_index target.plic.priority 1) 3 (pos 8) 0xc000008 ∷ ds3 in
    omega (arith, queue_count target.console.queue ds2, context_count (contexts_of target.plic) 0 target.plic.enable target.plic.threshold ds4, timer_count target, fit.console.room, fit.clint.most, fit.contexts)

pub device_words : (target : BoardState) (next : ℕ) → IsFit target → word_count (device_items 0 target next) ≤ 302
device_words target next fit =
    omega (arith, count_append (placed_deeds 0 (device_deeds target)) (record { item = Put 1 next; insns = far_insns next } ∷ []), deeds_words (device_deeds target), deeds_few target fit)

pub device_small : (target : BoardState) → IsFit target → device_size target ≤ 1616
unfolding device_size
device_small target fit =
    omega (arith, count_append (placed_deeds 0 (device_deeds target)) (record { item = Put 1 0; insns = far_insns 0 } ∷ []), deeds_cost (device_deeds target), deeds_few target fit)

pub device_even : (target : BoardState) → device_size target % 8 ≡ 0
unfolding device_size
device_even target = let n : ℕ = word_count (device_items 0 target 0) in omega arith

-- ---- one part after another

pub entry_stands : (starts : List ℕ) (p i : ℕ) (rom : List ℕ) → i < length starts → StandAt (table starts) p rom → StandAt (little_bytes 8 (slice_index starts i)) (p + 8 * i) rom
unfolding table
entry_stands [] p i rom within there = absurd (omega arith)
entry_stands (x ∷ starts) p zero rom within there = subst (λ q. StandAt (little_bytes 8 x) q rom) (omega arith) (stand_first (little_bytes 8 x) (table starts) p rom there)
entry_stands (x ∷ starts) p (suc i) rom within there =
    let place : p + 8 + 8 * i ≡ p + 8 * suc i = omega arith in
    subst (λ q. StandAt (little_bytes 8 (slice_index starts i)) q rom) place (entry_stands starts (p + 8) i rom (omega arith) (stand_second (little_bytes 8 x) (table starts) p rom there))

pub table_length : (starts : List ℕ) → length (table starts) ≡ 8 * length starts
unfolding table
table_length [] = refl
table_length (x ∷ starts) = let e = table_length starts in omega (arith, length-append (little_bytes 8 x) (table starts))

pub starts_length : (p : ℕ) (harts : List Hart) → length (block_places p harts) ≡ length harts
unfolding block_places
starts_length p [] = refl
starts_length p (target ∷ harts) = ap (λ n. suc n) (starts_length (p + hart_size target) harts)

pub block_stands : (harts : List Hart) (p i : ℕ) (d : Hart) (rom : List ℕ) → i < length harts → StandAt (all_blocks harts) p rom → StandAt (hart_bytes (get_or harts i d)) (slice_index (block_places p harts) i) rom
unfolding block_places all_blocks
block_stands [] p i d rom within there = absurd (omega arith)
block_stands (target ∷ harts) p zero d rom within there = stand_first (hart_bytes target) (all_blocks harts) p rom there
block_stands (target ∷ harts) p (suc i) d rom within there = block_stands harts (p + hart_size target) i d rom (omega arith) (subst (λ q. StandAt (all_blocks harts) q rom) (ap (λ n. p + n) (hart_length target)) (stand_second (hart_bytes target) (all_blocks harts) p rom there))

pub blocks_length : (harts : List Hart) → length (all_blocks harts) ≤ 1112 * length harts
unfolding all_blocks
blocks_length [] = omega arith
blocks_length (target ∷ harts) = omega (arith, length-append (hart_bytes target) (all_blocks harts), hart_length target, hart_small target, blocks_length harts)

pub start_even : (harts : List Hart) (p i : ℕ) → p % 8 ≡ 0 → i < length harts → slice_index (block_places p harts) i % 8 ≡ 0
unfolding block_places
start_even [] p i even within = absurd (omega arith)
start_even (target ∷ harts) p zero even within = even
start_even (target ∷ harts) p (suc i) even within = start_even harts (p + hart_size target) i (omega (arith, hart_even target)) (omega arith)

pub start_small : (harts : List Hart) (p i : ℕ) → i < length harts → slice_index (block_places p harts) i ≤ p + 1112 * i
unfolding block_places
start_small [] p i within = absurd (omega arith)
start_small (target ∷ harts) p zero within = omega arith
start_small (target ∷ harts) p (suc i) within = let e = start_small harts (p + hart_size target) i (omega arith) in omega (arith, hart_small target)

pub first_start : (harts : List Hart) (p : ℕ) → 0 < length harts → slice_index (block_places p harts) 0 ≡ p
unfolding block_places
first_start [] p some = absurd (omega arith)
first_start (target ∷ harts) p some = refl
