-- The deeds of the device block, one after another.
use Rattle.std.specs.Prelude.{ℤ, pos, slice_set, slice_index}
use Rattle.std.proofs.Common.{◌≡◌, ℕ, ◌+◌, ◌*◌, ◌%◌, ◌^◌, ◌<◌, ◌≤◌, ⊎_elim, Bool, true, false, cond, List, [], ◌∷◌, ◌++◌, length, refl, sym, ap, ◌∙◌, arith, subst, add_assoc, length-append, eq-eqb, ◌==◌, map}
use Rattle.std.proofs.lemmas.Bool.{cases_eq, ne_eqb, eqb-true}
use Rattle.std.proofs.lemmas.Int.{ints}
use Rattle.std.proofs.lemmas.List.{append-nil, get_or-set_same, get_or-set_other, length-set, length-map}
use Rattle.rv_alu.specs.Bits.{low_bytes}
use Rattle.rv_decode.specs.declared.Insn.{Insn}
use Rattle.csr_file.specs.declared.registers.Registers.{Registers}
use Rattle.board_bus.specs.Board.{BoardState, after_load, sent, stored}
use Rattle.board_bus.specs.Listed.{is_listed}
use Rattle.hart_step.specs.declared.hart.Hart.{Hart}
use Rattle.hart_step.specs.Harts.{hart_of, register, reset_hart}
use Rattle.hart_step.specs.Memory.{rom_base}
use Rattle.hart_step.specs.Effects.{at_pc, offset_by, pc_after, with_write}
use Rattle.hart_step.specs.Step.{memory_of, without_reservation}
use Rattle.hart_turns.specs.Gives.{board_device}
use Rattle.hart_turns.specs.Boot.{Booting}
use Rattle.rom_gen.specs.ItemEffects.{AllSpelled, all_do, does, extended, loads, stores, moved}
use Rattle.rom_gen.specs.Items.{Put, Store, Load, Spelled, Spelling, StandAt, Width, load, load_insn, size_of, store, store_insn, upper, word_count}
use Rattle.rom_gen.specs.Wants.{is_short, is_small, pool, put_insns, put_values, Pooled}
use Rattle.rom_gen.specs.Deeds.{Deed, Aim, Save, Again, Read, all_deed_values, deed_items, deed_values, placed_deeds}
use Rattle.rom_gen.specs.Executed.{Stay}
use Rattle.rom_gen.proofs.Runs.{IsReached, IsSound, Known, Runs, board_after_deed, known_after, known_all, knows}
use Rattle.rom_gen.proofs.Standing.{put_is}
use Rattle.rom_gen.proofs.ItemSteps.{stand_first, stand_second}
use Rattle.rom_gen.proofs.Placed.{pool_append, pool_length, spelled_append}
use Rattle.rom_gen.proofs.WantLayout.{put_spelled}
use Rattle.rom_gen.proofs.Stays.{stay_join, stay_same, stay_set, stay_stored}

-- a hart at work in a block
pub record WorksHart (hart : Hart) (block : ℕ) (known : Known) (csrs : Registers) : Type 0 where
  pub count : length hart.x ≡ 32
  pub nought : register hart 0 ≡ 0
  pub one : register hart 1 ≡ rom_base + block
  pub has : (r : ℕ) → 1 < r → r < 8 → register hart r ≡ known r
  pub csrs_are : hart.csrs ≡ csrs

-- and its machine
pub record Works (b : Booting) (h block : ℕ) (known : Known) (csrs : Registers) : Type 0 where
  pub inside : h < length b.core.harts
  pub hart : WorksHart (hart_of b.core h) block known csrs

-- the items of some deeds are spelled where they are met, make this board, and keep the hart at work
pub record Did (b : Booting) (h block : ℕ) (items : List Spelling) (known : Known) (csrs : Registers) (board : BoardState) : Type 0 where
  pub harts : List Hart
  pub spelled : AllSpelled h block items b
  pub is : all_do h items b ≡ moved (word_count items) harts board b
  pub works : Works (moved (word_count items) harts board b) h block known csrs
  pub stay : Stay h b.core.harts harts

pub moved_again : (n m : ℕ) (first second : List Hart) (one two : BoardState) (b : Booting) → moved m second two (moved n first one b) ≡ moved (n + m) second two b
moved_again n m first second one two b = ap (λ k. record { core = record b.core { harts = second }; board = two; console = b.console; steps = k }) (add_assoc b.steps n m)

works_moved : (b : Booting) (h n block : ℕ) (known : Known) (csrs : Registers) (harts : List Hart) (hart : Hart) (board : BoardState) → h < length harts → WorksHart hart block known csrs → Works (moved n (slice_set harts h hart) board b) h block known csrs
works_moved b h n block known csrs harts hart board inside next = record {
  inside = omega (arith, length-set harts h hart);
  hart = subst (λ x. WorksHart x block known csrs) (sym (get_or-set_same harts h hart (reset_hart 0 0) inside)) next;
}

-- ---- one item

has_set : (xs : List ℕ) (r v : ℕ) (known : Known) → length xs ≡ 32 → r < 32 → ((q : ℕ) → 1 < q → q < 8 → slice_index xs q ≡ known q) → (q : ℕ) → 1 < q → q < 8 → slice_index (slice_set xs r v) q ≡ knows r v known q
has_set xs r v known count r_fits has q low high = ⊎_elim
    (λ e. ap (slice_index (slice_set xs r v)) e ∙ get_or-set_same xs r v 0 (omega arith) ∙ ap (λ b. cond b v (known q)) (sym (eq-eqb q r e)))
    (λ n. get_or-set_other xs r q v 0 n ∙ has q low high ∙ ap (λ b. cond b v (known q)) (sym (ne_eqb q r n)))
    (cases_eq q r)

-- the hart after a Put
pub put_works : (hart : Hart) (block r v next : ℕ) (known : Known) (csrs : Registers) → 1 < r → r < 32 → WorksHart hart block known csrs → WorksHart (with_write hart r v next) block (knows r v known) csrs
put_works hart block r v next known csrs some r_fits works = subst (λ x. WorksHart x block (knows r v known) csrs) (sym (put_is hart r v next (omega arith))) (record {
  count = length-set hart.x r v ∙ works.count;
  nought = get_or-set_other hart.x r 0 v 0 (omega arith) ∙ works.nought;
  one = get_or-set_other hart.x r 1 v 0 (omega arith) ∙ works.one;
  has = has_set hart.x r v known works.count r_fits works.has;
  csrs_are = works.csrs_are;
})

at_works : (hart : Hart) (block next : ℕ) (known : Known) (csrs : Registers) → WorksHart hart block known csrs → WorksHart (at_pc hart next) block known csrs
at_works hart block next known csrs works = record { count = works.count; nought = works.nought; one = works.one; has = works.has; csrs_are = works.csrs_are }

put_does : (b : Booting) (h block r v : ℕ) (insns : List Insn) (known : Known) (csrs : Registers) → Works b h block known csrs → 1 < r → r < 32 →
    Spelled (length b.core.harts) (memory_of b.core) (hart_of b.core h) block (Put r v) insns →
    Did b h block (record { item = Put r v; insns = insns } ∷ []) (knows r v known) csrs b.board
put_does b h block r v insns known csrs works some r_fits spelled =
    let n : ℕ = length insns in
    let next : Hart = with_write (hart_of b.core h) r v (pc_after (hart_of b.core h) (4 * n)) in
    let e : n ≡ n + 0 = omega arith in
    let harts : List Hart = slice_set b.core.harts h next in
    record {
      harts = harts;
      spelled = (spelled, tt);
      is = ap (λ k. moved k harts b.board b) e;
      works = works_moved b h (n + 0) block (knows r v known) csrs b.core.harts next b.board works.inside (put_works (hart_of b.core h) block r v _ known csrs some r_fits works.hart);
      stay = stay_set h b.core.harts next works.inside (ap (λ (x : Hart). x.reservation) (put_is (hart_of b.core h) r v (pc_after (hart_of b.core h) (4 * n)) (omega arith)));
    }

reaches : {n : ℕ} {known : Known} {w : Width} {by : ℕ} {off : ℤ} {at : ℕ} (hart : Hart) (block : ℕ) (csrs : Registers) → WorksHart hart block known csrs → IsReached n known w by off at → offset_by (register hart by) off ≡ at
reaches {by = by} {off = off} hart block csrs works reached = ap (λ a. offset_by a off) (works.has by reached.some reached.low) ∙ reached.place

store_does : (b : Booting) (h block src v by at : ℕ) (w : Width) (off : ℤ) (known : Known) (csrs : Registers) → Works b h block known csrs → src < 32 →
    register (hart_of b.core h) src ≡ v → IsReached (length b.core.harts) known w by off at → sent b.core.ram b.board at (size_of w) (low_bytes (size_of w) v) ≡ [] →
    Did b h block (record { item = Store (size_of w) src by off; insns = store_insn w by src off ∷ [] } ∷ []) known csrs (stored b.board at (size_of w) (low_bytes (size_of w) v))
store_does b h block src v by at w off known csrs works src_fits got reached quiet =
    let hart : Hart = hart_of b.core h in
    let s : ℕ = size_of w in
    let to : offset_by (register hart by) off ≡ at = reaches hart block csrs works.hart reached in
    let next : Hart = at_pc hart (pc_after hart 4) in
    let x : ℕ = low_bytes s v in
    let left : List Hart = map (without_reservation at s) b.core.harts in
    let harts : List Hart = slice_set left h next in
    record {
      harts = harts;
      spelled = (store w src by off src_fits (let k = reached.low in omega arith) reached.short (ap (λ a. is_listed (length b.core.harts) a s) to ∙ reached.listed), tt);
      is = ap (λ q. stores h 1 q s (register hart src) next b) to
          ∙ ap (λ y. stores h 1 at s y next b) got
          ∙ ap (λ c. record { core = record b.core { harts = harts }; board = stored b.board at s x; console = b.console ++ c; steps = b.steps + 1 }) quiet
          ∙ ap (λ c. record { core = record b.core { harts = harts }; board = stored b.board at s x; console = c; steps = b.steps + 1 }) (append-nil b.console);
      works = works_moved b h 1 block known csrs left next (stored b.board at s x) (omega (arith, works.inside, length-map b.core.harts (without_reservation at s))) (at_works hart block _ known csrs works.hart);
      stay = stay_stored h at s b.core.harts next works.inside refl;
    }

read_does : (b : Booting) (h block by at : ℕ) (w : Width) (off : ℤ) (known : Known) (csrs : Registers) → Works b h block known csrs → IsReached (length b.core.harts) known w by off at →
    Did b h block (record { item = Load (size_of w) 6 by off; insns = load_insn w 6 by off ∷ [] } ∷ []) (knows 6 (extended (size_of w) (board_device b.board at (size_of w))) known) csrs (after_load b.board at (size_of w))
read_does b h block by at w off known csrs works reached =
    let hart : Hart = hart_of b.core h in
    let s : ℕ = size_of w in
    let to : offset_by (register hart by) off ≡ at = reaches hart block csrs works.hart reached in
    let v : ℕ = extended s (board_device b.board at s) in
    let next : Hart = with_write hart 6 v (pc_after hart 4) in
    record {
      harts = slice_set b.core.harts h next;
      spelled = (load w 6 by off (omega arith) (omega arith) (let k = reached.low in omega arith) reached.short (ap (λ a. is_listed (length b.core.harts) a s) to ∙ reached.listed), tt);
      is = ap (λ q. loads h 1 q s 6 hart b) to;
      works = works_moved b h 1 block (knows 6 v known) csrs b.core.harts next (after_load b.board at s) works.inside (put_works hart block 6 v _ known csrs (omega arith) (omega arith) works.hart);
      stay = stay_set h b.core.harts next works.inside (ap (λ (x : Hart). x.reservation) (put_is hart 6 v (pc_after hart 4) (omega arith)));
    }

-- ---- one deed

pub do_append : (h : ℕ) (a c : List Spelling) (b : Booting) → all_do h (a ++ c) b ≡ all_do h c (all_do h a b)
do_append h [] c b = refl
do_append h (s ∷ a) c b = do_append h a c (does h (length s.insns) s.item b)

pub count_append : (a c : List Spelling) → word_count (a ++ c) ≡ word_count a + word_count c
count_append [] c = omega arith
count_append (s ∷ a) c = let k = count_append a c in omega arith

did_join : (b : Booting) (h block : ℕ) (items more : List Spelling) (known known' : Known) (csrs : Registers) (board board' : BoardState) (did : Did b h block items known csrs board) →
    Did (moved (word_count items) did.harts board b) h block more known' csrs board' → Did b h block (items ++ more) known' csrs board'
did_join b h block items more known known' csrs board board' did second =
    let b1 : Booting = moved (word_count items) did.harts board b in
    let e : moved (word_count more) second.harts board' b1 ≡ moved (word_count (items ++ more)) second.harts board' b =
    moved_again (word_count items) (word_count more) did.harts second.harts board board' b ∙ ap (λ k. moved k second.harts board' b) (sym (count_append items more)) in
    record {
      harts = second.harts;
      spelled = spelled_append h block items more b did.spelled (subst (λ x. AllSpelled h block more x) (sym did.is) second.spelled);
      is = do_append h items more b ∙ ap (all_do h more) did.is ∙ second.is ∙ e;
      works = subst (λ x. Works x h block known' csrs) e second.works;
      stay = stay_join h b.core.harts did.harts second.harts did.stay second.stay;
    }

reached_on : {n n' : ℕ} {known known' : Known} {w : Width} {by : ℕ} {off : ℤ} {at : ℕ} → n' ≡ n → known' by ≡ known by → IsReached n known w by off at → IsReached n' known' w by off at
reached_on {w = w} {off = off} {at = at} same from reached = record {
  some = reached.some;
  low = reached.low;
  other = reached.other;
  short = reached.short;
  place = ap (λ a. offset_by a off) from ∙ reached.place;
  listed = ap (λ n. is_listed n at (size_of w)) same ∙ reached.listed;
}

abbrev save_items : Bool → ℕ → Width → ℕ → ℕ → ℤ → List Spelling
save_items c k w v by off =
    cond c (record { item = Store (size_of w) 0 by off; insns = store_insn w by 0 off ∷ [] } ∷ [])
    (record { item = Put 6 v; insns = put_insns k 6 v } ∷ record { item = Store (size_of w) 6 by off; insns = store_insn w by 6 off ∷ [] } ∷ [])

save_does : (c : Bool) (b : Booting) (h block k v by at : ℕ) (w : Width) (off : ℤ) (known : Known) (csrs : Registers) → (v == 0) ≡ c → Works b h block known csrs →
    v < 2 ^ 64 → IsReached (length b.core.harts) known w by off at → sent b.core.ram b.board at (size_of w) (low_bytes (size_of w) v) ≡ [] →
    Pooled block k (cond c [] (put_values v)) b.core.rom →
    Did b h block (save_items c k w v by off) (cond c known (knows 6 v known)) csrs (stored b.board at (size_of w) (low_bytes (size_of w) v))
save_does true b h block k v by at w off known csrs zeros works fits reached quiet pooled =
    store_does b h block 0 v by at w off known csrs works (omega arith) (let z : v ≡ 0 = eqb-true v 0 zeros in works.hart.nought ∙ sym z) reached quiet
save_does false b h block k v by at w off known csrs zeros works fits reached quiet pooled =
    let insns : List Insn = put_insns k 6 v in
    let hart : Hart = hart_of b.core h in
    let first : Did b h block (record { item = Put 6 v; insns = insns } ∷ []) (knows 6 v known) csrs b.board =
    put_does b h block 6 v insns known csrs works (omega arith) (omega arith)
    (put_spelled _ _ _ block k 6 v (is_small v) (is_short v) refl refl (omega arith) (omega arith) fits works.hart.one pooled.aligned pooled.even pooled.room pooled.there) in
    let b1 : Booting = moved (word_count (record { item = Put 6 v; insns = insns } ∷ [])) first.harts b.board b in
    let from : knows 6 v known by ≡ known by = ap (λ x. cond x v (known by)) (ne_eqb by 6 reached.other) in
    did_join b h block (record { item = Put 6 v; insns = insns } ∷ []) (record { item = Store (size_of w) 6 by off; insns = store_insn w by 6 off ∷ [] } ∷ []) (knows 6 v known) (knows 6 v known) csrs b.board (stored b.board at (size_of w) (low_bytes (size_of w) v)) first
    (store_does b1 h block 6 v by at w off (knows 6 v known) csrs first.works (omega arith) (first.works.hart.has 6 (omega arith) (omega arith)) (reached_on first.stay.count from reached) quiet)

deed_does : (b : Booting) (h block k : ℕ) (d : Deed) (known : Known) (csrs : Registers) → Works b h block known csrs →
    IsSound (length b.core.harts) b.core.ram known b.board d → Pooled block k (deed_values d) b.core.rom →
    Did b h block (deed_items k d) (known_after b.board d known) csrs (board_after_deed d b.board)
deed_does b h block k (Aim r v) known csrs works sound pooled =
    put_does b h block r v (Insn.Lui r (pos v) ∷ []) known csrs works sound.0 (let e = sound.1 in omega arith)
    (upper r v (pos v) (let e = sound.0 in omega arith) (let e = sound.1 in omega arith) (let e = sound.2 in (omega (arith, ints), omega (arith, ints))) (let e = sound.3 in omega arith) (let e = sound.2 in omega arith))
deed_does b h block k (Save w v by off at) known csrs works sound pooled = save_does (v == 0) b h block k v by at w off known csrs refl works sound.0 sound.1 sound.2 pooled
deed_does b h block k (Again w v by off at) known csrs works sound pooled = store_does b h block 6 v by at w off known csrs works (omega arith) (works.hart.has 6 (omega arith) (omega arith) ∙ sound.0) sound.1 sound.2
deed_does b h block k (Read w by off at) known csrs works sound pooled = read_does b h block by at w off known csrs works sound

-- ---- all deeds

nothing_did : (b : Booting) (h block : ℕ) (known : Known) (csrs : Registers) → Works b h block known csrs → Did b h block [] known csrs b.board
nothing_did b h block known csrs works =
    let e : moved 0 b.core.harts b.board b ≡ b = ap (λ k. record b { steps = k }) (omega arith) in
    record { harts = b.core.harts; spelled = tt; is = sym e; works = subst (λ x. Works x h block known csrs) (sym e) works; stay = stay_same h b.core.harts }

-- deeds that lead to a board do so where they are executed
pub deeds_do : (ds : List Deed) (n : ℕ) (b : Booting) (h block k : ℕ) (known : Known) (csrs : Registers) (board : BoardState) → length b.core.harts ≡ n →
    Works b h block known csrs → Runs n b.core.ram known b.board ds board → Pooled block k (all_deed_values ds) b.core.rom →
    Did b h block (placed_deeds k ds) (known_all b.board ds known) csrs board
deeds_do [] n b h block k known csrs board count works runs pooled = subst (λ x. Did b h block [] known csrs x) runs (nothing_did b h block known csrs works)
deeds_do (d ∷ ds) n b h block k known csrs board count works runs pooled =
    let us : List ℕ = deed_values d in
    let vs : List ℕ = all_deed_values ds in
    let sum : length (us ++ vs) ≡ length us + length vs = length-append us vs in
    let room : k + 8 * length (us ++ vs) ≤ 2048 = pooled.room in
    let even : k % 8 ≡ 0 = pooled.even in
    let split : StandAt (pool us ++ pool vs) (block + k) b.core.rom = subst (λ bs. StandAt bs (block + k) b.core.rom) (pool_append us vs) pooled.there in
    let next : ℕ = k + 8 * length us in
    let place : block + k + length (pool us) ≡ block + next = omega (arith, pool_length us) in
    let first : Did b h block (deed_items k d) (known_after b.board d known) csrs (board_after_deed d b.board) =
    deed_does b h block k d known csrs works (subst (λ m. IsSound m b.core.ram known b.board d) (sym count) runs.0) (record { aligned = pooled.aligned; even = even; room = omega arith; there = stand_first (pool us) (pool vs) (block + k) b.core.rom split }) in
    let b1 : Booting = moved (word_count (deed_items k d)) first.harts (board_after_deed d b.board) b in
    did_join b h block (deed_items k d) (placed_deeds next ds) (known_after b.board d known) (known_all b.board (d ∷ ds) known) csrs (board_after_deed d b.board) board first
    (deeds_do ds n b1 h block next (known_after b.board d known) csrs board (first.stay.count ∙ count) first.works runs.1
    (record { aligned = pooled.aligned; even = omega arith; room = omega arith; there = subst (λ q. StandAt (pool vs) q b.core.rom) place (stand_second (pool us) (pool vs) (block + k) b.core.rom split) }))
