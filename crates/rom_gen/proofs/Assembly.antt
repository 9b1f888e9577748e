-- The parts of the ROM, one after another.
use Rattle.std.specs.Prelude.{slice_index}
use Rattle.std.proofs.Common.{◌≡◌, ℕ, zero, suc, ◌+◌, ◌*◌, ◌<◌, ◌≤◌, ⊎_elim, true, cond, List, [], ◌∷◌, ◌++◌, length, take, sym, ap, ◌∙◌, arith, subst, append_assoc, length-append, ◌==◌, eq-eqb, add_assoc, refl}
use Rattle.std.proofs.Math.ListN.{get_or}
use Rattle.std.proofs.Math.Seq.{take-length}
use Rattle.std.proofs.lemmas.Bool.{cases_eq, ne_eqb}
use Rattle.std.proofs.lemmas.List.{append-nil, take_more, get_or-set_same, get_or-set_other}
use Rattle.byteorder.specs.Endian.{little_bytes}
use Rattle.rv_decode.specs.Encode.{encoded, word_long, word_r}
use Rattle.board_bus.specs.Board.{BoardState}
use Rattle.hart_step.specs.declared.hart.Hart.{Hart}
use Rattle.hart_step.specs.Harts.{reset_hart, CoreState}
use Rattle.hart_step.specs.Memory.{most_rom, rom_base}
use Rattle.hart_turns.specs.Machine.{MachineState, is_running}
use Rattle.hart_turns.specs.Fit.{IsFit}
use Rattle.hart_turns.specs.Boot.{booted}
use Rattle.rom_gen.specs.Items.{code}
use Rattle.rom_gen.specs.Executed.{Restores}
use Rattle.rom_gen.specs.Rom.{all_blocks, device_bytes, device_place, dispatch_insns, first_place, hart_bytes, start_places, rom_bytes, block_places, table, hart_size, addresses, dispatch_bytes}
use Rattle.rom_gen.proofs.AllHarts.{total}
use Rattle.rom_gen.proofs.Parts.{places_length, address_at, addresses_length}
use Rattle.rom_gen.proofs.Restores.{restores, steps_of}
use Rattle.rom_gen.proofs.RomParts.{hart_length, hart_small, starts_length}

start_is : (harts : List Hart) (p i : ℕ) → i < length harts → slice_index (block_places p harts) i ≡ p + length (all_blocks (take i harts))
unfolding block_places all_blocks
start_is [] p i within = absurd (omega arith)
start_is (board ∷ harts) p zero within = omega arith
start_is (board ∷ harts) p (suc i) within = omega (arith, start_is harts (p + hart_size board) i (omega arith), length-append (hart_bytes board) (all_blocks (take i harts)), hart_length board)

blocks_more : (harts : List Hart) (board : Hart) → all_blocks (harts ++ board ∷ []) ≡ all_blocks harts ++ hart_bytes board
unfolding all_blocks
blocks_more [] board = append-nil (hart_bytes board)
blocks_more (x ∷ harts) board = ap (λ bs. hart_bytes x ++ bs) (blocks_more harts board) ∙ sym (append_assoc (hart_bytes x) (all_blocks harts) (hart_bytes board))

pub table_more : (starts : List ℕ) (v : ℕ) → table (starts ++ v ∷ []) ≡ table starts ++ little_bytes 8 v
unfolding table
table_more [] v = append-nil (little_bytes 8 v)
table_more (x ∷ starts) v = ap (λ bs. little_bytes 8 x ++ bs) (table_more starts v) ∙ sym (append_assoc (little_bytes 8 x) (table starts) (little_bytes 8 v))

-- one entry more
pub entry_added : (starts old new : List ℕ) (i : ℕ) → i < length starts → old ≡ code dispatch_insns ++ table (take i starts) → new ≡ old ++ little_bytes 8 (slice_index starts i) → new ≡ code dispatch_insns ++ table (take (i + 1) starts)
entry_added starts old new i within old_is new_is =
    new_is ∙ ap (λ x. x ++ little_bytes 8 (slice_index starts i)) old_is
    ∙ append_assoc (code dispatch_insns) (table (take i starts)) (little_bytes 8 (slice_index starts i))
    ∙ ap (λ x. code dispatch_insns ++ x) (sym (ap table (take_more starts i 0 within) ∙ table_more (take i starts) (slice_index starts i)))

-- and then all
pub all_entries : (starts out : List ℕ) (n : ℕ) → n ≤ length starts → length starts ≤ n → out ≡ code dispatch_insns ++ table (take n starts) → out ≡ code dispatch_insns ++ table starts
all_entries starts out n below above is =
    let end : n ≡ length starts = omega arith in
    is ∙ ap (λ xs. code dispatch_insns ++ table xs) (ap (λ k. take k starts) end ∙ take-length starts)

start_at : (board : BoardState) (harts : List Hart) (i v : ℕ) → i < length harts → v ≡ cond (i == 0) (rom_base + (24 + 8 * length harts)) (rom_base + first_place board harts + length (all_blocks (take i harts))) → v ≡ rom_base + slice_index (start_places board harts) i
start_at board harts i v within is = is ∙ ⊎_elim
    (λ e. ap (λ b. cond b (rom_base + (24 + 8 * length harts)) (rom_base + first_place board harts + length (all_blocks (take i harts)))) (eq-eqb i 0 e) ∙ omega arith ∙ ap (λ q. rom_base + q) (sym (ap (slice_index (start_places board harts)) e ∙ get_or-set_same (block_places (first_place board harts) harts) 0 (device_place harts) 0 (omega (arith, starts_length (first_place board harts) harts)))))
    (λ n. ap (λ b. cond b (rom_base + (24 + 8 * length harts)) (rom_base + first_place board harts + length (all_blocks (take i harts)))) (ne_eqb i 0 n) ∙ add_assoc rom_base (first_place board harts) (length (all_blocks (take i harts))) ∙ ap (λ q. rom_base + q) (sym (get_or-set_other (block_places (first_place board harts) harts) 0 i (device_place harts) 0 n ∙ start_is harts (first_place board harts) i within)))
    (cases_eq i 0)

-- one start more
pub start_added : (board : BoardState) (harts : List Hart) (i v n first before : ℕ) (old new : List ℕ) → i < length harts → n ≡ length harts →
    first ≡ rom_base + first_place board harts → before ≡ length (all_blocks (take i harts)) → v ≡ cond (i == 0) (rom_base + (24 + 8 * n)) (first + before) →
    old ≡ take i (addresses (start_places board harts)) → new ≡ old ++ v ∷ [] → new ≡ take (i + 1) (addresses (start_places board harts))
start_added board harts i v n first before old new within n_is first_is before_is is old_is new_is =
    let starts : List ℕ = addresses (start_places board harts) in
    let given : v ≡ cond (i == 0) (rom_base + (24 + 8 * length harts)) (rom_base + first_place board harts + length (all_blocks (take i harts))) = is ∙ ap (λ k. cond (i == 0) (rom_base + (24 + 8 * k)) (first + before)) n_is ∙ ap (λ k. cond (i == 0) (rom_base + (24 + 8 * length harts)) (k + before)) first_is ∙ ap (λ k. cond (i == 0) (rom_base + (24 + 8 * length harts)) (rom_base + first_place board harts + k)) before_is in
    let v_is : v ≡ slice_index starts i = start_at board harts i v within given ∙ sym (address_at (start_places board harts) i 0 (omega (arith, places_length board harts))) in
    new_is ∙ ap (λ x. x ++ v ∷ []) old_is ∙ ap (λ x. take i starts ++ x ∷ []) v_is ∙ sym (take_more starts i 0 (omega (arith, addresses_length board harts)))

-- one block more
pub blocks_go_on : (harts : List Hart) (i : ℕ) (board : Hart) (old block new : List ℕ) → i < length harts → board ≡ get_or harts i (reset_hart 0 0) →
    old ≡ all_blocks (take i harts) → block ≡ hart_bytes board → new ≡ old ++ block → new ≡ all_blocks (take (i + 1) harts)
blocks_go_on harts i board old block new within t_is old_is block_is new_is =
    new_is ∙ ap (λ x. x ++ block) old_is ∙ ap (λ x. all_blocks (take i harts) ++ x) (block_is ∙ ap hart_bytes t_is)
    ∙ sym (ap all_blocks (take_more harts i (reset_hart 0 0) within) ∙ blocks_more (take i harts) (get_or harts i (reset_hart 0 0)))

-- and so many bytes more at the most
pub blocks_grow : (i : ℕ) (board : Hart) (old block new : List ℕ) → block ≡ hart_bytes board → new ≡ old ++ block → length old ≤ 1112 * i → length new ≤ 1112 * (i + 1)
blocks_grow i board old block new block_is new_is room = omega (arith, ap length new_is, length-append old block, ap length block_is, hart_length board, hart_small board)

-- the six words, as numbers
pub dispatch_is : (a b c d e f g : List ℕ) → b ≡ a ++ little_bytes 4 0x00000097 → c ≡ b ++ little_bytes 4 0xf1402173 → d ≡ c ++ little_bytes 4 0x00311113 →
    e ≡ d ++ little_bytes 4 0x002080b3 → f ≡ e ++ little_bytes 4 0x0180b083 → g ≡ f ++ little_bytes 4 0x00008067 → g ≡ a ++ code dispatch_insns
unfolding encoded word_r word_long
dispatch_is a b c d e f g e1 e2 e3 e4 e5 e6 =
    e6 ∙ ap (λ x. x ++ little_bytes 4 0x00008067) (e5 ∙ ap (λ x. x ++ little_bytes 4 0x0180b083) (e4 ∙ ap (λ x. x ++ little_bytes 4 0x002080b3) (e3 ∙ ap (λ x. x ++ little_bytes 4 0x00311113) (e2 ∙ ap (λ x. x ++ little_bytes 4 0xf1402173) e1))))
    ∙ append_assoc ((((a ++ little_bytes 4 0x00000097) ++ little_bytes 4 0xf1402173) ++ little_bytes 4 0x00311113) ++ little_bytes 4 0x002080b3) (little_bytes 4 0x0180b083) (little_bytes 4 0x00008067)
    ∙ append_assoc (((a ++ little_bytes 4 0x00000097) ++ little_bytes 4 0xf1402173) ++ little_bytes 4 0x00311113) (little_bytes 4 0x002080b3) (little_bytes 4 0x0180b083 ++ little_bytes 4 0x00008067)
    ∙ append_assoc ((a ++ little_bytes 4 0x00000097) ++ little_bytes 4 0xf1402173) (little_bytes 4 0x00311113) (little_bytes 4 0x002080b3 ++ (little_bytes 4 0x0180b083 ++ little_bytes 4 0x00008067))
    ∙ append_assoc (a ++ little_bytes 4 0x00000097) (little_bytes 4 0xf1402173) (little_bytes 4 0x00311113 ++ (little_bytes 4 0x002080b3 ++ (little_bytes 4 0x0180b083 ++ little_bytes 4 0x00008067)))
    ∙ append_assoc a (little_bytes 4 0x00000097) (little_bytes 4 0xf1402173 ++ (little_bytes 4 0x00311113 ++ (little_bytes 4 0x002080b3 ++ (little_bytes 4 0x0180b083 ++ little_bytes 4 0x00008067))))

-- there are as many starts as harts
pub starts_count : (board : BoardState) (harts : List Hart) (starts : List ℕ) (n : ℕ) → n ≡ length harts → starts ≡ take n (addresses (start_places board harts)) → length starts ≡ length harts
starts_count board harts starts n n_is is =
    let all : List ℕ = addresses (start_places board harts) in
    ap length (is ∙ ap (λ k. take k all) (n_is ∙ sym (addresses_length board harts)) ∙ take-length all) ∙ addresses_length board harts

-- the parts make the ROM
pub rom_assembled : (board : BoardState) (harts : List Hart) (first : ℕ) (starts dispatch device blocks b c : List ℕ) → first ≡ rom_base + first_place board harts →
    starts ≡ take (length harts) (addresses (start_places board harts)) → dispatch ≡ dispatch_bytes starts → device ≡ device_bytes board first →
    blocks ≡ all_blocks (take (length harts) harts) → b ≡ dispatch ++ device → c ≡ b ++ blocks → c ≡ rom_bytes board harts
rom_assembled board harts first starts dispatch device blocks b c first_is starts_is dispatch_is device_is blocks_is b_is c_is =
    let all : List ℕ = addresses (start_places board harts) in
    let whole : take (length harts) all ≡ all = ap (λ n. take n all) (sym (addresses_length board harts)) ∙ take-length all in
    c_is ∙ ap (λ x. x ++ blocks) b_is
    ∙ append_assoc dispatch device blocks
    ∙ ap (λ x. x ++ (device ++ blocks)) (dispatch_is ∙ ap dispatch_bytes (starts_is ∙ whole))
    ∙ ap (λ x. dispatch_bytes all ++ (x ++ blocks)) (device_is ∙ ap (device_bytes board) first_is)
    ∙ ap (λ x. dispatch_bytes all ++ (device_bytes board (rom_base + first_place board harts) ++ x)) (blocks_is ∙ ap all_blocks (take-length harts))

-- the ROM of a running machine restores it
pub rom_restores : (m : MachineState) → IsFit m → is_running m ≡ true → (length (rom_bytes m.board m.core.harts) ≤ most_rom) × Restores m (rom_bytes m.board m.core.harts)
unfolding booted
rom_restores m fit running =
    let whole = restores m fit running in
    (whole.0, (total (steps_of m.board m.core.harts) m.shape.harts, record { shape = refl; taken = refl; boots = whole.1 }))

-- the bytes that were written, of its harts and devices, are that ROM
pub bytes_named : (m : MachineState) (b : BoardState) (c : CoreState) (bytes : List ℕ) → b ≡ m.board → c ≡ m.core → bytes ≡ rom_bytes b c.harts → bytes ≡ rom_bytes m.board m.core.harts
bytes_named m b c bytes b_is c_is bytes_is = bytes_is ∙ ap (λ (x : CoreState). rom_bytes b x.harts) c_is ∙ ap (λ x. rom_bytes x m.core.harts) b_is

-- and so they restore it
pub bytes_restore : (m : MachineState) (b : BoardState) (c : CoreState) (bytes : List ℕ) → IsFit m → is_running m ≡ true → b ≡ m.board → c ≡ m.core → bytes ≡ rom_bytes b c.harts → (length bytes ≤ most_rom) × Restores m bytes
bytes_restore m b c bytes fit running b_is c_is bytes_is =
    subst (λ x. (length x ≤ most_rom) × Restores m x) (sym (bytes_named m b c bytes b_is c_is bytes_is)) (rom_restores m fit running)
