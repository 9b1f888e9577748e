-- Lists of deeds, one for each register of a kind, lead from a board to the one in which all are put back.
use Rattle.std.specs.Prelude.{All, ℤ, pos, slice_set, slice_index}
use Rattle.std.proofs.Common.{◌≡◌, ◌≢◌, ℕ, zero, suc, ◌+◌, ◌*◌, ◌%◌, ◌^◌, ◌<◌, ◌≤◌, Bool, true, false, cond, List, [], ◌∷◌, ◌++◌, length, refl, sym, ap, ◌∙◌, arith, subst, append_assoc, length-append, bit_and, ◌==◌}
use Rattle.std.proofs.lemmas.Int.{ints}
use Rattle.std.proofs.lemmas.List.{append-nil, length-set}
use Rattle.rv_alu.specs.Bits.{low_bytes}
use Rattle.rv_decode.specs.Ranges.{IsSigned}
use Rattle.clint.specs.State.{hart_count}
use Rattle.plic.specs.State.{IsWithinSources, context_count, source_bits}
use Rattle.board_bus.specs.Board.{BoardState, stored}
use Rattle.board_bus.specs.Listed.{is_listed}
use Rattle.hart_step.specs.Effects.{offset_by}
use Rattle.rom_gen.specs.Items.{Width, Byte, Word, Double, size_of}
use Rattle.rom_gen.specs.Deeds.{Deed, Aim, Save}
use Rattle.rom_gen.specs.DeviceBlock.{compare_deeds, context_deeds, queue_deeds, soft_deeds}
use Rattle.rom_gen.proofs.Runs.{IsReached, IsSound, Known, Runs, board_after_deed, known_after, knows}
use Rattle.rom_gen.proofs.Claims.{four_masks}
use Rattle.rom_gen.proofs.Console.{looped, unsent}
use Rattle.rom_gen.proofs.Contexts.{enable_listed, enable_stored, threshold_listed, threshold_stored}
use Rattle.rom_gen.proofs.HartWants.{put_x}
use Rattle.rom_gen.proofs.Registered.{compare_listed, compare_stored, data_listed, soft_listed, soft_stored, unsent_below}

-- what the base registers have
pub record Points (five seven : ℕ) (known : Known) : Type 0 where
  pub two : known 2 ≡ 0x10000000
  pub three : known 3 ≡ 0xc000000
  pub four : known 4 ≡ 0xc002000
  pub five_is : known 5 ≡ five
  pub seven_is : known 7 ≡ seven

-- a deed that goes through x6 keeps the base registers
pub points_six : (c : Bool) (five seven v : ℕ) (known : Known) → Points five seven known → Points five seven (cond c known (knows 6 v known))
points_six true five seven v known p = p
points_six false five seven v known p = record { two = p.two; three = p.three; four = p.four; five_is = p.five_is; seven_is = p.seven_is }

pub points_five : (five seven v : ℕ) (known : Known) → Points five seven known → Points v seven (knows 5 v known)
points_five five seven v known p = record { two = p.two; three = p.three; four = p.four; five_is = refl; seven_is = p.seven_is }

pub points_seven : (five seven v : ℕ) (known : Known) → Points five seven known → Points five v (knows 7 v known)
points_seven five seven v known p = record { two = p.two; three = p.three; four = p.four; five_is = p.five_is; seven_is = refl }

-- a deed whose board is known in other words
pub run_on : (n : ℕ) (ram : List ℕ) (known : Known) (b b1 b' : BoardState) (d : Deed) (ds : List Deed) → IsSound n ram known b d → board_after_deed d b ≡ b1 → Runs n ram (known_after b d known) b1 ds b' → Runs n ram known b (d ∷ ds) b'
run_on n ram known b b1 b' d ds sound is rest = (sound, subst (λ x. Runs n ram (known_after b d known) x ds b') (sym is) rest)

-- a register that is reached, where the base register's value is known
pub reached : (n : ℕ) (known : Known) (w : Width) (by : ℕ) (off : ℤ) (at from : ℕ) → known by ≡ from → 1 < by → by < 8 → by ≢ 6 → IsSigned 12 off →
    offset_by from off ≡ at → is_listed n at (size_of w) ≡ true → IsReached n known w by off at
reached n known w by off at from is some low other short place listed = record {
  some = some;
  low = low;
  other = other;
  short = short;
  place = ap (λ a. offset_by a off) is ∙ place;
  listed = listed;
}

pub up : (a : ℕ) → a < 2048 → IsSigned 12 (pos a)
up a small = (omega (arith, ints), omega (arith, ints))

-- ---- the queue

-- each byte enters the queue, in loop mode
pub queue_runs : (q : List ℕ) (rest : List Deed) (n : ℕ) (ram : List ℕ) (five seven : ℕ) (known : Known) (b b' : BoardState) → Points five seven known → b.console.ctrl ≡ 7 → length b.console.queue + length q ≤ 16 → All (λ x. x < 256) q →
    ((known' : Known) → Points five seven known' → Runs n ram known' (record b { console = record b.console { queue = b.console.queue ++ q } }) rest b') → Runs n ram known b (queue_deeds q rest) b'
unfolding queue_deeds
queue_runs [] rest n ram five seven known b b' points loop room bytes then_rest = subst (λ q. Runs n ram known (record b { console = record b.console { queue = q } }) rest b') (append-nil b.console.queue) (then_rest known points)
queue_runs (x ∷ q) rest n ram five seven known b b' points loop room bytes then_rest =
    let small : x < 256 = bytes 0 0 (omega arith) in
    let y : ℕ = low_bytes 1 x in
    let kept : low_bytes 1 y ≡ x = omega arith in
    let b1 : BoardState = record b { console = record b.console { queue = b.console.queue ++ x ∷ [] } } in
    let is : stored b 0x10000000 1 y ≡ b1 = looped b y loop (omega arith) ∙ ap (λ z. record b { console = record b.console { queue = b.console.queue ++ z ∷ [] } }) kept in
    let known1 : Known = cond (x == 0) known (knows 6 x known) in
    run_on n ram known b b1 b' (Save Byte x 2 (pos 0) 0x10000000) (queue_deeds q rest)
    (omega arith, reached n known Byte 2 (pos 0) 0x10000000 0x10000000 points.two (omega arith) (omega arith) (omega arith) (up 0 (omega arith)) refl (data_listed n), unsent ram b y loop)
    is
    (queue_runs q rest n ram five seven known1 b1 b' (points_six (x == 0) five seven x known points) loop (let k = length-append b.console.queue (x ∷ []) in omega arith) (λ i d within. bytes (suc i) d (omega arith))
    (λ known' p. subst (λ xs. Runs n ram known' (record b { console = record b.console { queue = xs } }) rest b') (sym (append_assoc b.console.queue (x ∷ []) q)) (then_rest known' p)))

-- ---- the contexts

pub within_small : (e : ℕ) → IsWithinSources e → e < 8
within_small e fits = four_masks (λ m. m < 8) e fits (omega arith) (omega arith) (omega arith) (omega arith)

pub enable_twice : (e : ℕ) → IsWithinSources e → bit_and (low_bytes 4 (low_bytes 4 e)) source_bits ≡ e
enable_twice e fits = four_masks (λ m. bit_and (low_bytes 4 (low_bytes 4 m)) source_bits ≡ m) e fits refl refl refl refl

-- each context gets its enable bits and its threshold
pub context_runs : (k c : ℕ) (enables thresholds : List ℕ) (rest : List Deed) (n : ℕ) (ram : List ℕ) (five seven : ℕ) (known : Known) (b b' : BoardState) →
    Points five seven known → c + k ≤ 2 * n → n ≤ 8 → context_count b.plic ≡ 2 * n → ((i : ℕ) → i < 2 * n → IsWithinSources (slice_index enables i)) →
    ((i : ℕ) → i < 2 * n → slice_index thresholds i ≤ 7) →
    ((five' : ℕ) (known' : Known) → Points five' seven known' → Runs n ram known' (record b { plic = record b.plic { enable = put_x k c enables b.plic.enable; threshold = put_x k c thresholds b.plic.threshold } }) rest b') → Runs n ram known b (context_deeds k c enables thresholds rest) b'
unfolding context_deeds put_x
context_runs zero c enables thresholds rest n ram five seven known b b' points within most count enables_fit thresholds_fit then_rest = then_rest five known points
context_runs (suc k) c enables thresholds rest n ram five seven known b b' points within most count enables_fit thresholds_fit then_rest =
    let e : ℕ = slice_index enables c in
    let threshold : ℕ = slice_index thresholds c in
    let e_fits : IsWithinSources e = enables_fit c (omega arith) in
    let e_small : e < 8 = within_small e e_fits in
    let t_small : threshold ≤ 7 = thresholds_fit c (omega arith) in
    let b1 : BoardState = record b { plic = record b.plic { enable = slice_set b.plic.enable c e } } in
    let b2 : BoardState = record b { plic = record b.plic { enable = slice_set b.plic.enable c e; threshold = slice_set b.plic.threshold c threshold } } in
    let count1 : context_count b1.plic ≡ 2 * n = length-set b.plic.enable c e ∙ count in
    let t_kept : low_bytes 4 (low_bytes 4 threshold) % 8 ≡ threshold = omega arith in
    let is1 : stored b (0xc002000 + 128 * c) 4 (low_bytes 4 e) ≡ b1 = enable_stored b c (low_bytes 4 e) (omega arith) (omega arith) ∙ ap (λ w. record b { plic = record b.plic { enable = slice_set b.plic.enable c w } }) (enable_twice e e_fits) in
    let is2 : stored b1 (0xc200000 + 4096 * c) 4 (low_bytes 4 threshold) ≡ b2 = threshold_stored b1 c (low_bytes 4 threshold) (omega arith) (omega arith) ∙ ap (λ w. record b1 { plic = record b1.plic { threshold = slice_set b.plic.threshold c w } }) t_kept in
    let known1 : Known = cond (e == 0) known (knows 6 e known) in
    let points1 : Points five seven known1 = points_six (e == 0) five seven e known points in
    let a : ℕ = 0xc200000 + 4096 * c in
    let known2 : Known = knows 5 a known1 in
    let points2 : Points a seven known2 = points_five five seven a known1 points1 in
    let known3 : Known = cond (threshold == 0) known2 (knows 6 threshold known2) in
    let points3 : Points a seven known3 = points_six (threshold == 0) a seven threshold known2 points2 in
    let more : List Deed = context_deeds k (suc c) enables thresholds rest in
    run_on n ram known b b1 b' (Save Word e 4 (pos (128 * c)) (0xc002000 + 128 * c)) (Aim 5 a ∷ Save Word threshold 5 (pos 0) a ∷ more)
    (omega arith, reached n known Word 4 (pos (128 * c)) (0xc002000 + 128 * c) 0xc002000 points.four (omega arith) (omega arith) (omega arith) (up (128 * c) (omega arith)) (omega arith) (enable_listed n c (omega arith) (omega arith)), unsent_below ram b (0xc002000 + 128 * c) 4 (low_bytes 4 e) (omega arith))
    is1 (
      ((omega arith), (omega arith), (omega arith), (omega arith)),
      run_on n ram known2 b1 b2 b' (Save Word threshold 5 (pos 0) a) more
          (omega arith, reached n known2 Word 5 (pos 0) a a points2.five_is (omega arith) (omega arith) (omega arith) (up 0 (omega arith)) (omega arith) (threshold_listed n c (omega arith) (omega arith)), unsent_below ram b1 a 4 (low_bytes 4 threshold) (omega arith))
          is2
          (context_runs k (suc c) enables thresholds rest n ram a seven known3 b2 b' points3 (omega arith) most count1 enables_fit thresholds_fit then_rest),
    )

-- ---- msip and mtimecmp

-- each hart its msip
pub soft_runs : (k h : ℕ) (xs : List ℕ) (rest : List Deed) (n : ℕ) (ram : List ℕ) (seven : ℕ) (known : Known) (b b' : BoardState) → Points 0x2000000 seven known → h + k ≤ n → n ≤ 8 → hart_count b.clint ≡ n → ((i : ℕ) → i < n → slice_index xs i ≤ 1) →
    ((known' : Known) → Points 0x2000000 seven known' → Runs n ram known' (record b { clint = record b.clint { msip = put_x k h xs b.clint.msip } }) rest b') → Runs n ram known b (soft_deeds k h xs rest) b'
unfolding soft_deeds put_x
soft_runs zero h xs rest n ram seven known b b' points within most count bits then_rest = then_rest known points
soft_runs (suc k) h xs rest n ram seven known b b' points within most count bits then_rest =
    let x : ℕ = slice_index xs h in
    let small : x ≤ 1 = bits h (omega arith) in
    let at : ℕ = 0x2000000 + 4 * h in
    let b1 : BoardState = record b { clint = record b.clint { msip = slice_set b.clint.msip h x } } in
    let kept : low_bytes 4 (low_bytes 4 x) % 2 ≡ x = omega arith in
    let is : stored b at 4 (low_bytes 4 x) ≡ b1 = soft_stored b h (low_bytes 4 x) (omega arith) (omega arith) ∙ ap (λ w. record b { clint = record b.clint { msip = slice_set b.clint.msip h w } }) kept in
    run_on n ram known b b1 b' (Save Word x 5 (pos (4 * h)) at) (soft_deeds k (suc h) xs rest)
    (omega arith, reached n known Word 5 (pos (4 * h)) at 0x2000000 points.five_is (omega arith) (omega arith) (omega arith) (up (4 * h) (omega arith)) (omega arith) (soft_listed n h (omega arith) most), unsent_below ram b at 4 (low_bytes 4 x) (omega arith))
    is
    (soft_runs k (suc h) xs rest n ram seven (cond (x == 0) known (knows 6 x known)) b1 b' (points_six (x == 0) 0x2000000 seven x known points) (omega arith) most (length-set b.clint.msip h x ∙ count) bits then_rest)

-- and its mtimecmp
pub compare_runs : (k h : ℕ) (xs : List ℕ) (rest : List Deed) (n : ℕ) (ram : List ℕ) (five : ℕ) (known : Known) (b b' : BoardState) → Points five 0x2004000 known → h + k ≤ n → n ≤ 8 → hart_count b.clint ≡ n → ((i : ℕ) → i < n → slice_index xs i < 2 ^ 64) →
    ((known' : Known) → Points five 0x2004000 known' → Runs n ram known' (record b { clint = record b.clint { mtimecmp = put_x k h xs b.clint.mtimecmp } }) rest b') → Runs n ram known b (compare_deeds k h xs rest) b'
unfolding compare_deeds put_x
compare_runs zero h xs rest n ram five known b b' points within most count fits then_rest = then_rest known points
compare_runs (suc k) h xs rest n ram five known b b' points within most count fits then_rest =
    let x : ℕ = slice_index xs h in
    let small : x < 2 ^ 64 = fits h (omega arith) in
    let at : ℕ = 0x2004000 + 8 * h in
    let b1 : BoardState = record b { clint = record b.clint { mtimecmp = slice_set b.clint.mtimecmp h x } } in
    let kept : low_bytes 8 (low_bytes 8 x) ≡ x = omega arith in
    let is : stored b at 8 (low_bytes 8 x) ≡ b1 = compare_stored b h (low_bytes 8 x) (omega arith) (omega arith) ∙ ap (λ w. record b { clint = record b.clint { mtimecmp = slice_set b.clint.mtimecmp h w } }) kept in
    run_on n ram known b b1 b' (Save Double x 7 (pos (8 * h)) at) (compare_deeds k (suc h) xs rest)
    (small, reached n known Double 7 (pos (8 * h)) at 0x2004000 points.seven_is (omega arith) (omega arith) (omega arith) (up (8 * h) (omega arith)) (omega arith) (compare_listed n h (omega arith) most), unsent_below ram b at 8 (low_bytes 8 x) (omega arith))
    is
    (compare_runs k (suc h) xs rest n ram five (cond (x == 0) known (knows 6 x known)) b1 b' (points_six (x == 0) five 0x2004000 x known points) (omega arith) most count fits then_rest)
