-- The deeds of the device block lead from devices at reset to the given ones, and send nothing.
use Rattle.std.specs.Prelude.{pos, negsuc, slice_set, slice_index, replicate}
use Rattle.std.proofs.Common.{◌≡◌, ℕ, ◌*◌, ◌%◌, ◌^◌, ◌-◌, ◌<◌, ◌≤◌, false, cond, List, [], ◌∷◌, length, refl, sym, ap, ◌∙◌, arith, subst, ◌==◌}
use Rattle.std.proofs.lemmas.Int.{ints}
use Rattle.std.proofs.lemmas.List.{length-replicate, length-set, same_lists, get_or_default}
use Rattle.rv_alu.specs.Bits.{low_bytes}
use Rattle.clint.specs.State as clint
use Rattle.clint.specs.State.{ClintRegisters, hart_count}
use Rattle.plic.specs.State as plic
use Rattle.plic.specs.State.{IsWithinSources, PlicRegisters, context_count, source_bits}
use Rattle.console.specs.State.{ConsoleRegisters}
use Rattle.console.specs.Layout.{register_at as console_register}
use Rattle.console.specs.Access.{after_load as console_after}
use Rattle.board_bus.specs.Board.{BoardState, IsFit, after_load, reset_board, stored}
use Rattle.hart_turns.specs.Gives.{board_device}
use Rattle.rom_gen.specs.Items.{Byte, Word, Double}
use Rattle.rom_gen.specs.ItemEffects.{extended}
use Rattle.rom_gen.specs.Deeds.{Deed, Aim, Save, Again, Read}
use Rattle.rom_gen.specs.DeviceBlock.{compare_deeds, context_deeds, device_deeds, marks_deeds, queue_deeds, timer_deeds}
use Rattle.rom_gen.proofs.Runs.{IsReached, Known, Runs, knows}
use Rattle.rom_gen.proofs.Console.{looped, unsent}
use Rattle.rom_gen.proofs.Contexts.{enable_listed, enable_stored}
use Rattle.rom_gen.proofs.HartWants.{put_at, put_count, put_x}
use Rattle.rom_gen.proofs.Marks.{ctrl_stored, data_loaded, marks_set, priority_first, priority_second}
use Rattle.rom_gen.proofs.Registered.{claim_listed, ctrl_listed, ctrl_unsent, data_listed, first_listed, second_listed, time_listed, time_stored, txaddr_listed, txaddr_stored, txaddr_unsent, unsent_below}
use Rattle.rom_gen.proofs.DeviceLists.{Points, compare_runs, context_runs, enable_twice, points_five, points_seven, points_six, queue_runs, reached, run_on, soft_runs, up, within_small}

-- ---- the first part, up to the served marks

put_whole : (from xs : List ℕ) → length from ≡ length xs → put_x (length xs) 0 from xs ≡ from
put_whole from xs same =
    let count : length (put_x (length xs) 0 from xs) ≡ length xs = put_count (length xs) 0 from xs in
    same_lists _ from (count ∙ sym same) (λ j d k. get_or_default _ j d 0 k ∙ put_at (length xs) 0 j from xs (omega arith) (omega (arith, k, count)) (omega arith) ∙ get_or_default from j 0 d (omega (arith, k, count, same)))

abbrev reset_of : ClintRegisters → List ℕ → List ℕ → BoardState
reset_of c enables thresholds = record { clint = c; plic = record { priority = 0 ∷ 0 ∷ []; enable = enables; threshold = thresholds; served = 0 }; console = record { queue = []; ctrl = 0; txaddr = 0 } }

abbrev marked_of : ClintRegisters → List ℕ → List ℕ → ℕ → List ℕ → BoardState
marked_of c enables thresholds m q = record { clint = c; plic = record { priority = 1 ∷ 1 ∷ []; enable = slice_set enables 0 m; threshold = thresholds; served = m }; console = record { queue = q; ctrl = 7; txaddr = 0 } }

data_taken : (c : ClintRegisters) (enables thresholds : List ℕ) (m : ℕ) → after_load (marked_of c enables thresholds m (0 ∷ [])) 0x10000000 1 ≡ marked_of c enables thresholds m []
unfolding console_after console_register
data_taken c enables thresholds m = data_loaded (marked_of c enables thresholds m (0 ∷ []))

marks_runs : (c : ClintRegisters) (enables thresholds : List ℕ) (m : ℕ) (rest : List Deed) (n : ℕ) (ram : List ℕ) (known : Known) (b' : BoardState) → IsWithinSources m → 0 < n → n ≤ 8 → length enables ≡ 2 * n →
    ((five seven : ℕ) (known' : Known) → Points five seven known' → Runs n ram known' (marked_of c enables thresholds m []) rest b') → Runs n ram known (reset_of c enables thresholds) (marks_deeds m rest) b'
marks_runs c enables thresholds m rest n ram known b' fits some most count then_rest =
    let known1 : Known = knows 5 0xc200000 (knows 4 0xc002000 (knows 3 0xc000000 (knows 2 0x10000000 known))) in
    let seven : ℕ = known 7 in
    let points1 : Points 0xc200000 seven known1 = record { two = refl; three = refl; four = refl; five_is = refl; seven_is = refl } in
    let known2 : Known = knows 6 1 known1 in
    let points2 : Points 0xc200000 seven known2 = points_six false 0xc200000 seven 1 known1 points1 in
    let known3 : Known = cond (m == 0) known2 (knows 6 m known2) in
    let points3 : Points 0xc200000 seven known3 = points_six (m == 0) 0xc200000 seven m known2 points2 in
    let known4 : Known = knows 6 7 known3 in
    let points4 : Points 0xc200000 seven known4 = points_six false 0xc200000 seven 7 known3 points3 in
    let small : m < 8 = within_small m fits in
    let b0 : BoardState = reset_of c enables thresholds in
    let b1 : BoardState = record b0 { plic = record b0.plic { priority = 1 ∷ 0 ∷ [] } } in
    let b2 : BoardState = record b0 { plic = record b0.plic { priority = 1 ∷ 1 ∷ [] } } in
    let b3 : BoardState = record b0 { plic = record b0.plic { priority = 1 ∷ 1 ∷ []; enable = slice_set enables 0 m } } in
    let b4 : BoardState = record b3 { console = record { queue = []; ctrl = 7; txaddr = 0 } } in
    let b5 : BoardState = record b3 { console = record { queue = 0 ∷ []; ctrl = 7; txaddr = 0 } } in
    let b6 : BoardState = after_load b5 0xc200004 4 in
    let v1 : ℕ = extended 4 (board_device b5 0xc200004 4) in
    let v2 : ℕ = extended 4 (board_device b6 0xc200004 4) in
    let known5 : Known = knows 6 v1 known4 in
    let points5 : Points 0xc200000 seven known5 = points_six false 0xc200000 seven v1 known4 points4 in
    let known6 : Known = knows 6 v2 known5 in
    let points6 : Points 0xc200000 seven known6 = points_six false 0xc200000 seven v2 known5 points5 in
    let b7 : BoardState = marked_of c enables thresholds m (0 ∷ []) in
    let b8 : BoardState = marked_of c enables thresholds m [] in
    let v3 : ℕ = extended 1 (board_device b7 0x10000000 1) in
    let known7 : Known = knows 6 v3 known6 in
    let points7 : Points 0xc200000 seven known7 = points_six false 0xc200000 seven v3 known6 points6 in
    let claim : (k : Known) → Points 0xc200000 seven k → IsReached n k Word 5 (pos 4) 0xc200004 = λ k p. reached n k Word 5 (pos 4) 0xc200004 0xc200000 p.five_is (omega arith) (omega arith) (omega arith) (up 4 (omega arith)) refl (claim_listed n some) in
    let ds9 : List Deed = Read Byte 2 (pos 0) 0x10000000 ∷ rest in
    let ds8 : List Deed = Read Word 5 (pos 4) 0xc200004 ∷ ds9 in
    let ds7 : List Deed = Read Word 5 (pos 4) 0xc200004 ∷ ds8 in
    let ds6 : List Deed = Save Byte 0 2 (pos 0) 0x10000000 ∷ ds7 in
    let ds5 : List Deed = Save Word 7 2 (pos 8) 0x10000008 ∷ ds6 in
    let ds4 : List Deed = Save Word m 4 (pos 0) 0xc002000 ∷ ds5 in
    let ds3 : List Deed = Again Word 1 3 (pos 8) 0xc000008 ∷ ds4 in
    let set_m : stored b2 0xc002000 4 (low_bytes 4 m) ≡ b3 = enable_stored b2 0 (low_bytes 4 m) (omega arith) (omega arith) ∙ ap (λ w. record b0 { plic = record b0.plic { priority = 1 ∷ 1 ∷ []; enable = slice_set enables 0 w } }) (enable_twice m fits) in
    let read3 : Runs n ram known6 b7 ds9 b' =
    run_on n ram known6 b7 b8 b' (Read Byte 2 (pos 0) 0x10000000) rest
    (reached n known6 Byte 2 (pos 0) 0x10000000 0x10000000 points6.two (omega arith) (omega arith) (omega arith) (up 0 (omega arith)) refl (data_listed n))
    (data_taken c enables thresholds m) (then_rest 0xc200000 seven known7 points7) in
    let read2 : Runs n ram known5 b6 ds8 b' =
    run_on n ram known5 b6 b7 b' (Read Word 5 (pos 4) 0xc200004) ds9 (claim known5 points5) (marks_set c enables thresholds m (omega arith) (omega arith) fits) read3 in
    let read1 : Runs n ram known4 b5 ds7 b' = (claim known4 points4, read2) in
    let fill : Runs n ram known4 b4 ds6 b' =
    run_on n ram known4 b4 b5 b' (Save Byte 0 2 (pos 0) 0x10000000) ds7
    (omega arith, reached n known4 Byte 2 (pos 0) 0x10000000 0x10000000 points4.two (omega arith) (omega arith) (omega arith) (up 0 (omega arith)) refl (data_listed n), unsent ram b4 0 refl)
    (looped b4 0 refl (omega arith)) read1 in
    let loop : Runs n ram known3 b3 ds5 b' =
    run_on n ram known3 b3 b4 b' (Save Word 7 2 (pos 8) 0x10000008) ds6
    (omega arith, reached n known3 Word 2 (pos 8) 0x10000008 0x10000000 points3.two (omega arith) (omega arith) (omega arith) (up 8 (omega arith)) refl (ctrl_listed n), ctrl_unsent ram b3 7)
    (ctrl_stored b3 7) fill in
    let enable : Runs n ram known2 b2 ds4 b' =
    run_on n ram known2 b2 b3 b' (Save Word m 4 (pos 0) 0xc002000) ds5
    (omega arith, reached n known2 Word 4 (pos 0) 0xc002000 0xc002000 points2.four (omega arith) (omega arith) (omega arith) (up 0 (omega arith)) refl (enable_listed n 0 (omega arith) (omega arith)), unsent_below ram b2 0xc002000 4 (low_bytes 4 m) (omega arith))
    set_m loop in
    let second : Runs n ram known2 b1 ds3 b' =
    run_on n ram known2 b1 b2 b' (Again Word 1 3 (pos 8) 0xc000008) ds4
    (refl, reached n known2 Word 3 (pos 8) 0xc000008 0xc000000 points2.three (omega arith) (omega arith) (omega arith) (up 8 (omega arith)) refl (second_listed n), unsent_below ram b1 0xc000008 4 1 (omega arith))
    (priority_second b1 1) enable in
    let first : Runs n ram known1 b0 (Save Word 1 3 (pos 4) 0xc000004 ∷ ds3) b' =
    run_on n ram known1 b0 b1 b' (Save Word 1 3 (pos 4) 0xc000004) ds3
    (omega arith, reached n known1 Word 3 (pos 4) 0xc000004 0xc000000 points1.three (omega arith) (omega arith) (omega arith) (up 4 (omega arith)) refl (first_listed n), unsent_below ram b0 0xc000004 4 1 (omega arith))
    (priority_first b0 1) second in
    ((omega arith, omega arith, omega arith, refl), ((omega arith, omega arith, omega arith, refl), ((omega arith, omega arith, omega arith, refl), ((omega arith, omega arith, omega arith, refl), first))))

-- ---- the whole

two_list : (xs : List ℕ) → length xs ≡ 2 → slice_index xs 0 ∷ slice_index xs 1 ∷ [] ≡ xs
two_list [] e = absurd (omega arith)
two_list (x ∷ []) e = absurd (omega arith)
two_list (x ∷ y ∷ []) e = refl
two_list (x ∷ y ∷ z ∷ xs) e = absurd (omega arith)

timer_runs : (target : BoardState) (n : ℕ) (ram : List ℕ) (five seven : ℕ) (known : Known) (b : BoardState) → IsFit target → hart_count target.clint ≡ n →
    Points five seven known → length b.clint.msip ≡ n → length b.clint.mtimecmp ≡ n → Runs n ram known b (timer_deeds target) (record b { clint = target.clint })
timer_runs target n ram five seven known b fit count points soft_count compare_count =
    let most : n ≤ 8 = (let k = fit.clint.most in omega arith) in
    let xs : List ℕ = put_x (hart_count target.clint) 0 target.clint.msip b.clint.msip in
    let ys : List ℕ = put_x (hart_count target.clint) 0 target.clint.mtimecmp b.clint.mtimecmp in
    let xs_is : xs ≡ target.clint.msip = ap (λ k. put_x k 0 target.clint.msip b.clint.msip) (count ∙ sym soft_count) ∙ put_whole target.clint.msip b.clint.msip (count ∙ sym soft_count) in
    let ys_is : ys ≡ target.clint.mtimecmp = ap (λ k. put_x k 0 target.clint.mtimecmp b.clint.mtimecmp) (count ∙ sym compare_count) ∙ put_whole target.clint.mtimecmp b.clint.mtimecmp (fit.clint.same ∙ count ∙ sym compare_count) in
    let xs_count : length xs ≡ n = ap length xs_is ∙ count in
    let time : ℕ = target.clint.mtime in
    let time_small : time < 2 ^ 64 = fit.clint.time in
    let b1 : BoardState = record b { clint = record b.clint { msip = xs } } in
    let b2 : BoardState = record b { clint = record b.clint { msip = xs; mtimecmp = ys } } in
    let b' : BoardState = record b { clint = target.clint } in
    let kept : low_bytes 8 (low_bytes 8 time) ≡ time = omega arith in
    let is : stored b2 0x200bff8 8 (low_bytes 8 time) ≡ b' =
    time_stored b2 (low_bytes 8 time)
    ∙ ap (λ w. record b { clint = record { msip = xs; mtimecmp = ys; mtime = w } }) kept
    ∙ ap (λ w. record b { clint = record { msip = w; mtimecmp = ys; mtime = time } }) xs_is
    ∙ ap (λ w. record b { clint = record { msip = target.clint.msip; mtimecmp = w; mtime = time } }) ys_is in
    let last : (known : Known) → Points 0x2000000 0x2004000 known → Runs n ram known b2 (Aim 5 0x200c000 ∷ Save Double time 5 (negsuc 7) 0x200bff8 ∷ []) b' = λ known p. (
      (omega arith, omega arith, omega arith, refl),
      run_on n ram (knows 5 0x200c000 known) b2 b' b' (Save Double time 5 (negsuc 7) 0x200bff8) []
          (time_small, reached n (knows 5 0x200c000 known) Double 5 (negsuc 7) 0x200bff8 0x200c000 refl (omega arith) (omega arith) (omega arith) (omega (arith, ints), omega (arith, ints)) refl (time_listed n), unsent_below ram b2 0x200bff8 8 (low_bytes 8 time) (omega arith))
          is refl,
    ) in
    let compares : (known : Known) → Points 0x2000000 seven known → Runs n ram known b1 (Aim 7 0x2004000 ∷ compare_deeds (hart_count target.clint) 0 target.clint.mtimecmp (Aim 5 0x200c000 ∷ Save Double time 5 (negsuc 7) 0x200bff8 ∷ [])) b' = λ known p. (
      (omega arith, omega arith, omega arith, refl),
      compare_runs (hart_count target.clint) 0 target.clint.mtimecmp _ n ram 0x2000000 (knows 7 0x2004000 known) b1 b' (points_seven 0x2000000 seven 0x2004000 known p) (omega arith) most xs_count (λ i k. fit.clint.compares i 0 (let e = fit.clint.same in omega arith)) last,
    ) in (
      (omega arith, omega arith, omega arith, refl),
      soft_runs (hart_count target.clint) 0 target.clint.msip _ n ram seven (knows 5 0x2000000 known) b b' (points_five five seven 0x2000000 known points) (omega arith) most soft_count (λ i k. fit.clint.bits i 0 (omega arith)) compares,
    )

-- the rest of the block, behind the marks
kept_runs : (target : BoardState) (n : ℕ) (ram : List ℕ) (five seven : ℕ) (known : Known) (c : ClintRegisters) (enables thresholds : List ℕ) → IsFit target →
    hart_count target.clint ≡ n → Points five seven known → length c.msip ≡ n → length c.mtimecmp ≡ n → length enables ≡ 2 * n → length thresholds ≡ 2 * n →
    Runs n ram known (record { clint = c; plic = record { priority = 1 ∷ 1 ∷ []; enable = enables; threshold = thresholds; served = target.plic.served }; console = record { queue = []; ctrl = 7; txaddr = 0 } }) (queue_deeds target.console.queue (
    Save Word (slice_index target.plic.priority 0) 3 (pos 4) 0xc000004 ∷ Save Word (slice_index target.plic.priority 1) 3 (pos 8) 0xc000008
    ∷ context_deeds (context_count target.plic) 0 target.plic.enable target.plic.threshold (
    Save Word target.console.ctrl 2 (pos 8) 0x10000008 ∷ Save Double target.console.txaddr 2 (pos 16) 0x10000010
    ∷ timer_deeds target))) target
kept_runs target n ram five seven known c enables thresholds fit count points soft_count compare_count enables_count thresholds_count =
    let most : n ≤ 8 = (let k = fit.clint.most in omega arith) in
    let m : ℕ = target.plic.served in
    let q : List ℕ = target.console.queue in
    let p1 : ℕ = slice_index target.plic.priority 0 in
    let p2 : ℕ = slice_index target.plic.priority 1 in
    let p1_small : p1 ≤ 7 = fit.plic.priorities 0 0 (let k = fit.plic.sources in omega arith) in
    let p2_small : p2 ≤ 7 = fit.plic.priorities 1 0 (let k = fit.plic.sources in omega arith) in
    let ctrl : ℕ = target.console.ctrl in
    let ctrl_small : ctrl ≤ 7 = fit.console.ctrl in
    let tx : ℕ = target.console.txaddr in
    let tx_small : tx < 2 ^ 64 = fit.console.txaddr in
    let contexts : context_count target.plic ≡ 2 * n = fit.contexts ∙ ap (λ k. 2 * k) count in
    let enables' : List ℕ = put_x (context_count target.plic) 0 target.plic.enable enables in
    let thresholds' : List ℕ = put_x (context_count target.plic) 0 target.plic.threshold thresholds in
    let enables_is : enables' ≡ target.plic.enable = ap (λ k. put_x k 0 target.plic.enable enables) (contexts ∙ sym enables_count) ∙ put_whole target.plic.enable enables (contexts ∙ sym enables_count) in
    let thresholds_is : thresholds' ≡ target.plic.threshold = ap (λ k. put_x k 0 target.plic.threshold thresholds) (contexts ∙ sym thresholds_count) ∙ put_whole target.plic.threshold thresholds (fit.plic.same ∙ contexts ∙ sym thresholds_count) in
    let loop : ConsoleRegisters = record { queue = q; ctrl = 7; txaddr = 0 } in
    let b1 : BoardState = record { clint = c; plic = record { priority = 1 ∷ 1 ∷ []; enable = enables; threshold = thresholds; served = m }; console = loop } in
    let b2 : BoardState = record { clint = c; plic = record { priority = p1 ∷ 1 ∷ []; enable = enables; threshold = thresholds; served = m }; console = loop } in
    let b3 : BoardState = record { clint = c; plic = record { priority = p1 ∷ p2 ∷ []; enable = enables; threshold = thresholds; served = m }; console = loop } in
    let b4 : BoardState = record { clint = c; plic = record { priority = p1 ∷ p2 ∷ []; enable = enables'; threshold = thresholds'; served = m }; console = loop } in
    let b5 : BoardState = record { clint = c; plic = b4.plic; console = record { queue = q; ctrl = ctrl; txaddr = 0 } } in
    let b6 : BoardState = record { clint = c; plic = b4.plic; console = record { queue = q; ctrl = ctrl; txaddr = tx } } in
    let p1_kept : low_bytes 4 (low_bytes 4 p1) % 8 ≡ p1 = omega arith in
    let p2_kept : low_bytes 4 (low_bytes 4 p2) % 8 ≡ p2 = omega arith in
    let ctrl_kept : low_bytes 4 (low_bytes 4 ctrl) % 8 ≡ ctrl = omega arith in
    let tx_kept : low_bytes 8 (low_bytes 8 tx) ≡ tx = omega arith in
    let is2 : stored b1 0xc000004 4 (low_bytes 4 p1) ≡ b2 = priority_first b1 (low_bytes 4 p1) ∙ ap (λ w. record b1 { plic = record b1.plic { priority = w ∷ 1 ∷ [] } }) p1_kept in
    let is3 : stored b2 0xc000008 4 (low_bytes 4 p2) ≡ b3 = priority_second b2 (low_bytes 4 p2) ∙ ap (λ w. record b1 { plic = record b1.plic { priority = p1 ∷ w ∷ [] } }) p2_kept in
    let is5 : stored b4 0x10000008 4 (low_bytes 4 ctrl) ≡ b5 = ctrl_stored b4 (low_bytes 4 ctrl) ∙ ap (λ w. record b4 { console = record { queue = q; ctrl = w; txaddr = 0 } }) ctrl_kept in
    let is6 : stored b5 0x10000010 8 (low_bytes 8 tx) ≡ b6 = txaddr_stored b5 (low_bytes 8 tx) ∙ ap (λ w. record b5 { console = record { queue = q; ctrl = ctrl; txaddr = w } }) tx_kept in
    let end : record b6 { clint = target.clint } ≡ target =
    ap (λ w. record target { plic = record { priority = w; enable = enables'; threshold = thresholds'; served = m } }) (two_list target.plic.priority fit.plic.sources)
    ∙ ap (λ w. record target { plic = record target.plic { enable = w; threshold = thresholds' } }) enables_is
    ∙ ap (λ w. record target { plic = record target.plic { threshold = w } }) thresholds_is in
    let ds6 : List Deed = timer_deeds target in
    let ds5 : List Deed = Save Double tx 2 (pos 16) 0x10000010 ∷ ds6 in
    let ds4 : List Deed = Save Word ctrl 2 (pos 8) 0x10000008 ∷ ds5 in
    let ds3 : List Deed = context_deeds (context_count target.plic) 0 target.plic.enable target.plic.threshold ds4 in
    let ds2 : List Deed = Save Word p2 3 (pos 8) 0xc000008 ∷ ds3 in
    let sends : (five : ℕ) (known : Known) → Points five seven known → Runs n ram known b4 ds4 target = λ five known p.
    let known1 : Known = cond (ctrl == 0) known (knows 6 ctrl known) in
    let points1 : Points five seven known1 = points_six (ctrl == 0) five seven ctrl known p in
    let known2 : Known = cond (tx == 0) known1 (knows 6 tx known1) in
    let points2 : Points five seven known2 = points_six (tx == 0) five seven tx known1 points1 in
    run_on n ram known b4 b5 target (Save Word ctrl 2 (pos 8) 0x10000008) ds5
    (omega arith, reached n known Word 2 (pos 8) 0x10000008 0x10000000 p.two (omega arith) (omega arith) (omega arith) (up 8 (omega arith)) refl (ctrl_listed n), ctrl_unsent ram b4 (low_bytes 4 ctrl))
    is5
    (run_on n ram known1 b5 b6 target (Save Double tx 2 (pos 16) 0x10000010) ds6
    (tx_small, reached n known1 Double 2 (pos 16) 0x10000010 0x10000000 points1.two (omega arith) (omega arith) (omega arith) (up 16 (omega arith)) refl (txaddr_listed n), txaddr_unsent ram b5 (low_bytes 8 tx))
    is6
    (subst (λ x. Runs n ram known2 b6 ds6 x) end (timer_runs target n ram five seven known2 b6 fit count points2 soft_count compare_count))) in
    let priorities : (known : Known) → Points five seven known → Runs n ram known b1 (Save Word p1 3 (pos 4) 0xc000004 ∷ ds2) target = λ known p.
    let known1 : Known = cond (p1 == 0) known (knows 6 p1 known) in
    let points1 : Points five seven known1 = points_six (p1 == 0) five seven p1 known p in
    let known2 : Known = cond (p2 == 0) known1 (knows 6 p2 known1) in
    let points2 : Points five seven known2 = points_six (p2 == 0) five seven p2 known1 points1 in
    run_on n ram known b1 b2 target (Save Word p1 3 (pos 4) 0xc000004) ds2
    (omega arith, reached n known Word 3 (pos 4) 0xc000004 0xc000000 p.three (omega arith) (omega arith) (omega arith) (up 4 (omega arith)) refl (first_listed n), unsent_below ram b1 0xc000004 4 (low_bytes 4 p1) (omega arith))
    is2
    (run_on n ram known1 b2 b3 target (Save Word p2 3 (pos 8) 0xc000008) ds3
    (omega arith, reached n known1 Word 3 (pos 8) 0xc000008 0xc000000 points1.three (omega arith) (omega arith) (omega arith) (up 8 (omega arith)) refl (second_listed n), unsent_below ram b2 0xc000008 4 (low_bytes 4 p2) (omega arith))
    is3
    (context_runs (context_count target.plic) 0 target.plic.enable target.plic.threshold ds4 n ram five seven known2 b3 target points2 (omega arith) most enables_count
    (λ i k. fit.plic.enables i 0 (omega arith)) (λ i k. fit.plic.thresholds i 0 (let e = fit.plic.same in omega arith)) sends)) in
    queue_runs q (Save Word p1 3 (pos 4) 0xc000004 ∷ ds2) n ram five seven known (record b1 { console = record { queue = []; ctrl = 7; txaddr = 0 } }) target points refl (let k = fit.console.room in omega arith) fit.console.bytes priorities

-- devices_restored: from devices at reset to the given ones, and nothing is sent
pub devices_run : (target : BoardState) (ram : List ℕ) (known : Known) → IsFit target → Runs (hart_count target.clint) ram known (reset_board (hart_count target.clint)) (device_deeds target) target
unfolding reset_board plic.reset_registers clint.reset_registers
devices_run target ram known fit =
    let n : ℕ = hart_count target.clint in
    let c : ClintRegisters = record { msip = replicate n 0; mtimecmp = replicate n (2 ^ 64 - 1); mtime = 0 } in
    let zeros : List ℕ = replicate (2 * n) 0 in
    let count : length zeros ≡ 2 * n = length-replicate (2 * n) 0 in
    marks_runs c zeros zeros target.plic.served _ n ram known target fit.plic.served fit.clint.some fit.clint.most count
    (λ five seven known' points. kept_runs target n ram five seven known' c (slice_set zeros 0 target.plic.served) zeros fit refl points (length-replicate n 0) (length-replicate n (2 ^ 64 - 1)) (length-set zeros 0 target.plic.served ∙ count) count)
