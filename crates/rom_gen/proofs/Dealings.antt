-- One deed after another is written.
use Rattle.std.specs.Prelude.{ℤ, pos, negsuc, slice_index, Some}
use Rattle.std.proofs.Common.{◌≡◌, ◌≢◌, ℕ, zero, suc, ◌+◌, ◌*◌, ◌/◌, ◌<◌, ◌≤◌, Bool, true, false, cond, List, [], ◌∷◌, ◌++◌, length, take, refl, sym, ap, ◌∙◌, arith, subst, append_assoc, length-append, ◌==◌}
use Rattle.std.proofs.lemmas.Bool.{ne_eqb}
use Rattle.std.proofs.lemmas.List.{append-nil, take_more}
use Rattle.byteorder.specs.Endian.{little_bytes}
use Rattle.rv_decode.specs.declared.Insn.{Insn}
use Rattle.rv_decode.specs.Encode.{encoded}
use Rattle.clint.specs.State.{ClintRegisters, hart_count}
use Rattle.clint.specs.Access.{loaded}
use Rattle.clint.specs.Layout.{register_at}
use Rattle.plic.specs.State.{context_count as contexts_of}
use Rattle.board_bus.specs.Board.{BoardState, IsFit}
use Rattle.rom_gen.specs.Items.{Put, Spelling, Store, Width, Byte, Word, Double, all_insns, code, size_of, store_insn}
use Rattle.rom_gen.specs.Wants.{put_insns, put_values, high_part, low_part}
use Rattle.rom_gen.specs.Deeds.{Deed, Aim, Save, Again, Read, all_deed_values, deed_items, deed_values, placed_deeds}
use Rattle.rom_gen.specs.DeviceBlock.{compare_deeds, context_deeds, device_deeds, marks_deeds, queue_deeds, soft_deeds, timer_deeds}
use Rattle.rom_gen.specs.Writing.{Adds, Dealt, offset_of}
use Rattle.rom_gen.specs.declared.writer.Writer.{Writer}
use Rattle.rom_gen.specs.Rom.{device_bytes, device_items, device_values, far_insns, padding, pool_place}
use Rattle.rom_gen.proofs.RomParts.{device_fixed, device_words}
use Rattle.rom_gen.proofs.Writings.{block_written, drafted, adds_join, insns_append, offset_on}
use Rattle.rom_gen.proofs.Contexts.{row_is}

-- one more word
pub one_adds : (a b : Writer) (insn : Insn) (n : ℕ) → n ≡ encoded insn → b.code.items ≡ a.code.items ++ little_bytes 4 n → b.pool.items ≡ a.pool.items → b.place ≡ a.place → Adds a b (insn ∷ []) []
one_adds a b insn n is code_is pool_is place_is = record {
  code = code_is ∙ ap (λ w. a.code.items ++ little_bytes 4 w) is ∙ ap (λ x. a.code.items ++ x) (sym (append-nil (little_bytes 4 (encoded insn))));
  pool = pool_is ∙ sym (append-nil a.pool.items);
  place = place_is;
}

save_as : (z : Bool) (a d : Writer) (w : Width) (v by : ℕ) (off : ℤ) → z ≡ false →
    Adds a d (put_insns (offset_of a) 6 v ++ store_insn w by 6 off ∷ []) (put_values v ++ []) →
    Adds a d (all_insns (cond z (record { item = Store (size_of w) 0 by off; insns = store_insn w by 0 off ∷ [] } ∷ []) (record { item = Put 6 v; insns = put_insns (offset_of a) 6 v } ∷ record { item = Store (size_of w) 6 by off; insns = store_insn w by 6 off ∷ [] } ∷ []))) (cond z [] (put_values v))
save_as true a d w v by off is adds = absurd (cc)
save_as false a d w v by off is adds = subst (λ x. Adds a d (put_insns (offset_of a) 6 v ++ store_insn w by 6 off ∷ []) x) (append-nil (put_values v)) adds

-- a value that is saved through x6
pub save_adds : (a b d : Writer) (w : Width) (v by n : ℕ) (off : ℤ) → v ≢ 0 → Adds a b (put_insns (offset_of a) 6 v) (put_values v) →
    n ≡ encoded (store_insn w by 6 off) → d.code.items ≡ b.code.items ++ little_bytes 4 n → d.pool.items ≡ b.pool.items → d.place ≡ b.place →
    Adds a d (all_insns (deed_items (offset_of a) (Save w v by off 0))) (deed_values (Save w v by off 0))
save_adds a b d w v by n off some put is code_is pool_is place_is =
    save_as (v == 0) a d w v by off (ne_eqb v 0 some) (adds_join a b d (put_insns (offset_of a) 6 v) (store_insn w by 6 off ∷ []) (put_values v) [] put (one_adds b d (store_insn w by 6 off) n is code_is pool_is place_is))

-- ---- lists of deeds

placed_deeds_append : (k : ℕ) (a c : List Deed) → placed_deeds k (a ++ c) ≡ placed_deeds k a ++ placed_deeds (k + 8 * length (all_deed_values a)) c
placed_deeds_append k [] c = ap (λ q. placed_deeds q c) (let e : k ≡ k + 0 = omega arith in e)
placed_deeds_append k (d ∷ a) c =
    let next : ℕ = k + 8 * length (deed_values d) in
    let e : next + 8 * length (all_deed_values a) ≡ k + 8 * length (deed_values d ++ all_deed_values a) = omega (arith, length-append (deed_values d) (all_deed_values a)) in
    ap (λ x. deed_items k d ++ x) (placed_deeds_append next a c ∙ ap (λ q. placed_deeds next a ++ placed_deeds q c) e)
    ∙ sym (append_assoc (deed_items k d) (placed_deeds next a) (placed_deeds (k + 8 * length (deed_values d ++ all_deed_values a)) c))

deed_values_append : (a c : List Deed) → all_deed_values (a ++ c) ≡ all_deed_values a ++ all_deed_values c
deed_values_append [] c = refl
deed_values_append (d ∷ a) c = ap (λ x. deed_values d ++ x) (deed_values_append a c) ∙ sym (append_assoc (deed_values d) (all_deed_values a) (all_deed_values c))

-- nothing was dealt
pub dealt_none : (a : Writer) → Dealt a a []
dealt_none a = record { code = sym (append-nil a.code.items); pool = sym (append-nil a.pool.items); place = refl }

-- deeds and then more
pub dealt_join : (a b c : Writer) (ds enables : List Deed) → Dealt a b ds → Dealt b c enables → Dealt a c (ds ++ enables)
dealt_join a b c ds enables one two =
    let next : ℕ = offset_of a + 8 * length (all_deed_values ds) in
    let items : List Spelling = placed_deeds (offset_of a) ds in
    let second : Adds b c (all_insns (placed_deeds next enables)) (all_deed_values enables) = subst (λ k. Adds b c (all_insns (placed_deeds k enables)) (all_deed_values enables)) (offset_on a b (all_insns items) (all_deed_values ds) one) two in
    subst (λ x. Adds a c (all_insns x) (all_deed_values (ds ++ enables))) (sym (placed_deeds_append (offset_of a) ds enables))
    (subst (λ x. Adds a c x (all_deed_values (ds ++ enables))) (sym (insns_append items (placed_deeds next enables)))
    (subst (λ x. Adds a c (all_insns items ++ all_insns (placed_deeds next enables)) x) (sym (deed_values_append ds enables))
    (adds_join a b c (all_insns items) (all_insns (placed_deeds next enables)) (all_deed_values ds) (all_deed_values enables) one second)))

-- a value that was saved, wherever the register stands
pub dealt_one : (a b : Writer) (w : Width) (v by at : ℕ) (off : ℤ) → Adds a b (all_insns (deed_items (offset_of a) (Save w v by off 0))) (deed_values (Save w v by off 0)) → Dealt a b (Save w v by off at ∷ [])
dealt_one a b w v by at off adds =
    subst (λ x. Adds a b (all_insns x) (deed_values (Save w v by off at) ++ [])) (sym (append-nil (deed_items (offset_of a) (Save w v by off at))))
    (subst (λ x. Adds a b (all_insns (deed_items (offset_of a) (Save w v by off at))) x) (sym (append-nil (deed_values (Save w v by off at)))) adds)

-- ---- the lists of the loops, apart from what comes behind them, and with one element more

pub contexts_apart : (k c : ℕ) (enables thresholds : List ℕ) (rest : List Deed) → context_deeds k c enables thresholds rest ≡ context_deeds k c enables thresholds [] ++ rest
unfolding context_deeds
contexts_apart zero c enables thresholds rest = refl
contexts_apart (suc k) c enables thresholds rest = ap (λ ds. Save Word (slice_index enables c) 4 (pos (128 * c)) (0xc002000 + 128 * c) ∷ Aim 5 (0xc200000 + 4096 * c) ∷ Save Word (slice_index thresholds c) 5 (pos 0) (0xc200000 + 4096 * c) ∷ ds) (contexts_apart k (suc c) enables thresholds rest)

abbrev pub context_deed : ℕ → List ℕ → List ℕ → List Deed
context_deed c enables thresholds = Save Word (slice_index enables c) 4 (pos (128 * c)) (0xc002000 + 128 * c) ∷ Aim 5 (0xc200000 + 4096 * c) ∷ Save Word (slice_index thresholds c) 5 (pos 0) (0xc200000 + 4096 * c) ∷ []

pub contexts_more : (k c : ℕ) (enables thresholds : List ℕ) → context_deeds (suc k) c enables thresholds [] ≡ context_deeds k c enables thresholds [] ++ context_deed (c + k) enables thresholds
unfolding context_deeds
contexts_more zero c enables thresholds = ap (λ q. context_deed q enables thresholds) (let e : c ≡ c + 0 = omega arith in e)
contexts_more (suc k) c enables thresholds =
    let e : suc c + k ≡ c + suc k = omega arith in
    ap (λ ds. Save Word (slice_index enables c) 4 (pos (128 * c)) (0xc002000 + 128 * c) ∷ Aim 5 (0xc200000 + 4096 * c) ∷ Save Word (slice_index thresholds c) 5 (pos 0) (0xc200000 + 4096 * c) ∷ ds) (contexts_more k (suc c) enables thresholds ∙ ap (λ q. context_deeds k (suc c) enables thresholds [] ++ context_deed q enables thresholds) e)

pub context_dealt : (start now one two next : Writer) (enables thresholds : List ℕ) (c q enable threshold : ℕ) → q ≡ c → enable ≡ slice_index enables c → threshold ≡ slice_index thresholds c → Dealt start now (context_deeds c 0 enables thresholds []) →
    Adds now one (all_insns (deed_items (offset_of now) (Save Word enable 4 (pos (128 * q)) 0))) (deed_values (Save Word enable 4 (pos (128 * q)) 0)) → Dealt one two (Aim 5 (0xc200000 + 4096 * q) ∷ []) → Adds two next (all_insns (deed_items (offset_of two) (Save Word threshold 5 (pos 0) 0))) (deed_values (Save Word threshold 5 (pos 0) 0)) →
    Dealt start next (context_deeds (c + 1) 0 enables thresholds [])
context_dealt start now one two next enables thresholds c q enable threshold q_is enable_is threshold_is dealt first aim second =
    let d1 : Deed = Save Word (slice_index enables c) 4 (pos (128 * c)) (0xc002000 + 128 * c) in
    let d2 : Deed = Aim 5 (0xc200000 + 4096 * c) in
    let d3 : Deed = Save Word (slice_index thresholds c) 5 (pos 0) (0xc200000 + 4096 * c) in
    let on : suc c ≡ c + 1 = omega arith in
    let at : 0 + c ≡ c = omega arith in
    let one_is : Dealt now one (d1 ∷ []) = subst (λ z. Dealt now one (Save Word z 4 (pos (128 * c)) (0xc002000 + 128 * c) ∷ [])) enable_is (subst (λ z. Dealt now one (Save Word enable 4 (pos (128 * z)) (0xc002000 + 128 * c) ∷ [])) q_is (dealt_one now one Word enable 4 (0xc002000 + 128 * c) (pos (128 * q)) first)) in
    let two_is : Dealt one two (d2 ∷ []) = subst (λ z. Dealt one two (Aim 5 (0xc200000 + 4096 * z) ∷ [])) q_is aim in
    let three_is : Dealt two next (d3 ∷ []) = subst (λ z. Dealt two next (Save Word z 5 (pos 0) (0xc200000 + 4096 * c) ∷ [])) threshold_is (dealt_one two next Word threshold 5 (0xc200000 + 4096 * c) (pos 0) second) in
    subst (λ ds. Dealt start next ds) (sym (contexts_more c 0 enables thresholds ∙ ap (λ z. context_deeds c 0 enables thresholds [] ++ context_deed z enables thresholds) at) ∙ ap (λ k. context_deeds k 0 enables thresholds []) on)
    (dealt_join start now next (context_deeds c 0 enables thresholds []) (d1 ∷ d2 ∷ d3 ∷ []) dealt (dealt_join now one next (d1 ∷ []) (d2 ∷ d3 ∷ []) one_is (dealt_join one two next (d2 ∷ []) (d3 ∷ []) two_is three_is)))

pub aim_room : (a b : Writer) (r v : ℕ) → Dealt a b (Aim r v ∷ []) → offset_of b ≡ offset_of a
aim_room a b r v dealt = offset_on a b (all_insns (placed_deeds (offset_of a) (Aim r v ∷ []))) [] dealt ∙ omega arith

pub queue_more : (q : List ℕ) (x : ℕ) → queue_deeds (q ++ x ∷ []) [] ≡ queue_deeds q [] ++ Save Byte x 2 (pos 0) 0x10000000 ∷ []
unfolding queue_deeds
queue_more [] x = refl
queue_more (y ∷ q) x = ap (λ ds. Save Byte y 2 (pos 0) 0x10000000 ∷ ds) (queue_more q x)

pub queue_apart : (q : List ℕ) (rest : List Deed) → queue_deeds q rest ≡ queue_deeds q [] ++ rest
unfolding queue_deeds
queue_apart [] rest = refl
queue_apart (y ∷ q) rest = ap (λ ds. Save Byte y 2 (pos 0) 0x10000000 ∷ ds) (queue_apart q rest)

pub byte_dealt : (start now next : Writer) (q : List ℕ) (i x : ℕ) → i < length q → x ≡ slice_index q i → Dealt start now (queue_deeds (take i q) []) →
    Adds now next (all_insns (deed_items (offset_of now) (Save Byte x 2 (pos 0) 0))) (deed_values (Save Byte x 2 (pos 0) 0)) →
    Dealt start next (queue_deeds (take (i + 1) q) [])
byte_dealt start now next q i x within is dealt adds =
    let d : Deed = Save Byte (slice_index q i) 2 (pos 0) 0x10000000 in
    let one : Dealt now next (d ∷ []) = subst (λ z. Dealt now next (Save Byte z 2 (pos 0) 0x10000000 ∷ [])) is (dealt_one now next Byte x 2 0x10000000 (pos 0) adds) in
    subst (λ ds. Dealt start next ds) (sym (ap (λ z. queue_deeds z []) (take_more q i 0 within) ∙ queue_more (take i q) (slice_index q i)))
    (dealt_join start now next (queue_deeds (take i q) []) (d ∷ []) dealt one)

pub soft_apart : (k h : ℕ) (xs : List ℕ) (rest : List Deed) → soft_deeds k h xs rest ≡ soft_deeds k h xs [] ++ rest
unfolding soft_deeds
soft_apart zero h xs rest = refl
soft_apart (suc k) h xs rest = ap (λ ds. Save Word (slice_index xs h) 5 (pos (4 * h)) (0x2000000 + 4 * h) ∷ ds) (soft_apart k (suc h) xs rest)

pub compare_apart : (k h : ℕ) (xs : List ℕ) (rest : List Deed) → compare_deeds k h xs rest ≡ compare_deeds k h xs [] ++ rest
unfolding compare_deeds
compare_apart zero h xs rest = refl
compare_apart (suc k) h xs rest = ap (λ ds. Save Double (slice_index xs h) 7 (pos (8 * h)) (0x2004000 + 8 * h) ∷ ds) (compare_apart k (suc h) xs rest)

abbrev soft_deed : ℕ → List ℕ → Deed
soft_deed h xs = Save Word (slice_index xs h) 5 (pos (4 * h)) (0x2000000 + 4 * h)

abbrev compare_deed : ℕ → List ℕ → Deed
compare_deed h xs = Save Double (slice_index xs h) 7 (pos (8 * h)) (0x2004000 + 8 * h)

soft_more : (k h : ℕ) (xs : List ℕ) → soft_deeds (suc k) h xs [] ≡ soft_deeds k h xs [] ++ soft_deed (h + k) xs ∷ []
unfolding soft_deeds
soft_more zero h xs = ap (λ q. soft_deed q xs ∷ []) (let e : h ≡ h + 0 = omega arith in e)
soft_more (suc k) h xs = let e : suc h + k ≡ h + suc k = omega arith in ap (λ ds. soft_deed h xs ∷ ds) (soft_more k (suc h) xs ∙ ap (λ q. soft_deeds k (suc h) xs [] ++ soft_deed q xs ∷ []) e)

compare_more : (k h : ℕ) (xs : List ℕ) → compare_deeds (suc k) h xs [] ≡ compare_deeds k h xs [] ++ compare_deed (h + k) xs ∷ []
unfolding compare_deeds
compare_more zero h xs = ap (λ q. compare_deed q xs ∷ []) (let e : h ≡ h + 0 = omega arith in e)
compare_more (suc k) h xs = let e : suc h + k ≡ h + suc k = omega arith in ap (λ ds. compare_deed h xs ∷ ds) (compare_more k (suc h) xs ∙ ap (λ q. compare_deeds k (suc h) xs [] ++ compare_deed q xs ∷ []) e)

pub soft_dealt : (start now next : Writer) (xs : List ℕ) (h q x : ℕ) → q ≡ h → x ≡ slice_index xs h → Dealt start now (soft_deeds h 0 xs []) →
    Adds now next (all_insns (deed_items (offset_of now) (Save Word x 5 (pos (4 * q)) 0))) (deed_values (Save Word x 5 (pos (4 * q)) 0)) →
    Dealt start next (soft_deeds (h + 1) 0 xs [])
soft_dealt start now next xs h q x q_is x_is dealt adds =
    let on : suc h ≡ h + 1 = omega arith in
    let at : 0 + h ≡ h = omega arith in
    let one : Dealt now next (soft_deed h xs ∷ []) = subst (λ z. Dealt now next (Save Word z 5 (pos (4 * h)) (0x2000000 + 4 * h) ∷ [])) x_is (subst (λ z. Dealt now next (Save Word x 5 (pos (4 * z)) (0x2000000 + 4 * h) ∷ [])) q_is (dealt_one now next Word x 5 (0x2000000 + 4 * h) (pos (4 * q)) adds)) in
    subst (λ ds. Dealt start next ds) (sym (soft_more h 0 xs ∙ ap (λ z. soft_deeds h 0 xs [] ++ soft_deed z xs ∷ []) at) ∙ ap (λ k. soft_deeds k 0 xs []) on) (dealt_join start now next (soft_deeds h 0 xs []) (soft_deed h xs ∷ []) dealt one)

pub compare_dealt : (start now next : Writer) (xs : List ℕ) (h q x : ℕ) → q ≡ h → x ≡ slice_index xs h → Dealt start now (compare_deeds h 0 xs []) →
    Adds now next (all_insns (deed_items (offset_of now) (Save Double x 7 (pos (8 * q)) 0))) (deed_values (Save Double x 7 (pos (8 * q)) 0)) →
    Dealt start next (compare_deeds (h + 1) 0 xs [])
compare_dealt start now next xs h q x q_is x_is dealt adds =
    let on : suc h ≡ h + 1 = omega arith in
    let at : 0 + h ≡ h = omega arith in
    let one : Dealt now next (compare_deed h xs ∷ []) = subst (λ z. Dealt now next (Save Double z 7 (pos (8 * h)) (0x2004000 + 8 * h) ∷ [])) x_is (subst (λ z. Dealt now next (Save Double x 7 (pos (8 * z)) (0x2004000 + 8 * h) ∷ [])) q_is (dealt_one now next Double x 7 (0x2004000 + 8 * h) (pos (8 * q)) adds)) in
    subst (λ ds. Dealt start next ds) (sym (compare_more h 0 xs ∙ ap (λ z. compare_deeds h 0 xs [] ++ compare_deed z xs ∷ []) at) ∙ ap (λ k. compare_deeds k 0 xs []) on) (dealt_join start now next (compare_deeds h 0 xs []) (compare_deed h xs ∷ []) dealt one)

pub bit_is : (x : ℕ) → x ≤ 1 → cond (x == 1) 1 0 ≡ x
bit_is zero small = refl
bit_is (suc zero) small = refl
bit_is (suc (suc n)) small = absurd (omega arith)

pub compare_loaded : (c : ClintRegisters) (h : ℕ) → h < hart_count c → hart_count c ≤ 8 → loaded c (0x4000 + 8 * h) 8 ≡ Some (slice_index c.mtimecmp h)
unfolding loaded register_at
compare_loaded c h within most =
    let g : (0x4000 + 8 * h == 0xbff8) ≡ false = ne_eqb _ _ (omega arith) in
    rw (g, row_is 0x4000 8 (hart_count c) h (omega arith) within (omega arith) (omega arith) (omega arith)) refl

-- all deeds of the marks
pub marks_dealt : (w0 w1 w2 w3 w4 w5 w6 w7 w8 w9 w10 w11 w12 : Writer) (m : ℕ) →
    Dealt w0 w1 (Aim 2 0x10000000 ∷ []) → Dealt w1 w2 (Aim 3 0xc000000 ∷ []) → Dealt w2 w3 (Aim 4 0xc002000 ∷ []) → Dealt w3 w4 (Aim 5 0xc200000 ∷ []) →
    Adds w4 w5 (all_insns (deed_items (offset_of w4) (Save Word 1 3 (pos 4) 0))) (deed_values (Save Word 1 3 (pos 4) 0)) →
    Dealt w5 w6 (Again Word 1 3 (pos 8) 0 ∷ []) →
    Adds w6 w7 (all_insns (deed_items (offset_of w6) (Save Word m 4 (pos 0) 0))) (deed_values (Save Word m 4 (pos 0) 0)) →
    Adds w7 w8 (all_insns (deed_items (offset_of w7) (Save Word 7 2 (pos 8) 0))) (deed_values (Save Word 7 2 (pos 8) 0)) →
    Adds w8 w9 (all_insns (deed_items (offset_of w8) (Save Byte 0 2 (pos 0) 0))) (deed_values (Save Byte 0 2 (pos 0) 0)) →
    Dealt w9 w10 (Read Word 5 (pos 4) 0 ∷ []) → Dealt w10 w11 (Read Word 5 (pos 4) 0 ∷ []) → Dealt w11 w12 (Read Byte 2 (pos 0) 0 ∷ []) → Dealt w0 w12 (marks_deeds m [])
marks_dealt w0 w1 w2 w3 w4 w5 w6 w7 w8 w9 w10 w11 w12 m p1 p2 p3 p4 p5 p6 p7 p8 p9 p10 p11 p12 =
    let e12 : List Deed = Read Byte 2 (pos 0) 0x10000000 ∷ [] in
    let e11 : List Deed = Read Word 5 (pos 4) 0xc200004 ∷ e12 in
    let e10 : List Deed = Read Word 5 (pos 4) 0xc200004 ∷ e11 in
    let e9 : List Deed = Save Byte 0 2 (pos 0) 0x10000000 ∷ e10 in
    let e8 : List Deed = Save Word 7 2 (pos 8) 0x10000008 ∷ e9 in
    let e7 : List Deed = Save Word m 4 (pos 0) 0xc002000 ∷ e8 in
    let e6 : List Deed = Again Word 1 3 (pos 8) 0xc000008 ∷ e7 in
    let e5 : List Deed = Save Word 1 3 (pos 4) 0xc000004 ∷ e6 in
    let e4 : List Deed = Aim 5 0xc200000 ∷ e5 in
    let e3 : List Deed = Aim 4 0xc002000 ∷ e4 in
    let e2 : List Deed = Aim 3 0xc000000 ∷ e3 in
    let q11 : Dealt w10 w12 e11 = dealt_join w10 w11 w12 (Read Word 5 (pos 4) 0xc200004 ∷ []) e12 p11 p12 in
    let q10 : Dealt w9 w12 e10 = dealt_join w9 w10 w12 (Read Word 5 (pos 4) 0xc200004 ∷ []) e11 p10 q11 in
    let q9 : Dealt w8 w12 e9 = dealt_join w8 w9 w12 (Save Byte 0 2 (pos 0) 0x10000000 ∷ []) e10 (dealt_one w8 w9 Byte 0 2 0x10000000 (pos 0) p9) q10 in
    let q8 : Dealt w7 w12 e8 = dealt_join w7 w8 w12 (Save Word 7 2 (pos 8) 0x10000008 ∷ []) e9 (dealt_one w7 w8 Word 7 2 0x10000008 (pos 8) p8) q9 in
    let q7 : Dealt w6 w12 e7 = dealt_join w6 w7 w12 (Save Word m 4 (pos 0) 0xc002000 ∷ []) e8 (dealt_one w6 w7 Word m 4 0xc002000 (pos 0) p7) q8 in
    let q6 : Dealt w5 w12 e6 = dealt_join w5 w6 w12 (Again Word 1 3 (pos 8) 0xc000008 ∷ []) e7 p6 q7 in
    let q5 : Dealt w4 w12 e5 = dealt_join w4 w5 w12 (Save Word 1 3 (pos 4) 0xc000004 ∷ []) e6 (dealt_one w4 w5 Word 1 3 0xc000004 (pos 4) p5) q6 in
    let q4 : Dealt w3 w12 e4 = dealt_join w3 w4 w12 (Aim 5 0xc200000 ∷ []) e5 p4 q5 in
    let q3 : Dealt w2 w12 e3 = dealt_join w2 w3 w12 (Aim 4 0xc002000 ∷ []) e4 p3 q4 in
    let q2 : Dealt w1 w12 e2 = dealt_join w1 w2 w12 (Aim 3 0xc000000 ∷ []) e3 p2 q3 in
    dealt_join w0 w1 w12 (Aim 2 0x10000000 ∷ []) e2 p1 q2

apart : (target : BoardState) →
    device_deeds target ≡ marks_deeds target.plic.served [] ++ (queue_deeds target.console.queue [] ++ (Save Word (slice_index target.plic.priority 0) 3 (pos 4) 0xc000004 ∷ Save Word (slice_index target.plic.priority 1) 3 (pos 8) 0xc000008 ∷ (context_deeds (contexts_of target.plic) 0 target.plic.enable target.plic.threshold [] ++ (Save Word target.console.ctrl 2 (pos 8) 0x10000008 ∷ Save Double target.console.txaddr 2 (pos 16) 0x10000010 ∷ Aim 5 0x2000000 ∷ (soft_deeds (hart_count target.clint) 0 target.clint.msip [] ++ (Aim 7 0x2004000 ∷ (compare_deeds (hart_count target.clint) 0 target.clint.mtimecmp [] ++ (Aim 5 0x200c000 ∷ Save Double target.clint.mtime 5 (negsuc 7) 0x200bff8 ∷ []))))))))
apart target =
    let n : ℕ = hart_count target.clint in
    let k : ℕ = contexts_of target.plic in
    let last : List Deed = Aim 5 0x200c000 ∷ Save Double target.clint.mtime 5 (negsuc 7) 0x200bff8 ∷ [] in
    let cmp : List Deed = Aim 7 0x2004000 ∷ compare_deeds n 0 target.clint.mtimecmp last in
    let snd : List Deed = Save Word target.console.ctrl 2 (pos 8) 0x10000008 ∷ Save Double target.console.txaddr 2 (pos 16) 0x10000010 ∷ timer_deeds target in
    let pri : List Deed = Save Word (slice_index target.plic.priority 0) 3 (pos 4) 0xc000004 ∷ Save Word (slice_index target.plic.priority 1) 3 (pos 8) 0xc000008 ∷ context_deeds k 0 target.plic.enable target.plic.threshold snd in
    ap (λ x. marks_deeds target.plic.served x) (queue_apart target.console.queue pri
    ∙ ap (λ x. queue_deeds target.console.queue [] ++ (Save Word (slice_index target.plic.priority 0) 3 (pos 4) 0xc000004 ∷ Save Word (slice_index target.plic.priority 1) 3 (pos 8) 0xc000008 ∷ x)) (contexts_apart k 0 target.plic.enable target.plic.threshold snd
    ∙ ap (λ x. context_deeds k 0 target.plic.enable target.plic.threshold [] ++ (Save Word target.console.ctrl 2 (pos 8) 0x10000008 ∷ Save Double target.console.txaddr 2 (pos 16) 0x10000010 ∷ Aim 5 0x2000000 ∷ x)) (soft_apart n 0 target.clint.msip cmp
    ∙ ap (λ x. soft_deeds n 0 target.clint.msip [] ++ (Aim 7 0x2004000 ∷ x)) (compare_apart n 0 target.clint.mtimecmp last))))

-- what a call saved, for the value that it stands for
pub saved_as : (a b : Writer) (w : Width) (v x by at : ℕ) (off : ℤ) → v ≡ x → Adds a b (all_insns (deed_items (offset_of a) (Save w v by off 0))) (deed_values (Save w v by off 0)) → Dealt a b (Save w x by off at ∷ [])
saved_as a b w v x by at off is adds = subst (λ z. Dealt a b (Save w z by off at ∷ [])) is (dealt_one a b w v by at off adds)

-- all deeds of the block
pub devices_dealt : (target : BoardState) (v0 v1 v2 v3 v4 v5 v6 v7 v8 v9 v10 v11 v12 v13 : Writer) → Dealt v0 v1 (marks_deeds target.plic.served []) →
    Dealt v1 v2 (queue_deeds target.console.queue []) → Dealt v2 v3 (Save Word (slice_index target.plic.priority 0) 3 (pos 4) 0xc000004 ∷ []) →
    Dealt v3 v4 (Save Word (slice_index target.plic.priority 1) 3 (pos 8) 0xc000008 ∷ []) →
    Dealt v4 v5 (context_deeds (contexts_of target.plic) 0 target.plic.enable target.plic.threshold []) →
    Dealt v5 v6 (Save Word target.console.ctrl 2 (pos 8) 0x10000008 ∷ []) → Dealt v6 v7 (Save Double target.console.txaddr 2 (pos 16) 0x10000010 ∷ []) →
    Dealt v7 v8 (Aim 5 0x2000000 ∷ []) → Dealt v8 v9 (soft_deeds (hart_count target.clint) 0 target.clint.msip []) → Dealt v9 v10 (Aim 7 0x2004000 ∷ []) →
    Dealt v10 v11 (compare_deeds (hart_count target.clint) 0 target.clint.mtimecmp []) → Dealt v11 v12 (Aim 5 0x200c000 ∷ []) →
    Dealt v12 v13 (Save Double target.clint.mtime 5 (negsuc 7) 0x200bff8 ∷ []) → Dealt v0 v13 (device_deeds target)
devices_dealt target v0 v1 v2 v3 v4 v5 v6 v7 v8 v9 v10 v11 v12 v13 p1 p2 p3 p4 p5 p6 p7 p8 p9 p10 p11 p12 p13 =
    let n : ℕ = hart_count target.clint in
    let d3 : Deed = Save Word (slice_index target.plic.priority 0) 3 (pos 4) 0xc000004 in
    let d4 : Deed = Save Word (slice_index target.plic.priority 1) 3 (pos 8) 0xc000008 in
    let d6 : Deed = Save Word target.console.ctrl 2 (pos 8) 0x10000008 in
    let d7 : Deed = Save Double target.console.txaddr 2 (pos 16) 0x10000010 in
    let d13 : Deed = Save Double target.clint.mtime 5 (negsuc 7) 0x200bff8 in
    let e12 : List Deed = Aim 5 0x200c000 ∷ d13 ∷ [] in
    let cmp : List Deed = compare_deeds n 0 target.clint.mtimecmp [] in
    let e11 : List Deed = cmp ++ e12 in
    let e10 : List Deed = Aim 7 0x2004000 ∷ e11 in
    let sft : List Deed = soft_deeds n 0 target.clint.msip [] in
    let e9 : List Deed = sft ++ e10 in
    let e8 : List Deed = Aim 5 0x2000000 ∷ e9 in
    let e7 : List Deed = d7 ∷ e8 in
    let e6 : List Deed = d6 ∷ e7 in
    let ctx : List Deed = context_deeds (contexts_of target.plic) 0 target.plic.enable target.plic.threshold [] in
    let e5 : List Deed = ctx ++ e6 in
    let e4 : List Deed = d4 ∷ e5 in
    let e3 : List Deed = d3 ∷ e4 in
    let que : List Deed = queue_deeds target.console.queue [] in
    let e2 : List Deed = que ++ e3 in
    let q12 : Dealt v11 v13 e12 = dealt_join v11 v12 v13 (Aim 5 0x200c000 ∷ []) (d13 ∷ []) p12 p13 in
    let q11 : Dealt v10 v13 e11 = dealt_join v10 v11 v13 cmp e12 p11 q12 in
    let q10 : Dealt v9 v13 e10 = dealt_join v9 v10 v13 (Aim 7 0x2004000 ∷ []) e11 p10 q11 in
    let q9 : Dealt v8 v13 e9 = dealt_join v8 v9 v13 sft e10 p9 q10 in
    let q8 : Dealt v7 v13 e8 = dealt_join v7 v8 v13 (Aim 5 0x2000000 ∷ []) e9 p8 q9 in
    let q7 : Dealt v6 v13 e7 = dealt_join v6 v7 v13 (d7 ∷ []) e8 p7 q8 in
    let q6 : Dealt v5 v13 e6 = dealt_join v5 v6 v13 (d6 ∷ []) e7 p6 q7 in
    let q5 : Dealt v4 v13 e5 = dealt_join v4 v5 v13 ctx e6 p5 q6 in
    let q4 : Dealt v3 v13 e4 = dealt_join v3 v4 v13 (d4 ∷ []) e5 p4 q5 in
    let q3 : Dealt v2 v13 e3 = dealt_join v2 v3 v13 (d3 ∷ []) e4 p3 q4 in
    let q2 : Dealt v1 v13 e2 = dealt_join v1 v2 v13 que e3 p2 q3 in
    subst (λ ds. Dealt v0 v13 ds) (sym (apart target)) (dealt_join v0 v1 v13 (marks_deeds target.plic.served []) e2 p1 q2)

-- ---- the block's end

pub far_adds : (a b d : Writer) (v n m : ℕ) → n ≡ encoded (Insn.Lui 1 (high_part v)) → m ≡ encoded (Insn.Addiw 1 1 (low_part v)) →
    b.code.items ≡ a.code.items ++ little_bytes 4 n → b.pool.items ≡ a.pool.items → b.place ≡ a.place → d.code.items ≡ b.code.items ++ little_bytes 4 m →
    d.pool.items ≡ b.pool.items → d.place ≡ b.place → Adds a d (far_insns v) []
far_adds a b d v n m n_is m_is c1 p1 l1 c2 p2 l2 = adds_join a b d (Insn.Lui 1 (high_part v) ∷ []) (Insn.Addiw 1 1 (low_part v) ∷ []) [] [] (one_adds a b (Insn.Lui 1 (high_part v)) n n_is c1 p1 l1) (one_adds b d (Insn.Addiw 1 1 (low_part v)) m m_is c2 p2 l2)

-- the block's items: its deeds, and the address at which it goes on
pub device_adds : (target : BoardState) (next : ℕ) (a b d : Writer) → Dealt a b (device_deeds target) → Adds b d (far_insns next) [] → Adds a d (all_insns (device_items (offset_of a) target next)) (device_values target)
device_adds target next a b d dealt far =
    let items : List Spelling = placed_deeds (offset_of a) (device_deeds target) in
    let last : List Spelling = record { item = Put 1 next; insns = far_insns next } ∷ [] in
    subst (λ x. Adds a d x (device_values target)) (sym (insns_append items last))
    (subst (λ x. Adds a d (all_insns items ++ all_insns last) x) (append-nil (device_values target))
    (adds_join a b d (all_insns items) (all_insns last) (all_deed_values (device_deeds target)) [] dealt (subst (λ x. Adds b d x []) (sym (append-nil (far_insns next))) far)))

pub device_drafted : (target : BoardState) (next : ℕ) (a b : Writer) → IsFit target → a.code.items ≡ [] → Adds a b (all_insns (device_items (offset_of a) target next)) (device_values target) → length b.code.items ≤ 1208
device_drafted target next a b fit none adds = omega (arith, drafted (λ k. device_items k target next) (device_values target) a b (device_fixed target next) none adds, device_words target next fit)

pub device_bytes_written : (target : BoardState) (next : ℕ) (a b : Writer) (n : ℕ) → a.code.items ≡ [] → a.pool.items ≡ [] →
    a.place ≡ pool_place (λ k. device_items k target next) → n ≡ encoded (Insn.Jalr 0 1 (pos 0)) →
    Adds a b (all_insns (device_items (offset_of a) target next)) (device_values target) →
    (b.code.items ++ little_bytes 4 n) ++ (code (padding (length b.code.items / 4 + 1)) ++ b.pool.items) ≡ device_bytes target next
unfolding device_bytes
device_bytes_written target next a b n no_code no_pool place is adds = block_written (λ k. device_items k target next) (Insn.Jalr 0 1 (pos 0)) (device_values target) a b n (device_fixed target next) no_code no_pool place is adds
