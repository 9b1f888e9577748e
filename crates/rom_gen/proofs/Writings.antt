-- One want after another is written.
use Rattle.std.specs.Prelude.{slice_index, All, IsTrue, Bool, true, ◌&&◌}
use Rattle.std.proofs.Common.{◌≡◌, ℕ, zero, suc, ◌+◌, ◌*◌, ◌/◌, ◌<◌, ◌≤◌, List, [], ◌∷◌, ◌++◌, length, take, refl, sym, ap, ◌∙◌, arith, subst, append_assoc, length-append}
use Rattle.std.proofs.lemmas.Bool.{and_parts}
use Rattle.std.proofs.lemmas.List.{append-nil, take_more}
use Rattle.byteorder.specs.Endian.{little_bytes}
use Rattle.rv_alu.specs.Modes.{level}
use Rattle.rv_decode.specs.declared.Insn.{Insn}
use Rattle.rv_decode.specs.Encode.{encoded}
use Rattle.csr_file.specs.Bits.{dcsr_fixed}
use Rattle.csr_file.specs.Numbers.{csr_dcsr, csr_dpc}
use Rattle.csr_file.specs.Kept.{kept_value}
use Rattle.csr_file.specs.Legal.{kept_numbers}
use Rattle.csr_file.specs.declared.registers.Registers.{Registers}
use Rattle.hart_step.specs.declared.hart.Hart.{Hart}
use Rattle.rom_gen.specs.Rom.{block_bytes, block_words, hart_bytes, hart_items, hart_values, padding, pool_place, rounded}
use Rattle.rom_gen.specs.Items.{Spelling, all_insns, code, word_count}
use Rattle.rom_gen.specs.HartWants.{first_wants, number_wants, numbered}
use Rattle.rom_gen.specs.Wants.{Want, Reg, Control, all_values, placed, pool, put_insns, want_items, want_values, put_values}
use Rattle.rom_gen.specs.Writing.{Adds, Wrote, offset_of}
use Rattle.rom_gen.specs.declared.writer.Writer.{Writer}
use Rattle.rom_gen.proofs.HartBlock.{insns_count}
use Rattle.rom_gen.proofs.ItemSteps.{code_append, code_length}
use Rattle.rom_gen.proofs.Placed.{placed_append, pool_append, pool_length}
use Rattle.rom_gen.proofs.RomParts.{hart_fixed, hart_short, one_value}

pub insns_append : (a c : List Spelling) → all_insns (a ++ c) ≡ all_insns a ++ all_insns c
insns_append [] c = refl
insns_append (s ∷ a) c = ap (λ x. s.insns ++ x) (insns_append a c) ∙ sym (append_assoc s.insns (all_insns a) (all_insns c))

values_append : (ws vs : List Want) → all_values want_values (ws ++ vs) ≡ all_values want_values ws ++ all_values want_values vs
values_append [] vs = refl
values_append (w ∷ ws) vs = ap (λ x. want_values w ++ x) (values_append ws vs) ∙ sym (append_assoc (want_values w) (all_values want_values ws) (all_values want_values vs))

-- what was added, and then more
pub adds_join : (a b c : Writer) (first second : List Insn) (us vs : List ℕ) → Adds a b first us → Adds b c second vs → Adds a c (first ++ second) (us ++ vs)
adds_join a b c first second us vs one two = record {
  code = two.code ∙ ap (λ x. x ++ code second) one.code ∙ append_assoc a.code.items (code first) (code second) ∙ ap (λ x. a.code.items ++ x) (sym (code_append first second));
  pool = two.pool ∙ ap (λ x. x ++ pool vs) one.pool ∙ append_assoc a.pool.items (pool us) (pool vs) ∙ ap (λ x. a.pool.items ++ x) (sym (pool_append us vs));
  place = two.place ∙ one.place;
}

-- where the pool goes on
pub offset_on : (a b : Writer) (insns : List Insn) (us : List ℕ) → Adds a b insns us → offset_of b ≡ offset_of a + 8 * length us
offset_on a b insns us adds = omega (arith, adds.place, ap length adds.pool, length-append a.pool.items (pool us), pool_length us)

pub wrote_none : (a : Writer) → Wrote a a []
wrote_none a = record { code = sym (append-nil a.code.items); pool = sym (append-nil a.pool.items); place = refl }

-- wants and then more
pub wrote_join : (a b c : Writer) (ws vs : List Want) → Wrote a b ws → Wrote b c vs → Wrote a c (ws ++ vs)
wrote_join a b c ws vs one two =
    let next : ℕ = offset_of a + 8 * length (all_values want_values ws) in
    let second : Adds b c (all_insns (placed want_items want_values next vs)) (all_values want_values vs) = subst (λ k. Adds b c (all_insns (placed want_items want_values k vs)) (all_values want_values vs)) (offset_on a b (all_insns (placed want_items want_values (offset_of a) ws)) (all_values want_values ws) one) two in
    subst (λ x. Adds a c (all_insns x) (all_values want_values (ws ++ vs))) (sym (placed_append want_items want_values (offset_of a) ws vs))
    (subst (λ x. Adds a c x (all_values want_values (ws ++ vs))) (sym (insns_append (placed want_items want_values (offset_of a) ws) (placed want_items want_values next vs)))
    (subst (λ x. Adds a c (all_insns (placed want_items want_values (offset_of a) ws) ++ all_insns (placed want_items want_values next vs)) x) (sym (values_append ws vs))
    (adds_join a b c (all_insns (placed want_items want_values (offset_of a) ws)) (all_insns (placed want_items want_values next vs)) (all_values want_values ws) (all_values want_values vs) one second)))

pub wrote_one : (a b : Writer) (w : Want) → Adds a b (all_insns (want_items (offset_of a) w)) (want_values w) → Wrote a b (w ∷ [])
wrote_one a b w adds =
    subst (λ x. Adds a b (all_insns x) (want_values w ++ [])) (sym (append-nil (want_items (offset_of a) w)))
    (subst (λ x. Adds a b (all_insns (want_items (offset_of a) w)) x) (sym (append-nil (want_values w))) adds)

-- ---- the lists of the loops, with one element more

pub numbers_more : (r : Registers) (numbers : List ℕ) (number : ℕ) → number_wants r (numbers ++ number ∷ []) ≡ number_wants r numbers ++ Control number (kept_value number r) ∷ []
unfolding number_wants
numbers_more r [] number = refl
numbers_more r (x ∷ numbers) number = ap (λ ws. Control x (kept_value x r) ∷ ws) (numbers_more r numbers number)

pub numbered_more : (n i : ℕ) (xs : List ℕ) → numbered (suc n) i xs ≡ numbered n i xs ++ Reg (i + n) (slice_index xs (i + n)) ∷ []
unfolding numbered
numbered_more zero i xs = ap (λ k. Reg k (slice_index xs k) ∷ []) (let e : i ≡ i + 0 = omega arith in e)
numbered_more (suc n) i xs =
    let e : suc i + n ≡ i + suc n = omega arith in
    ap (λ ws. Reg i (slice_index xs i) ∷ ws) (numbered_more n (suc i) xs ∙ ap (λ k. numbered n (suc i) xs ++ Reg k (slice_index xs k) ∷ []) e)

pub number_written : (start now next : Writer) (r : Registers) (numbers : List ℕ) (i : ℕ) → i < length numbers → Wrote start now (number_wants r (take i numbers)) →
    Adds now next (all_insns (want_items (offset_of now) (Control (slice_index numbers i) (kept_value (slice_index numbers i) r)))) (want_values (Control (slice_index numbers i) (kept_value (slice_index numbers i) r))) →
    Wrote start next (number_wants r (take (i + 1) numbers))
number_written start now next r numbers i within wrote adds =
    let w : Want = Control (slice_index numbers i) (kept_value (slice_index numbers i) r) in
    subst (λ ws. Wrote start next ws) (sym (ap (number_wants r) (take_more numbers i 0 within) ∙ numbers_more r (take i numbers) (slice_index numbers i)))
    (wrote_join start now next (number_wants r (take i numbers)) (w ∷ []) wrote (wrote_one now next w adds))

pub put_one : (now next : Writer) (r v : ℕ) → Adds now next (put_insns (offset_of now) r v) (put_values v) → Adds now next (all_insns (want_items (offset_of now) (Reg r v))) (want_values (Reg r v))
put_one now next r v adds = subst (λ x. Adds now next x (put_values v)) (sym (append-nil (put_insns (offset_of now) r v))) adds

pub register_written : (start now next : Writer) (xs : List ℕ) (i r v : ℕ) → r ≡ 2 + i → v ≡ slice_index xs (2 + i) → Wrote start now (numbered i 2 xs) → Adds now next (put_insns (offset_of now) r v) (put_values v) → Wrote start next (numbered (i + 1) 2 xs)
register_written start now next xs i r v r_is v_is wrote adds =
    let w : Want = Reg (2 + i) (slice_index xs (2 + i)) in
    let on : suc i ≡ i + 1 = omega arith in
    let here : Adds now next (put_insns (offset_of now) (2 + i) (slice_index xs (2 + i))) (put_values (slice_index xs (2 + i))) =
    subst (λ k. Adds now next (put_insns (offset_of now) k (slice_index xs (2 + i))) (put_values (slice_index xs (2 + i)))) r_is (subst (λ x. Adds now next (put_insns (offset_of now) r x) (put_values x)) v_is adds) in
    let one : Adds now next (all_insns (want_items (offset_of now) w)) (want_values w) = put_one now next (2 + i) (slice_index xs (2 + i)) here in
    subst (λ ws. Wrote start next ws) (sym (numbered_more i 2 xs) ∙ ap (λ n. numbered n 2 xs) on) (wrote_join start now next (numbered i 2 xs) (w ∷ []) wrote (wrote_one now next w one))

-- a want adds a value to the pool, or none
pub room_on : (now next : Writer) (insns : List Insn) (us : List ℕ) (from i : ℕ) → Adds now next insns us → length us ≤ 1 → offset_of now ≤ from + 8 * i → offset_of next ≤ from + 8 * (i + 1)
room_on now next insns us from i adds few room = omega (arith, offset_on now next insns us adds)

pub control_few : (number v : ℕ) → length (want_values (Control number v)) ≤ 1
control_few number v = one_value (Control number v)

pub put_few : (v : ℕ) → length (put_values v) ≤ 1
put_few v = one_value (Reg 1 v)

-- ---- a test of each number of a list

abbrev pub all_of : (ℕ → Bool) → List ℕ → Bool
all_of p [] = true
all_of p (x ∷ xs) = p x && all_of p xs

pub from_all_of : (p : ℕ → Bool) (xs : List ℕ) → all_of p xs ≡ true → All (λ n. IsTrue (p n)) xs
from_all_of p [] e k d within = absurd (omega arith)
from_all_of p (x ∷ xs) e zero d within = (and_parts (p x) (all_of p xs) e).0
from_all_of p (x ∷ xs) e (suc k) d within = from_all_of p xs (and_parts (p x) (all_of p xs) e).1 k d (omega arith)

-- ---- a hart

-- all wants of a hart
pub hart_written : (a b c d e f : Writer) (target : Hart) (r : Registers) (numbers : List ℕ) (v1 v2 v3 : ℕ) → r ≡ target.csrs → numbers ≡ kept_numbers → v1 ≡ dcsr_fixed + level target.mode → v2 ≡ target.pc → v3 ≡ slice_index target.x 1 →
    Wrote a b (number_wants r numbers) → Adds b c (all_insns (want_items (offset_of b) (Control csr_dcsr v1))) (want_values (Control csr_dcsr v1)) → Adds c d (all_insns (want_items (offset_of c) (Control csr_dpc v2))) (want_values (Control csr_dpc v2)) → Wrote d e (numbered 30 2 target.x) → Adds e f (put_insns (offset_of e) 1 v3) (put_values v3) →
    Adds a f (all_insns (hart_items target (offset_of a))) (hart_values target)
hart_written a b c d e f target r numbers v1 v2 v3 same all is1 is2 is3 controls control pc xs last =
    let ws : List Want = number_wants target.csrs kept_numbers in
    let w1 : Want = Control csr_dcsr (dcsr_fixed + level target.mode) in
    let w2 : Want = Control csr_dpc target.pc in
    let w3 : Want = Reg 1 (slice_index target.x 1) in
    let one : Wrote a b ws = subst (λ x. Wrote a b x) (ap (λ x. number_wants x numbers) same ∙ ap (number_wants target.csrs) all) controls in
    let two : Wrote b c (w1 ∷ []) = wrote_one b c w1 (subst (λ v. Adds b c (all_insns (want_items (offset_of b) (Control csr_dcsr v))) (want_values (Control csr_dcsr v))) is1 control) in
    let three : Wrote c d (w2 ∷ []) = wrote_one c d w2 (subst (λ v. Adds c d (all_insns (want_items (offset_of c) (Control csr_dpc v))) (want_values (Control csr_dpc v))) is2 pc) in
    let four : Wrote a d (ws ++ (w1 ∷ w2 ∷ [])) = wrote_join a b d ws (w1 ∷ w2 ∷ []) one (wrote_join b c d (w1 ∷ []) (w2 ∷ []) two three) in
    let five : Wrote a e (first_wants target) = wrote_join a d e (ws ++ (w1 ∷ w2 ∷ [])) (numbered 30 2 target.x) four xs in
    let here : Adds e f (all_insns (want_items (offset_of e) w3)) (want_values w3) = put_one e f 1 (slice_index target.x 1) (subst (λ v. Adds e f (put_insns (offset_of e) 1 v) (put_values v)) is3 last) in
    let us : List ℕ = all_values want_values (first_wants target) in
    let next : ℕ = offset_of a + 8 * length us in
    let items : List Spelling = placed want_items want_values (offset_of a) (first_wants target) in
    let six : Adds e f (all_insns (want_items next w3)) (want_values w3) = subst (λ k. Adds e f (all_insns (want_items k w3)) (want_values w3)) (offset_on a e (all_insns items) us five) here in
    subst (λ x. Adds a f x (us ++ want_values w3)) (sym (insns_append items (want_items next w3))) (adds_join a e f (all_insns items) (all_insns (want_items next w3)) us (want_values w3) five six)

-- ---- a block, drafted for its length and then written

-- the length of a draft
pub drafted : (items : ℕ → List Spelling) (values : List ℕ) (a b : Writer) → ((k : ℕ) → word_count (items k) ≡ word_count (items 0)) → a.code.items ≡ [] → Adds a b (all_insns (items (offset_of a))) values → length b.code.items ≡ 4 * word_count (items 0)
drafted items values a b fixed none adds =
    let insns : List Insn = all_insns (items (offset_of a)) in
    ap length (adds.code ∙ ap (λ x. x ++ code insns) none) ∙ code_length insns ∙ ap (λ n. 4 * n) (insns_count (items (offset_of a)) ∙ fixed (offset_of a))

pub place_drafted : (items : ℕ → List Spelling) (n : ℕ) → n ≡ 4 * word_count (items 0) → 4 * rounded (n / 4 + 1) ≡ pool_place items
place_drafted items n is = let e : n / 4 ≡ word_count (items 0) = omega arith in ap (λ k. 4 * rounded (k + 1)) e

pub offset_begun : (a : Writer) (place : ℕ) → a.pool.items ≡ [] → a.place ≡ place → offset_of a ≡ place
offset_begun a place none is = omega (arith, ap length none, is)

-- a block's bytes
pub block_written : (items : ℕ → List Spelling) (last : Insn) (values : List ℕ) (a b : Writer) (n : ℕ) → ((k : ℕ) → word_count (items k) ≡ word_count (items 0)) →
    a.code.items ≡ [] → a.pool.items ≡ [] → a.place ≡ pool_place items → n ≡ encoded last → Adds a b (all_insns (items (offset_of a))) values →
    (b.code.items ++ little_bytes 4 n) ++ (code (padding (length b.code.items / 4 + 1)) ++ b.pool.items) ≡ block_bytes items last values
block_written items last values a b n fixed no_code no_pool place is adds =
    let k : ℕ = pool_place items in
    let at : offset_of a ≡ k = offset_begun a k no_pool place in
    let codes : b.code.items ≡ code (all_insns (items k)) = adds.code ∙ ap (λ x. x ++ code (all_insns (items (offset_of a)))) no_code ∙ ap (λ q. code (all_insns (items q))) at in
    let pools : b.pool.items ≡ pool values = adds.pool ∙ ap (λ x. x ++ pool values) no_pool in
    let words : length b.code.items / 4 + 1 ≡ block_words items = (let e = drafted items values a b fixed no_code adds in omega arith) in
    ap (λ x. (x ++ little_bytes 4 n) ++ (code (padding (length b.code.items / 4 + 1)) ++ b.pool.items)) codes
    ∙ ap (λ w. (code (all_insns (items k)) ++ little_bytes 4 w) ++ (code (padding (length b.code.items / 4 + 1)) ++ b.pool.items)) is
    ∙ ap (λ x. (code (all_insns (items k)) ++ x) ++ (code (padding (length b.code.items / 4 + 1)) ++ b.pool.items)) (sym (append-nil (little_bytes 4 (encoded last))))
    ∙ ap (λ m. (code (all_insns (items k)) ++ code (last ∷ [])) ++ (code (padding m) ++ b.pool.items)) words
    ∙ ap (λ x. (code (all_insns (items k)) ++ code (last ∷ [])) ++ (code (padding (block_words items)) ++ x)) pools

pub hart_bytes_written : (target : Hart) (a b : Writer) (n : ℕ) → a.code.items ≡ [] → a.pool.items ≡ [] → a.place ≡ pool_place (hart_items target) →
    n ≡ encoded Insn.Dret → Adds a b (all_insns (hart_items target (offset_of a))) (hart_values target) →
    (b.code.items ++ little_bytes 4 n) ++ (code (padding (length b.code.items / 4 + 1)) ++ b.pool.items) ≡ hart_bytes target
unfolding hart_bytes
hart_bytes_written target a b n no_code no_pool place is adds = block_written (hart_items target) Insn.Dret (hart_values target) a b n (hart_fixed target) no_code no_pool place is adds

-- a hart's code and its place have room
pub hart_drafted : (target : Hart) (a b : Writer) → a.code.items ≡ [] → Adds a b (all_insns (hart_items target (offset_of a))) (hart_values target) → length b.code.items ≤ 660
hart_drafted target a b none adds = omega (arith, drafted (hart_items target) (hart_values target) a b (hart_fixed target) none adds, hart_short target)
