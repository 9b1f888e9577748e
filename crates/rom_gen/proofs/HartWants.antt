-- What the wants of a hart leave of one that comes out of reset in debug mode.
use Rattle.std.specs.Prelude.{Some, slice_index, slice_set}
use Rattle.std.proofs.Common.{◌≡◌, ◌≢◌, ℕ, zero, suc, ◌+◌, ◌*◌, ◌<◌, ◌≤◌, ⊎_elim, List, [], ◌∷◌, ◌++◌, length, refl, sym, ap, ◌∙◌, arith}
use Rattle.std.proofs.Math.ListN.{set}
use Rattle.std.proofs.lemmas.Bool.{cases_eq, cases_lt}
use Rattle.std.proofs.lemmas.List.{get_or-set_same, get_or-set_other, length-set, same_lists, get_or_default}
use Rattle.rv_alu.specs.Modes.{level}
use Rattle.csr_file.specs.Bits.{dcsr_fixed}
use Rattle.csr_file.specs.Kept.{IsFit, kept_value, reset_debug_registers}
use Rattle.csr_file.specs.Legal.{kept_numbers, legal}
use Rattle.csr_file.specs.Numbers.{csr_dcsr, csr_dpc}
use Rattle.csr_file.specs.Write.{written}
use Rattle.csr_file.specs.declared.registers.Registers.{Registers}
use Rattle.csr_file.proofs.BackLaws.{put_back}
use Rattle.hart_step.specs.declared.hart.Hart.{Hart}
use Rattle.hart_step.specs.DebugReset.{debug_registers}
use Rattle.rom_gen.specs.Items.{Spelling}
use Rattle.rom_gen.specs.HartWants.{controls, number_wants, numbered}
use Rattle.rom_gen.specs.Wants.{Want, Reg, Control, hart_all, placed}
use Rattle.rom_gen.proofs.Registers.{debug_back, kept_back}
use Rattle.rom_gen.proofs.Layouts.{AllGood, IsLayout, Leaves, all_csrs}
use Rattle.rom_gen.proofs.Placed.{count_kept, hart_append}

pub csrs_append : (a c : List Want) (r : Registers) → all_csrs (a ++ c) r ≡ all_csrs c (all_csrs a r)
csrs_append [] c r = refl
csrs_append (Reg i v ∷ a) c r = csrs_append a c r
csrs_append (Control number v ∷ a) c r = csrs_append a c (written number v r)

numbers_are : (target r : Registers) (numbers : List ℕ) → all_csrs (number_wants target numbers) r ≡ put_back target numbers r
unfolding number_wants
numbers_are target r [] = refl
numbers_are target r (number ∷ numbers) = numbers_are target (written number (kept_value number target) r) numbers

-- registers_restored, whatever the spelling
pub controls_restore : (target : Hart) → IsFit target.csrs → ((old : ℕ) → legal csr_dpc old target.pc ≡ target.pc) →
    all_csrs (controls target) (debug_registers target.csrs.hart) ≡ record target.csrs { debug = Some (record reset_debug_registers { dcsr = dcsr_fixed + level target.mode; dpc = target.pc }) }
controls_restore target fit even =
    let last : List Want = Control csr_dcsr (dcsr_fixed + level target.mode) ∷ Control csr_dpc target.pc ∷ [] in
    csrs_append (number_wants target.csrs kept_numbers) last (debug_registers target.csrs.hart)
    ∙ ap (all_csrs last) (numbers_are target.csrs (debug_registers target.csrs.hart) kept_numbers ∙ kept_back target.csrs fit)
    ∙ debug_back target.csrs target.mode target.pc even

-- ---- x0 to x31

-- x is the same but for x2
pub record SameBut2 (xs ys : List ℕ) : Type 0 where
  pub count : length ys ≡ length xs
  pub others : (j : ℕ) → j ≢ 2 → slice_index ys j ≡ slice_index xs j

abbrev pub AllControl : List Want → Type 0
AllControl [] = Unit {0}
AllControl (Reg r v ∷ rest) = ⊥
AllControl (Control number v ∷ rest) = AllControl rest

-- the control and status registers change x2 at the most
pub controls_x : {spell : ℕ → Want → List Spelling} {values : Want → List ℕ} → IsLayout spell values → (off : ℕ) (ws : List Want) (hart : Hart) → AllControl ws → AllGood ws → length hart.x ≡ 32 → SameBut2 hart.x (hart_all (placed spell values off ws) hart).x
controls_x layout off [] hart all good count = record { count = refl; others = λ j other. refl }
controls_x layout off (Reg r v ∷ ws) hart all good count = absurd all
controls_x {spell = spell} {values = values} layout off (Control number v ∷ ws) hart all good count =
    let w : Want = Control number v in
    let after : Hart = hart_all (spell off w) hart in
    let leaves : Leaves w hart after = layout.leaves off w hart good.0 count in
    let next : ℕ = off + 8 * length (values w) in
    let rest : SameBut2 after.x (hart_all (placed spell values next ws) after).x = controls_x layout next ws after all good.1 (leaves.x.0 ∙ count) in
    let is : (hart_all (spell off w ++ placed spell values next ws) hart).x ≡ (hart_all (placed spell values next ws) after).x = ap (λ (x : Hart). x.x) (hart_append (spell off w) (placed spell values next ws) hart) in
    record {
      count = ap length is ∙ rest.count ∙ leaves.x.0;
      others = λ j other. ap (λ xs. slice_index xs j) is ∙ rest.others j other ∙ leaves.x.1 j other;
    }

-- the registers that are put one after another
unfoldable pub put_x : ℕ → ℕ → List ℕ → List ℕ → List ℕ
put_x zero i wanted xs = xs
put_x (suc n) i wanted xs = put_x n (suc i) wanted (slice_set xs i (slice_index wanted i))

-- x registers are put one after another
pub numbered_x : {spell : ℕ → Want → List Spelling} {values : Want → List ℕ} → IsLayout spell values → (off n i : ℕ) (wanted : List ℕ) (hart : Hart) →
    AllGood (numbered n i wanted) → length hart.x ≡ 32 → (hart_all (placed spell values off (numbered n i wanted)) hart).x ≡ put_x n i wanted hart.x
unfolding numbered put_x
numbered_x layout off zero i wanted hart good count = refl
numbered_x {spell = spell} {values = values} layout off (suc n) i wanted hart good count =
    let w : Want = Reg i (slice_index wanted i) in
    let after : Hart = hart_all (spell off w) hart in
    let leaves : Leaves w hart after = layout.leaves off w hart good.0 count in
    let next : ℕ = off + 8 * length (values w) in
    ap (λ (x : Hart). x.x) (hart_append (spell off w) (placed spell values next (numbered n (suc i) wanted)) hart)
    ∙ numbered_x layout next n (suc i) wanted after good.1 (count_kept w hart after leaves ∙ count)
    ∙ ap (put_x n (suc i) wanted) leaves.x

pub put_below : (n i j : ℕ) (wanted xs : List ℕ) → j < i → slice_index (put_x n i wanted xs) j ≡ slice_index xs j
unfolding put_x
put_below zero i j wanted xs below = refl
put_below (suc n) i j wanted xs below = put_below n (suc i) j wanted (slice_set xs i (slice_index wanted i)) (omega arith) ∙ get_or-set_other xs i j (slice_index wanted i) 0 (omega arith)

pub put_at : (n i j : ℕ) (wanted xs : List ℕ) → i ≤ j → j < i + n → i + n ≤ length xs → slice_index (put_x n i wanted xs) j ≡ slice_index wanted j
unfolding put_x
put_at zero i j wanted xs low high inside = absurd (omega arith)
put_at (suc n) i j wanted xs low high inside =
    let v : ℕ = slice_index wanted i in
    let ys : List ℕ = slice_set xs i v in
    let m : length ys ≡ length xs = length-set xs i v in
    ⊎_elim
    (λ e. ap (λ z. slice_index (put_x n (suc i) wanted ys) z) e ∙ put_below n (suc i) i wanted ys (omega arith) ∙ get_or-set_same xs i v 0 (omega arith) ∙ ap (slice_index wanted) (sym e))
    (λ e. put_at n (suc i) j wanted ys (omega arith) (omega arith) (omega arith))
    (cases_eq j i)

pub put_count : (n i : ℕ) (wanted xs : List ℕ) → length (put_x n i wanted xs) ≡ length xs
unfolding put_x
put_count zero i wanted xs = refl
put_count (suc n) i wanted xs = put_count n (suc i) wanted (slice_set xs i (slice_index wanted i)) ∙ length-set xs i (slice_index wanted i)

same_x : (wanted ys : List ℕ) → length wanted ≡ 32 → length ys ≡ 32 → slice_index ys 0 ≡ slice_index wanted 0 → ((j : ℕ) → 2 ≤ j → j < 32 → slice_index ys j ≡ slice_index wanted j) → slice_set ys 1 (slice_index wanted 1) ≡ wanted
same_x wanted ys lt ly first rest =
    let zs : List ℕ = slice_set ys 1 (slice_index wanted 1) in
    let lz : length zs ≡ 32 = length-set ys 1 (slice_index wanted 1) ∙ ly in
    let other : (j : ℕ) → j < 32 → j ≢ 1 → slice_index ys j ≡ slice_index wanted j = λ j k n. ⊎_elim
    (λ l. let z : j ≡ 0 = omega arith in ap (slice_index ys) z ∙ first ∙ ap (slice_index wanted) (sym z))
    (λ l. rest j l k)
    (cases_lt j 2) in
    let same : (j : ℕ) → j < 32 → slice_index zs j ≡ slice_index wanted j = λ j k. ⊎_elim
    (λ e. ap (slice_index zs) e ∙ get_or-set_same ys 1 (slice_index wanted 1) 0 (omega arith) ∙ ap (slice_index wanted) (sym e))
    (λ n. get_or-set_other ys 1 j (slice_index wanted 1) 0 n ∙ other j k n)
    (cases_eq j 1) in
    same_lists zs wanted (lz ∙ sym lt) (λ j d k. get_or_default zs j d 0 k ∙ same j (omega arith) ∙ get_or_default wanted j 0 d (omega arith))

-- x2 to x31 and then x1, over what the controls left
pub x_restored : (wanted xs ys : List ℕ) → length wanted ≡ 32 → length xs ≡ 32 → slice_index wanted 0 ≡ 0 → slice_index xs 0 ≡ 0 → SameBut2 xs ys → slice_set (put_x 30 2 wanted ys) 1 (slice_index wanted 1) ≡ wanted
x_restored wanted xs ys lt lx t0 x0 same =
    let ly : length ys ≡ 32 = same.count ∙ lx in
    same_x wanted (put_x 30 2 wanted ys) lt (put_count 30 2 wanted ys ∙ ly) (put_below 30 2 0 wanted ys (omega arith) ∙ same.others 0 (omega arith) ∙ x0 ∙ sym t0) (λ j a b. put_at 30 2 j wanted ys a b (omega arith))

pub numbered_csrs : (n i : ℕ) (wanted : List ℕ) (r : Registers) → all_csrs (numbered n i wanted) r ≡ r
unfolding numbered
numbered_csrs zero i wanted r = refl
numbered_csrs (suc n) i wanted r = numbered_csrs n (suc i) wanted r
