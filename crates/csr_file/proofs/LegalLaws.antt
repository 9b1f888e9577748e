-- A value that a register keeps is kept again.
use Rattle.std.proofs.Common.{◌≡◌, ◌≢◌, ℕ, ◌-◌, ◌/◌, ◌%◌, ◌^◌, ◌<◌, ◌==◌, Bool, true, false, ◌||◌, bit_and, bit_or, cond, refl, subst, sym, ◌∙◌, ap, arith, lit<}
use Rattle.std.proofs.lemmas.Nat.{and_assoc, and_le_r, and_mask, and_mod, and_or_apart, or_lt}
use Rattle.std.proofs.lemmas.Bool.{cond_both, cond-true, cond-false, eqb-true, eq-eqb}
use Rattle.std.specs.Int.Bits.{and_self, and_zero_r}
use Rattle.csr_file.specs.Numbers.{csr_dcsr, csr_dpc, csr_mepc, csr_mstatus, csr_satp, csr_sepc}
use Rattle.csr_file.specs.Bits.{all_bits, even, mstatus_bits, mstatus_mpp, mstatus_mpp_reserved, mstatus_xlen}
use Rattle.csr_file.specs.Legal.{legal, legal_status, legal_translation, legal_debug_control, kept_bits, reset_value, IsLegal}

pub and_twice : (v m : ℕ) → bit_and (bit_and v m) m ≡ bit_and v m
and_twice v m = and_assoc m v m ∙ ap (bit_and v) (and_self m)

-- what a mask n keeps of a word under mask m with the bits of c added, which n leaves out
pub masked : (v m c n k : ℕ) → bit_and c n ≡ 0 → bit_and m n ≡ k → bit_and (bit_or (bit_and v m) c) n ≡ bit_and v k
masked v m c n k apart both = and_or_apart n (bit_and v m) c apart ∙ and_assoc n v m ∙ ap (bit_and v) both

-- where MPP was reserved it is 0 now, which is kept
status_of_reserved : (v : ℕ) → let w = bit_or (bit_and v (mstatus_bits - mstatus_mpp)) mstatus_xlen in legal_status w ≡ w
unfolding legal_status
status_of_reserved v =
    let w : ℕ = bit_or (bit_and v (mstatus_bits - mstatus_mpp)) mstatus_xlen in
    let field : bit_and w mstatus_mpp ≡ 0 = masked v (mstatus_bits - mstatus_mpp) mstatus_xlen mstatus_mpp 0 refl refl ∙ and_zero_r v in
    cond-false (bit_and w mstatus_mpp == mstatus_mpp_reserved) _ _ (ap (λ x. x == mstatus_mpp_reserved) field)
    ∙ ap (λ x. bit_or x mstatus_xlen) (masked v (mstatus_bits - mstatus_mpp) mstatus_xlen mstatus_bits (mstatus_bits - mstatus_mpp) refl refl)

-- else MPP is as it was, and all is kept
status_of_other : (v : ℕ) → (bit_and v mstatus_mpp == mstatus_mpp_reserved) ≡ false → let w = bit_or (bit_and v mstatus_bits) mstatus_xlen in legal_status w ≡ w
unfolding legal_status
status_of_other v other =
    let w : ℕ = bit_or (bit_and v mstatus_bits) mstatus_xlen in
    let field : bit_and w mstatus_mpp ≡ bit_and v mstatus_mpp = masked v mstatus_bits mstatus_xlen mstatus_mpp mstatus_mpp refl refl in
    cond-false (bit_and w mstatus_mpp == mstatus_mpp_reserved) _ _ (ap (λ x. x == mstatus_mpp_reserved) field ∙ other)
    ∙ ap (λ x. bit_or x mstatus_xlen) (masked v mstatus_bits mstatus_xlen mstatus_bits mstatus_bits refl refl)

pub legal_status-again : (v : ℕ) → legal_status (legal_status v) ≡ legal_status v
unfolding legal_status
legal_status-again v =
    cond_both (bit_and v mstatus_mpp == mstatus_mpp_reserved) (bit_or (bit_and v (mstatus_bits - mstatus_mpp)) mstatus_xlen) (bit_or (bit_and v mstatus_bits) mstatus_xlen) (λ w. legal_status w ≡ w) (λ _. status_of_reserved v) (status_of_other v)

pub legal_translation-again : (reset old v : ℕ) → legal_translation reset old ≡ old → legal_translation reset (legal_translation old v) ≡ legal_translation old v
unfolding legal_translation
legal_translation-again reset old v h =
    cond_both ((v / 2 ^ 60 == 0) || (v / 2 ^ 60 == 8)) v old (λ w. legal_translation reset w ≡ w) (λ e. cond-true _ v reset e) (λ e. h)

pub legal_debug_control-again : (v : ℕ) → legal_debug_control (legal_debug_control v) ≡ legal_debug_control v
unfolding legal_debug_control
legal_debug_control-again v = grind arith

-- a choice between two rules, each of which keeps again what it keeps, keeps again what it keeps
again_by : (b : Bool) (f g : ℕ → ℕ → ℕ) (reset old v : ℕ) → (b ≡ true → f reset (f old v) ≡ f old v) → g reset (g old v) ≡ g old v → cond b (f reset (cond b (f old v) (g old v))) (g reset (cond b (f old v) (g old v))) ≡ cond b (f old v) (g old v)
again_by true f g reset old v first second = first refl
again_by false f g reset old v first second = second

-- what a register keeps is legal, where for satp, which may keep its old value, that one was legal
pub legal-again : (number reset old v : ℕ) → (number ≡ csr_satp → legal number reset old ≡ old) → legal number reset (legal number old v) ≡ legal number old v
unfolding legal
legal-again number reset old v was_legal =
    let bits : ℕ → ℕ → ℕ = λ o x. bit_and x (kept_bits number) in
    let control : ℕ → ℕ → ℕ = λ o x. cond (number == csr_dcsr) (legal_debug_control x) (bits o x) in
    let other : ℕ → ℕ → ℕ = λ o x. cond (number == csr_satp) (legal_translation o x) (control o x) in
    let translated : (number == csr_satp) ≡ true → legal_translation reset old ≡ old = λ e. let is_satp = eqb-true number csr_satp e in subst (λ n. legal n reset old ≡ old) is_satp (was_legal is_satp) in
    again_by (number == csr_mstatus) (λ o x. legal_status x) other reset old v (λ _. legal_status-again v)
    (again_by (number == csr_satp) legal_translation control reset old v (λ e. legal_translation-again reset old v (translated e))
    (again_by (number == csr_dcsr) (λ o x. legal_debug_control x) bits reset old v (λ _. legal_debug_control-again v) (and_twice v (kept_bits number))))

kept_bits-below : (number : ℕ) → kept_bits number < 2 ^ 64
unfolding kept_bits
kept_bits-below number = grind arith

legal_status-below : (v : ℕ) → legal_status v < 2 ^ 64
unfolding legal_status
legal_status-below v =
    let low : bit_and v (mstatus_bits - mstatus_mpp) < 2 ^ 64 = omega (arith, and_le_r v (mstatus_bits - mstatus_mpp)) in
    let whole : bit_and v mstatus_bits < 2 ^ 64 = omega (arith, and_le_r v mstatus_bits) in
    cond_both (bit_and v mstatus_mpp == mstatus_mpp_reserved) _ _ (λ x. x < 2 ^ 64) (λ _. or_lt 64 _ _ low (lit< tt)) (λ _. or_lt 64 _ _ whole (lit< tt))

legal_translation-below : (old v : ℕ) → old < 2 ^ 64 → legal_translation old v < 2 ^ 64
unfolding legal_translation
legal_translation-below old v below = grind arith

legal_debug_control-below : (v : ℕ) → legal_debug_control v < 2 ^ 64
unfolding legal_debug_control
legal_debug_control-below v = grind arith

-- what a register keeps is below 2 ^ 64
pub legal-below : (number old v : ℕ) → old < 2 ^ 64 → legal number old v < 2 ^ 64
unfolding legal
legal-below number old v below =
    let kept : bit_and v (kept_bits number) < 2 ^ 64 = omega (arith, and_le_r v (kept_bits number), kept_bits-below number) in
    let status = legal_status-below v in
    let translation = legal_translation-below old v below in
    let control = legal_debug_control-below v in
    grind arith

reset_value-below : (number : ℕ) → reset_value number < 2 ^ 64
unfolding reset_value
reset_value-below number = grind arith

-- a legal value is below 2 ^ 64
pub IsLegal-below : (number v : ℕ) → IsLegal number v → v < 2 ^ 64
IsLegal-below number v is_legal = subst (λ x. x < 2 ^ 64) is_legal (legal-below number (reset_value number) v (reset_value-below number))

-- a number below 2 ^ 64 is legal for a register that keeps all bits
pub and_all_bits : (v : ℕ) → v < 2 ^ 64 → bit_and v all_bits ≡ v
and_all_bits v below = and_mask v 64 ∙ omega arith

-- legal is idempotent from the reset value on
pub legal-idempotent : (number v : ℕ) → legal number (reset_value number) (legal number (reset_value number) v) ≡ legal number (reset_value number) v
unfolding legal legal_translation reset_value
legal-idempotent number v = legal-again number (reset_value number) (reset_value number) v (λ e. subst (λ n. legal n (reset_value n) (reset_value n) ≡ reset_value n) (sym e) refl)

-- a legal address of an instruction is even
even_of : (v : ℕ) → bit_and v even ≡ v → v % 2 ≡ 0
even_of v h = ap (λ x. x % 2) (sym h) ∙ and_mod v even 1 ∙ and_zero_r (v % 2)

pub mepc-even : (v : ℕ) → IsLegal csr_mepc v → v % 2 ≡ 0
unfolding legal kept_bits
mepc-even v h = even_of v h

pub sepc-even : (v : ℕ) → IsLegal csr_sepc v → v % 2 ≡ 0
unfolding legal kept_bits
sepc-even v h = even_of v h

pub dpc-even : (v : ℕ) → IsLegal csr_dpc v → v % 2 ≡ 0
unfolding legal kept_bits
dpc-even v h = even_of v h

-- a legal mstatus has a mode in MPP
pub mstatus-mpp : (v : ℕ) → IsLegal csr_mstatus v → bit_and v mstatus_mpp ≢ mstatus_mpp_reserved
unfolding legal legal_status
mstatus-mpp v h reserved =
    let kept : bit_or (bit_and v (mstatus_bits - mstatus_mpp)) mstatus_xlen ≡ v = sym (cond-true (bit_and v mstatus_mpp == mstatus_mpp_reserved) _ _ (eq-eqb _ _ reserved)) ∙ h in
    let field : bit_and v mstatus_mpp ≡ 0 = ap (λ x. bit_and x mstatus_mpp) (sym kept) ∙ masked v (mstatus_bits - mstatus_mpp) mstatus_xlen mstatus_mpp 0 refl refl ∙ and_zero_r v in
    omega arith

-- a legal dcsr has a mode in prv
pub dcsr-prv : (v : ℕ) → IsLegal csr_dcsr v → v % 4 ≢ 2
unfolding legal legal_debug_control
dcsr-prv v h = λ reserved. grind arith
