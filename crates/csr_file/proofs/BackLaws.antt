-- Registers that are written one after another with the values that others keep.
use Rattle.std.specs.Prelude.{Option}
use Rattle.std.proofs.Common.{◌≡◌, ℕ, ◌==◌, ◌&&◌, Bool, true, false, not, if◌then◌else◌, IsTrue, ⊎_elim, List, [], ◌∷◌, sym, refl, ap, subst, ◌∙◌, arith}
use Rattle.std.specs.List.{list_all, list_any}
use Rattle.std.proofs.lemmas.Bool.{and_parts, cases_eq}
use Rattle.csr_file.specs.declared.registers.DebugRegs.{DebugRegs}
use Rattle.csr_file.specs.declared.registers.KeptRegs.{KeptRegs}
use Rattle.csr_file.specs.declared.registers.Registers.{Registers}
use Rattle.csr_file.specs.Numbers.{csr_satp, csr_sie, csr_sip, csr_sstatus, is_debug_number}
use Rattle.csr_file.specs.Legal.{IsLegal, is_kept_number, kept_numbers, legal, legal_translation, reset_value}
use Rattle.csr_file.specs.Kept.{IsFit, kept_from, kept_in, kept_value, replaced, with_kept}
use Rattle.csr_file.specs.Write.{asked_value, changed_register, written}
use Rattle.csr_file.proofs.WriteLaws.{kept_in-from, written-debug}

-- ---- registers that keep the same

-- a value by number, and 0 for a number that no register of every mode has
kept_only : (ℕ → ℕ) → ℕ → ℕ
kept_only value number = if is_kept_number number then value number else 0

only_same : (b : Bool) (f g : ℕ → ℕ) (number : ℕ) → is_kept_number number ≡ b → ((n : ℕ) → IsTrue (is_kept_number n) → f n ≡ g n) → (if b then f number else 0) ≡ (if b then g number else 0)
only_same true f g number keeps same = same number keeps
only_same false f g number none same = refl

kept_from-only : (value : ℕ → ℕ) → kept_from value ≡ kept_from (kept_only value)
unfolding kept_from kept_only is_kept_number kept_numbers
kept_from-only value = refl

kept_from-same : (f g : ℕ → ℕ) → ((number : ℕ) → IsTrue (is_kept_number number) → f number ≡ g number) → kept_from f ≡ kept_from g
unfolding kept_only
kept_from-same f g same =
    kept_from-only f ∙ (λ i. kept_from (λ number. only_same (is_kept_number number) f g number refl same i)) ∙ sym (kept_from-only g)

-- the registers of every mode are the same where each keeps the same value
pub kept_same : (a b : KeptRegs) → ((number : ℕ) → IsTrue (is_kept_number number) → kept_in number a ≡ kept_in number b) → a ≡ b
unfolding kept_in kept_from
kept_same a b same = kept_from-same (λ n. kept_in n a) (λ n. kept_in n b) same

-- ---- a write of a legal value

-- a register of every mode is no view, and none of debug mode
is_plain : ℕ → Bool
is_plain number = not (number == csr_sstatus) && (not (number == csr_sie) && (not (number == csr_sip) && not (is_debug_number number)))

passes : (p : ℕ → Bool) (numbers : List ℕ) (number : ℕ) → list_all p numbers ≡ true → list_any (λ n. number == n) numbers ≡ true → p number ≡ true
passes p [] number all any = cc
passes p (n ∷ rest) number all any = let later = passes p rest number in grind arith

plain : (number : ℕ) → IsTrue (is_kept_number number) → is_plain number ≡ true
unfolding is_plain is_kept_number kept_numbers
plain number keeps = passes is_plain kept_numbers number refl keeps

translation-over : (old v : ℕ) → legal_translation 0 v ≡ v → legal_translation old v ≡ v
unfolding legal_translation
translation-over old v h = grind arith

-- a legal value is kept, whatever was kept before
legal-over : (number old v : ℕ) → IsLegal number v → legal number old v ≡ v
unfolding legal reset_value
legal-over number old v is_legal =
    ⊎_elim (λ e. subst (λ n. legal n (reset_value n) v ≡ v → legal n old v ≡ v) (sym e) (translation-over old v) is_legal) (λ other. grind arith) (cases_eq number csr_satp)

-- so such a write leaves that value, and all else as it is
written-legal : (number v : ℕ) (r : Registers) → IsTrue (is_kept_number number) → IsLegal number v → written number v r ≡ with_kept number v r
unfolding written changed_register asked_value is_plain
written-legal number v r keeps is_legal =
    let is = plain number keeps in
    let changed : changed_register number ≡ number = grind arith in
    let asked : asked_value number v r ≡ v = grind arith in
    ap (λ n. with_kept n (legal n (kept_value n r) (asked_value number v r)) r) changed
    ∙ ap (λ x. with_kept number (legal number (kept_value number r) x) r) asked
    ∙ ap (λ x. with_kept number x r) (legal-over number (kept_value number r) v is_legal)

-- ---- registers that are put back

-- the registers after each of these numbers was written with the value that target keeps there
abbrev pub put_back : Registers → List ℕ → Registers → Registers
put_back target [] r = r
put_back target (number ∷ rest) r = put_back target rest (written number (kept_value number target) r)

put_hart : (target : Registers) (numbers : List ℕ) (r : Registers) → (put_back target numbers r).hart ≡ r.hart
unfolding written with_kept
put_hart target [] r = refl
put_hart target (number ∷ rest) r = put_hart target rest (written number (kept_value number target) r)

put_debug : (target : Registers) (numbers : List ℕ) (r : Registers) → list_all is_kept_number numbers ≡ true → (put_back target numbers r).debug ≡ r.debug
unfolding changed_register is_plain
put_debug target [] r all = refl
put_debug target (number ∷ rest) r all =
    let both = and_parts (is_kept_number number) _ all in
    let is = plain number both.0 in
    let other : is_debug_number (changed_register number) ≡ false = grind arith in
    put_debug target rest (written number (kept_value number target) r) both.1 ∙ written-debug number _ r other

plain_value : (number : ℕ) (r : Registers) → IsTrue (is_kept_number number) → kept_value number r ≡ kept_in number r.kept
unfolding kept_value is_plain
plain_value number r keeps = let is = plain number keeps in grind arith

with_kept-at : (number x : ℕ) (r : Registers) (m : ℕ) → IsTrue (is_kept_number m) → kept_in m (with_kept number x r).kept ≡ (if number == m then x else kept_in m r.kept)
unfolding with_kept
with_kept-at number x r m keeps = kept_in-from m (replaced number x (λ n. kept_in n r.kept)) keeps

-- the value of a number that was written, and of any other
put_kept : (target : Registers) (numbers : List ℕ) (r : Registers) (m : ℕ) → IsFit target → list_all is_kept_number numbers ≡ true → IsTrue (is_kept_number m) → kept_in m (put_back target numbers r).kept ≡ (if list_any (λ n. m == n) numbers then kept_in m target.kept else kept_in m r.kept)
put_kept target [] r m fit all keeps = refl
put_kept target (number ∷ rest) r m fit all keeps =
    let both = and_parts (is_kept_number number) _ all in
    let value : ℕ = kept_value number target in
    let own : kept_value number target ≡ kept_in number target.kept = plain_value number target both.0 in
    let is_legal : IsLegal number value = subst (IsLegal number) (sym own) (fit.kept number both.0) in
    let once : kept_in m (written number value r).kept ≡ (if number == m then value else kept_in m r.kept) = ap (λ (s : Registers). kept_in m s.kept) (written-legal number value r both.0 is_legal) ∙ with_kept-at number value r m keeps in
    let later = put_kept target rest (written number value r) m fit both.1 keeps in
    ⊎_elim (λ (e : number ≡ m). let here : value ≡ kept_in m target.kept = own ∙ ap (λ n. kept_in n target.kept) e in grind arith) (λ other. grind arith) (cases_eq number m)

-- registers of every mode that are all put back are those of target
all_kept : list_all is_kept_number kept_numbers ≡ true
unfolding is_kept_number kept_numbers
all_kept = refl

listed : (m : ℕ) → IsTrue (is_kept_number m) → list_any (λ n. m == n) kept_numbers ≡ true
unfolding is_kept_number
listed m keeps = keeps

put_each : (target r : Registers) (m : ℕ) → IsFit target → IsTrue (is_kept_number m) → kept_in m (put_back target kept_numbers r).kept ≡ kept_in m target.kept
put_each target r m fit keeps =
    put_kept target kept_numbers r m fit all_kept keeps ∙ ap (λ (b : Bool). if b then kept_in m target.kept else kept_in m r.kept) (listed m keeps)

pub put_back-all : (target r : Registers) → IsFit target → put_back target kept_numbers r ≡ record { hart = r.hart; kept = target.kept; debug = r.debug }
put_back-all target r fit =
    ap (λ h. record { hart = h; kept = (put_back target kept_numbers r).kept; debug = (put_back target kept_numbers r).debug }) (put_hart target kept_numbers r)
    ∙ ap (λ (k : KeptRegs). record { hart = r.hart; kept = k; debug = (put_back target kept_numbers r).debug }) (kept_same _ _ (λ m keeps. put_each target r m fit keeps))
    ∙ ap (λ (d : Option DebugRegs). record { hart = r.hart; kept = target.kept; debug = d }) (put_debug target kept_numbers r all_kept)
