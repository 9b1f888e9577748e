-- A return from the handler goes back to where the trap came.
use Rattle.std.proofs.Common.{◌≡◌, ℕ, ◌+◌, ◌-◌, ◌*◌, ◌/◌, ◌%◌, ◌^◌, ◌<◌, ◌==◌, if◌then◌else◌, Bool, true, false, not, bit_and, refl, sym, ap, ◌∙◌, arith, lit≤}
use Rattle.std.proofs.lemmas.Nat.{and_assoc, and_or_apart, or_comm}
use Rattle.std.proofs.lemmas.Nat.Bits.{and_high, and_high_mask}
use Rattle.std.proofs.lemmas.Bool.{cond_both, cond-false}
use Rattle.std.specs.Int.Bits.{and_zero_r}
use Rattle.rv_alu.specs.declared.Mode.{Mode}
use Rattle.rv_alu.specs.Modes.{level, mode_of}
use Rattle.csr_file.specs.Bits.{all_bits, even, mstatus_bits, mstatus_mie, mstatus_mpie, mstatus_mpp, mstatus_mpp_reserved, mstatus_sie, mstatus_spie, mstatus_spp, mstatus_xlen}
use Rattle.csr_file.specs.Kept.{kept_from, kept_in, with_kept}
use Rattle.csr_file.specs.Legal.{kept_bits, legal, legal_status}
use Rattle.csr_file.specs.Numbers.{csr_mcause, csr_mepc, csr_mstatus, csr_mtval, csr_scause, csr_sepc, csr_stval}
use Rattle.csr_file.specs.Write.{asked_value, changed_register, merged, written}
use Rattle.csr_file.specs.declared.registers.Registers.{Registers}
use Rattle.csr_file.proofs.LegalLaws.{masked}
use Rattle.csr_file.proofs.WriteLaws.{written-debug}
use Rattle.trap_rules.specs.declared.Cause.{Cause}
use Rattle.trap_rules.specs.Entry.{machine_entered, supervisor_entered}
use Rattle.trap_rules.specs.Status.{bits_if, has_any, machine_previous, machine_stacked, supervisor_previous, supervisor_stacked}

-- ---- the pc

even_stays : (pc : ℕ) → pc < 2 ^ 64 → pc % 2 ≡ 0 → bit_and pc even ≡ pc
even_stays pc fits is_even = and_high_mask 64 1 (lit≤ tt) pc fits ∙ omega arith

pub machine_entered-pc : (mode : Mode) (cause : Cause) (tval pc : ℕ) (r : Registers) → pc < 2 ^ 64 → pc % 2 ≡ 0 → (machine_entered mode cause tval pc r).kept.mepc ≡ pc
unfolding machine_entered written changed_register asked_value with_kept kept_in kept_from legal kept_bits
machine_entered-pc mode cause tval pc r fits is_even = even_stays pc fits is_even

pub supervisor_entered-pc : (mode : Mode) (cause : Cause) (tval pc : ℕ) (r : Registers) → pc < 2 ^ 64 → pc % 2 ≡ 0 → (supervisor_entered mode cause tval pc r).kept.sepc ≡ pc
unfolding supervisor_entered written changed_register asked_value with_kept kept_in kept_from legal kept_bits
supervisor_entered-pc mode cause tval pc r fits is_even = even_stays pc fits is_even

-- ---- the mode

-- a field n that a merge replaces
merged-field : (m s w n : ℕ) → bit_and (all_bits - m) n ≡ 0 → bit_and m n ≡ n → bit_and (merged m s w) n ≡ bit_and w n
merged-field m s w n outside inside =
    ap (λ x. bit_and x n) (or_comm (bit_and s (all_bits - m)) (bit_and w m))
    ∙ and_or_apart n (bit_and w m) (bit_and s (all_bits - m)) (and_assoc n s (all_bits - m) ∙ ap (bit_and s) outside ∙ and_zero_r s)
    ∙ and_assoc n w m ∙ ap (bit_and w) inside

machine_field : (mode : Mode) (enabled : Bool) → bit_and (bits_if enabled mstatus_mpie + level mode * 2 ^ 11) mstatus_mpp ≡ level mode * 2 ^ 11
machine_field Mode.U true = refl
machine_field Mode.U false = refl
machine_field Mode.S true = refl
machine_field Mode.S false = refl
machine_field Mode.M true = refl
machine_field Mode.M false = refl

is_mode : (mode : Mode) → (level mode * 2 ^ 11 == mstatus_mpp_reserved) ≡ false
is_mode Mode.U = refl
is_mode Mode.S = refl
is_mode Mode.M = refl

machine_stacked-field : (mode : Mode) (s : ℕ) → bit_and (machine_stacked mode s) mstatus_mpp ≡ level mode * 2 ^ 11
unfolding machine_stacked
machine_stacked-field mode s =
    merged-field (mstatus_mie + mstatus_mpie + mstatus_mpp) s _ mstatus_mpp refl refl ∙ machine_field mode (has_any s mstatus_mie)

legal_status-field : (v : ℕ) → (bit_and v mstatus_mpp == mstatus_mpp_reserved) ≡ false → bit_and (legal_status v) mstatus_mpp ≡ bit_and v mstatus_mpp
unfolding legal_status
legal_status-field v other =
    ap (λ w. bit_and w mstatus_mpp) (cond-false (bit_and v mstatus_mpp == mstatus_mpp_reserved) _ _ other) ∙ masked v mstatus_bits mstatus_xlen mstatus_mpp mstatus_mpp refl refl

mode_of-level : (mode : Mode) → mode_of (level mode) ≡ mode
mode_of-level Mode.U = refl
mode_of-level Mode.S = refl
mode_of-level Mode.M = refl

previous_by_field : (status l : ℕ) → bit_and status mstatus_mpp ≡ l * 2 ^ 11 → status / 2 ^ 11 % 2 ^ 2 ≡ l
previous_by_field status l h = let high : bit_and status (2 ^ (2 + 11) - 2 ^ 11) ≡ (status / 2 ^ 11 % 2 ^ 2) * 2 ^ 11 = and_high status 2 11 in omega (arith, sym high ∙ h)

pub machine_entered-mode : (mode : Mode) (cause : Cause) (tval pc : ℕ) (r : Registers) → machine_previous (machine_entered mode cause tval pc r).kept.mstatus ≡ mode
unfolding machine_entered written changed_register asked_value with_kept kept_in kept_from legal
machine_entered-mode mode cause tval pc r =
    let v : ℕ = machine_stacked mode r.kept.mstatus in
    let field : bit_and v mstatus_mpp ≡ level mode * 2 ^ 11 = machine_stacked-field mode r.kept.mstatus in
    let other : (bit_and v mstatus_mpp == mstatus_mpp_reserved) ≡ false = ap (λ x. x == mstatus_mpp_reserved) field ∙ is_mode mode in
    ap mode_of (previous_by_field (legal_status v) (level mode) (legal_status-field v other ∙ field)) ∙ mode_of-level mode

supervisor_field : (enabled from : Bool) → bit_and (bits_if enabled mstatus_spie + bits_if from mstatus_spp) mstatus_spp ≡ bits_if from mstatus_spp
supervisor_field true true = refl
supervisor_field true false = refl
supervisor_field false true = refl
supervisor_field false false = refl

legal_status-spp : (v : ℕ) → bit_and (legal_status v) mstatus_spp ≡ bit_and v mstatus_spp
unfolding legal_status
legal_status-spp v =
    cond_both (bit_and v mstatus_mpp == mstatus_mpp_reserved) _ _ (λ w. bit_and w mstatus_spp ≡ bit_and v mstatus_spp) (λ _. masked v (mstatus_bits - mstatus_mpp) mstatus_xlen mstatus_spp mstatus_spp refl refl) (λ _. masked v mstatus_bits mstatus_xlen mstatus_spp mstatus_spp refl refl)

below_machine : (mode : Mode) → not (level mode == 3) ≡ true → (if not (bits_if (level mode == 1) mstatus_spp == 0) then Mode.S else Mode.U) ≡ mode
below_machine Mode.U h = refl
below_machine Mode.S h = refl
below_machine Mode.M h = absurd (cc)

supervisor_stacked-field : (mode : Mode) (s : ℕ) → bit_and (supervisor_stacked mode s) mstatus_spp ≡ bits_if (level mode == 1) mstatus_spp
unfolding supervisor_stacked
supervisor_stacked-field mode s =
    merged-field (mstatus_sie + mstatus_spie + mstatus_spp) s _ mstatus_spp refl refl ∙ supervisor_field (has_any s mstatus_sie) (level mode == 1)

pub supervisor_entered-mode : (mode : Mode) (cause : Cause) (tval pc : ℕ) (r : Registers) → not (level mode == 3) ≡ true → supervisor_previous (supervisor_entered mode cause tval pc r).kept.mstatus ≡ mode
unfolding supervisor_entered written changed_register asked_value with_kept kept_in kept_from legal
supervisor_entered-mode mode cause tval pc r below =
    ap (λ x. if not (x == 0) then Mode.S else Mode.U) (legal_status-spp (supervisor_stacked mode r.kept.mstatus) ∙ supervisor_stacked-field mode r.kept.mstatus) ∙ below_machine mode below

-- ---- debug mode

-- traps and returns leave the debug registers as they are
pub machine_entered-debug : (mode : Mode) (cause : Cause) (tval pc : ℕ) (r : Registers) → (machine_entered mode cause tval pc r).debug ≡ r.debug
unfolding machine_entered changed_register
machine_entered-debug mode cause tval pc r =
    written-debug csr_mtval _ _ refl ∙ written-debug csr_mcause _ _ refl ∙ written-debug csr_mepc _ _ refl ∙ written-debug csr_mstatus _ r refl

pub supervisor_entered-debug : (mode : Mode) (cause : Cause) (tval pc : ℕ) (r : Registers) → (supervisor_entered mode cause tval pc r).debug ≡ r.debug
unfolding supervisor_entered changed_register
supervisor_entered-debug mode cause tval pc r =
    written-debug csr_stval _ _ refl ∙ written-debug csr_scause _ _ refl ∙ written-debug csr_sepc _ _ refl ∙ written-debug csr_mstatus _ r refl

pub status-debug : (v : ℕ) (r : Registers) → (written csr_mstatus v r).debug ≡ r.debug
unfolding changed_register
status-debug v r = written-debug csr_mstatus v r refl
