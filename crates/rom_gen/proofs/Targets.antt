-- The wants of a well-formed hart are good.
use Rattle.std.specs.Prelude.{All, None}
use Rattle.std.proofs.Common.{◌≡◌, ℕ, zero, suc, ◌+◌, ◌%◌, ◌^◌, ◌<◌, ◌≤◌, Bool, true, ◌&&◌, List, [], ◌∷◌, ◌++◌, length, refl, ◌∙◌, arith, nat_lt, lit≤}
use Rattle.std.proofs.lemmas.Bool.{and_parts, ltb-true}
use Rattle.std.proofs.lemmas.Nat.Bits.{and_high_mask}
use Rattle.rv_alu.specs.Modes.{level}
use Rattle.rv_alu.specs.declared.Mode.{Mode}
use Rattle.csr_file.specs.Bits.{dcsr_fixed}
use Rattle.csr_file.specs.Kept.{IsFit, kept_value}
use Rattle.csr_file.specs.Legal.{EachNumber, IsLegal, kept_bits, kept_numbers, legal}
use Rattle.csr_file.specs.Numbers.{csr_dcsr, csr_dpc, is_listed}
use Rattle.csr_file.specs.declared.registers.Registers.{Registers}
use Rattle.csr_file.proofs.FitLaws.{IsFit-numbers}
use Rattle.csr_file.proofs.LegalLaws.{IsLegal-below}
use Rattle.hart_step.specs.declared.hart.Hart.{Hart}
use Rattle.hart_step.specs.Fit.{IsWellFormed}
use Rattle.rom_gen.specs.Items.{is_writable}
use Rattle.rom_gen.specs.HartWants.{controls, number_wants, numbered, registers}
use Rattle.rom_gen.specs.Wants.{Want, Reg, Control}
use Rattle.rom_gen.proofs.Layouts.{AllGood, AllKeep}
use Rattle.rom_gen.proofs.HartBlock.{IsTarget}
use Rattle.rom_gen.proofs.HartWants.{AllControl}

all_open : List ℕ → Bool
all_open [] = true
all_open (number ∷ rest) = (nat_lt number 4096 && is_writable number) && all_open rest

kept_open : all_open kept_numbers ≡ true
unfolding all_open kept_numbers is_writable is_listed
kept_open = refl

numbers_good : (target : Registers) (numbers : List ℕ) → all_open numbers ≡ true → EachNumber (λ number. IsLegal number (kept_value number target)) numbers → AllGood (number_wants target numbers)
unfolding number_wants all_open
numbers_good target [] opens each = tt
numbers_good target (number ∷ rest) opens each =
    let p = and_parts _ _ opens in
    let q = and_parts _ _ p.0 in
    ((ltb-true number 4096 q.0, q.1, IsLegal-below number _ each.0), numbers_good target rest p.1 each.1)

-- the kept values of well-formed registers
pub kept_good : (target : Registers) → IsFit target → AllGood (number_wants target kept_numbers)
kept_good target fit = numbers_good target kept_numbers kept_open (IsFit-numbers target fit)

pub pc_kept : (old pc : ℕ) → pc < 2 ^ 64 → pc % 2 ≡ 0 → legal csr_dpc old pc ≡ pc
unfolding legal kept_bits
pc_kept old pc fits is_even = and_high_mask 64 1 (lit≤ tt) pc fits ∙ omega arith

good_append : (a c : List Want) → AllGood a → AllGood c → AllGood (a ++ c)
good_append [] c first second = second
good_append (w ∷ a) c first second = (first.0, good_append a c first.1 second)

keep_append : (a c : List Want) → AllKeep a → AllKeep c → AllKeep (a ++ c)
keep_append [] c first second = second
keep_append (w ∷ a) c first second = (first.0, keep_append a c first.1 second)

control_append : (a c : List Want) → AllControl a → AllControl c → AllControl (a ++ c)
control_append [] c first second = second
control_append (Reg r v ∷ a) c first second = absurd first
control_append (Control number v ∷ a) c first second = control_append a c first second

numbers_only : (target : Registers) (numbers : List ℕ) → AllControl (number_wants target numbers)
unfolding number_wants
numbers_only target [] = tt
numbers_only target (number ∷ rest) = numbers_only target rest

numbers_keep : (target : Registers) (numbers : List ℕ) → AllKeep (number_wants target numbers)
unfolding number_wants
numbers_keep target [] = tt
numbers_keep target (number ∷ rest) = (tt, numbers_keep target rest)

numbered_good : (n i : ℕ) (xs : List ℕ) → 0 < i → i + n ≤ 32 → length xs ≡ 32 → All (λ v. v < 2 ^ 64) xs → AllGood (numbered n i xs)
unfolding numbered
numbered_good zero i xs some most count fits = tt
numbered_good (suc n) i xs some most count fits = ((some, omega arith, fits i 0 (omega arith)), numbered_good n (suc i) xs (omega arith) (omega arith) count fits)

numbered_keep : (n i : ℕ) (xs : List ℕ) → 1 < i → AllKeep (numbered n i xs)
unfolding numbered
numbered_keep zero i xs some = tt
numbered_keep (suc n) i xs some = (some, numbered_keep n (suc i) xs (omega arith))

control_open : (is_writable csr_dcsr ≡ true) × (is_writable csr_dpc ≡ true)
unfolding is_writable is_listed
control_open = (refl, refl)

mode_small : (mode : Mode) → dcsr_fixed + level mode < 2 ^ 64
mode_small Mode.U = omega arith
mode_small Mode.S = omega arith
mode_small Mode.M = omega arith

-- every well-formed hart out of debug mode
pub is_target : (target : Hart) → IsWellFormed target → target.csrs.debug ≡ None → IsTarget target
is_target target fit out =
    let last : List Want = Control csr_dcsr (dcsr_fixed + level target.mode) ∷ Control csr_dpc target.pc ∷ [] in
    let kept : List Want = number_wants target.csrs kept_numbers in
    let good : AllGood (controls target) = good_append kept last (kept_good target.csrs fit.registers) ((omega arith, control_open.0, mode_small target.mode), ((omega arith, control_open.1, fit.pc), tt)) in
    let good_x : AllGood (registers target) = numbered_good 30 2 target.x (omega arith) (omega arith) fit.count fit.values in
    record {
      csrs = fit.registers;
      out = out;
      count = fit.count;
      nought = fit.fit.zero;
      pc = λ old. pc_kept old target.pc fit.pc fit.fit.even;
      good_controls = good;
      only_controls = control_append kept last (numbers_only target.csrs kept_numbers) tt;
      good_registers = good_x;
      good = good_append (controls target) (registers target) good good_x;
      keeps = keep_append (controls target) (registers target) (keep_append kept last (numbers_keep target.csrs kept_numbers) (tt, (tt, tt))) (numbered_keep 30 2 target.x (omega arith));
      last = (omega arith, omega arith, fit.values 1 0 (let k = fit.count in omega arith));
    }
