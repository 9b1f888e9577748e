-- What every change of the registers keeps: they stay well formed, and serve as many contexts.
use Rattle.std.proofs.Common.{◌≡◌, ℕ, ◌-◌, ◌*◌, ◌%◌, ◌^◌, ◌<◌, ◌≤◌, Bool, true, false, if◌then◌else◌, Option, Some, None, length, replicate, bit_and, bit_or, refl, sym, ap, subst, ◌∙◌, arith}
use Rattle.std.specs.Option.{option_map_or}
use Rattle.std.specs.Prelude.{slice_set}
use Rattle.std.proofs.lemmas.List.{length-replicate, length-set}
use Rattle.std.proofs.lemmas.List.Elements.{All-replicate, All-set}
use Rattle.std.proofs.lemmas.Nat.{and_assoc, and_comm}
use Rattle.rv_alu.specs.Bits.{low_bytes}
use Rattle.plic.specs.State.{IsFit, IsWithinSources, PlicRegisters, context_count, reset_registers, source_bits}
use Rattle.plic.specs.Access.{after_load, after_reading, stored, written}
use Rattle.plic.specs.Claims.{claimed, completed, preferred, with_served}
use Rattle.plic.specs.Layout.{register_at}
use Rattle.plic.specs.declared.registers.Register.{Register}
use Rattle.plic.specs.declared.registers.Register.TheVariants.{Priority, Pending, Enable, Threshold, Claim}
use Rattle.plic.proofs.Within.{within_and, within_or_first, within_or_second}

pub record Stays (before after : PlicRegisters) : Type 0 where
  pub fit : IsFit after
  pub contexts : context_count after ≡ context_count before

same : (r : PlicRegisters) → IsFit r → Stays r r
same r fit = record { fit = fit; contexts = refl }

-- other sources are served
marked : (r : PlicRegisters) → IsFit r → (marks : ℕ) → IsWithinSources marks → Stays r (record r { served = marks })
marked r fit marks within = record {
  fit = record { sources = fit.sources; some = fit.some; most = fit.most; same = fit.same; priorities = fit.priorities; enables = fit.enables; thresholds = fit.thresholds; served = within };
  contexts = refl;
}

-- ---- loads

claim_cases : (r : PlicRegisters) → IsFit r → (first second : Bool) → Stays r (with_served (if second then 2 else (if first then 1 else 0)) r)
unfolding with_served
claim_cases r fit first true = marked r fit (bit_or r.served 4) (within_or_second r.served fit.served)
claim_cases r fit true false = marked r fit (bit_or r.served 2) (within_or_first r.served fit.served)
claim_cases r fit false false = same r fit

claims_fit : (r : PlicRegisters) → IsFit r → (c levels : ℕ) → Stays r (with_served (claimed r c levels) r)
unfolding claimed preferred
claims_fit r fit c levels = claim_cases r fit _ _

read_fits : (r : PlicRegisters) → IsFit r → (levels : ℕ) (reg : Register) → Stays r (after_reading r levels reg)
read_fits r fit levels (Priority s) = same r fit
read_fits r fit levels Pending = same r fit
read_fits r fit levels (Enable c) = same r fit
read_fits r fit levels (Threshold c) = same r fit
read_fits r fit levels (Claim c) = claims_fit r fit c levels

found_read : (r : PlicRegisters) → IsFit r → (levels : ℕ) (o : Option Register) → Stays r (option_map_or (after_reading r levels) o r)
found_read r fit levels None = same r fit
found_read r fit levels (Some reg) = read_fits r fit levels reg

pub loads_stay : (r : PlicRegisters) → IsFit r → (off size levels : ℕ) → Stays r (after_load r off size levels)
unfolding after_load
loads_stay r fit off size levels = found_read r fit levels (register_at (context_count r) off size)

-- ---- stores

-- of any set of sources a part is one
within_part : (x m : ℕ) → IsWithinSources x → IsWithinSources (bit_and x m)
within_part x m within = ap (λ (y : ℕ). bit_and y source_bits) (and_comm x m) ∙ and_assoc source_bits m x ∙ ap (bit_and m) within ∙ and_comm m x

complete_cases : (r : PlicRegisters) → IsFit r → (b : Bool) (marks : ℕ) → Stays r (if b then record r { served = bit_and r.served marks } else r)
complete_cases r fit true marks = marked r fit (bit_and r.served marks) (within_part r.served marks fit.served)
complete_cases r fit false marks = same r fit

completes_fit : (r : PlicRegisters) → IsFit r → (c s : ℕ) → Stays r (completed c s r)
unfolding completed
completes_fit r fit c s = complete_cases r fit _ (source_bits - 2 ^ s)

written_fits : (r : PlicRegisters) → IsFit r → (v : ℕ) (reg : Register) → Stays r (written r v reg)
written_fits r fit v (Priority s) = record {
  fit = record { sources = length-set r.priority (s - 1) (v % 8) ∙ fit.sources; some = fit.some; most = fit.most; same = fit.same; priorities = All-set (λ x. x ≤ 7) r.priority (s - 1) (v % 8) (omega arith) fit.priorities; enables = fit.enables; thresholds = fit.thresholds; served = fit.served };
  contexts = refl;
}
written_fits r fit v Pending = same r fit
written_fits r fit v (Enable c) =
    let long : length (slice_set r.enable c (bit_and v source_bits)) ≡ context_count r = length-set r.enable c (bit_and v source_bits) in
    record {
      fit = record { sources = fit.sources; some = subst (λ (n : ℕ). 2 ≤ n) (sym long) fit.some; most = subst (λ (n : ℕ). n ≤ 16) (sym long) fit.most; same = fit.same ∙ sym long; priorities = fit.priorities; enables = All-set IsWithinSources r.enable c (bit_and v source_bits) (within_and v source_bits refl) fit.enables; thresholds = fit.thresholds; served = fit.served };
      contexts = long;
    }
written_fits r fit v (Threshold c) = record {
  fit = record { sources = fit.sources; some = fit.some; most = fit.most; same = length-set r.threshold c (v % 8) ∙ fit.same; priorities = fit.priorities; enables = fit.enables; thresholds = All-set (λ x. x ≤ 7) r.threshold c (v % 8) (omega arith) fit.thresholds; served = fit.served };
  contexts = refl;
}
written_fits r fit v (Claim c) = completes_fit r fit c v

found_written : (r : PlicRegisters) → IsFit r → (v : ℕ) (o : Option Register) → Stays r (option_map_or (written r v) o r)
found_written r fit v None = same r fit
found_written r fit v (Some reg) = written_fits r fit v reg

pub stores_stay : (r : PlicRegisters) → IsFit r → (off size value : ℕ) → Stays r (stored r off size value)
unfolding stored
stores_stay r fit off size value = found_written r fit (low_bytes size value) (register_at (context_count r) off size)

-- ---- reset

pub reset_contexts : (harts : ℕ) → context_count (reset_registers harts) ≡ 2 * harts
unfolding reset_registers
reset_contexts harts = length-replicate {A = ℕ} (2 * harts) 0

pub reset_fits : (harts : ℕ) → 0 < harts → harts ≤ 8 → IsFit (reset_registers harts)
unfolding reset_registers
reset_fits harts some most =
    let long : length {A = ℕ} (replicate (2 * harts) 0) ≡ 2 * harts = length-replicate {A = ℕ} (2 * harts) 0 in
    record {
      sources = refl;
      some = subst (λ (n : ℕ). 2 ≤ n) (sym long) (omega arith);
      most = subst (λ (n : ℕ). n ≤ 16) (sym long) (omega arith);
      same = refl;
      priorities = All-replicate (λ x. x ≤ 7) 2 0 (omega arith);
      enables = All-replicate IsWithinSources (2 * harts) 0 refl;
      thresholds = All-replicate (λ x. x ≤ 7) (2 * harts) 0 (omega arith);
      served = refl;
    }
