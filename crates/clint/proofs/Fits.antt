-- What every change of the registers keeps.
use Rattle.std.proofs.Common.{◌≡◌, ℕ, ◌-◌, ◌%◌, ◌^◌, ◌<◌, ◌≤◌, ◌==◌, Bool, true, false, if◌then◌else◌, Option, Some, None, length, replicate, refl, sym, subst, ◌∙◌, arith, lit<}
use Rattle.std.specs.Option.{option_map, option_map_or}
use Rattle.std.specs.Prelude.{slice_set}
use Rattle.std.proofs.lemmas.Bool.{eqb-true}
use Rattle.std.proofs.lemmas.List.{length-replicate, length-set}
use Rattle.std.proofs.lemmas.List.Elements.{All-replicate, All-set}
use Rattle.rv_alu.specs.Bits.{low_bytes}
use Rattle.rv_alu.proofs.Bytes.{bytes_fit}
use Rattle.device_rows.specs.Rows.{row_at}
use Rattle.clint.specs.State.{ClintRegisters, IsFit, hart_count, reset_registers, ticked}
use Rattle.clint.specs.Access.{stored, written}
use Rattle.clint.specs.Layout.{register_at}
use Rattle.clint.specs.declared.registers.Register.TheVariants.{Msip, Mtimecmp, Mtime}

software_fits : (r : ClintRegisters) → IsFit r → (v : ℕ) (o : Option ℕ) → IsFit (option_map_or (written r v) (option_map (λ h. Msip h) o) r)
software_fits r fit v None = fit
software_fits r fit v (Some h) =
    let long : length (slice_set r.msip h (v % 2)) ≡ hart_count r = length-set r.msip h (v % 2) in
    record {
      some = subst (λ (n : ℕ). 0 < n) (sym long) fit.some;
      most = subst (λ (n : ℕ). n ≤ 8) (sym long) fit.most;
      same = fit.same ∙ sym long;
      bits = All-set (λ x. x ≤ 1) r.msip h (v % 2) (omega arith) fit.bits;
      compares = fit.compares;
      time = fit.time;
    }

compare_fits : (r : ClintRegisters) → IsFit r → (v : ℕ) → v < 2 ^ 64 → (o : Option ℕ) → IsFit (option_map_or (written r v) (option_map (λ h. Mtimecmp h) o) r)
compare_fits r fit v below None = fit
compare_fits r fit v below (Some h) = record {
  some = fit.some;
  most = fit.most;
  same = length-set r.mtimecmp h v ∙ fit.same;
  bits = fit.bits;
  compares = All-set (λ x. x < 2 ^ 64) r.mtimecmp h v below fit.compares;
  time = fit.time;
}

-- the registers at another time
time_fits : (r : ClintRegisters) → IsFit r → (v : ℕ) → v < 2 ^ 64 → IsFit (record r { mtime = v })
time_fits r fit v below = record { some = fit.some; most = fit.most; same = fit.same; bits = fit.bits; compares = fit.compares; time = below }

timer_fits : (r : ClintRegisters) → IsFit r → (v : ℕ) → v < 2 ^ 64 → (o : Option ℕ) (is_time : Bool) → IsFit (option_map_or (written r v) (if is_time then Some Mtime else option_map (λ h. Mtimecmp h) o) r)
timer_fits r fit v below o true = time_fits r fit v below
timer_fits r fit v below o false = compare_fits r fit v below o

eight_below : (size value : ℕ) → (size == 8) ≡ true → low_bytes size value < 2 ^ 64
eight_below size value is = subst (λ (n : ℕ). low_bytes size value < 256 ^ n) (eqb-true size 8 is) (bytes_fit size value)

by_size : (r : ClintRegisters) → IsFit r → (size value : ℕ) (four eight is_time : Bool) (m c : Option ℕ) → (size == 8) ≡ eight → IsFit (option_map_or (written r (low_bytes size value)) (if four then option_map (λ h. Msip h) m else if eight then (if is_time then Some Mtime else option_map (λ h. Mtimecmp h) c) else None) r)
by_size r fit size value true eight is_time m c is = software_fits r fit (low_bytes size value) m
by_size r fit size value false true is_time m c is = timer_fits r fit (low_bytes size value) (eight_below size value is) c is_time
by_size r fit size value false false is_time m c is = fit

pub stores_stay : (r : ClintRegisters) → IsFit r → (off size value : ℕ) → IsFit (stored r off size value)
unfolding stored register_at
stores_stay r fit off size value = by_size r fit size value (size == 4) (size == 8) (off == 0xbff8) (row_at 0 4 (hart_count r) off) (row_at 0x4000 8 (hart_count r) off) refl

pub ticks_stay : (r : ClintRegisters) → IsFit r → IsFit (ticked r)
ticks_stay r fit = time_fits r fit _ (omega arith)

pub reset_harts : (harts : ℕ) → hart_count (reset_registers harts) ≡ harts
unfolding reset_registers
reset_harts harts = length-replicate {A = ℕ} harts 0

pub reset_fits : (harts : ℕ) → 0 < harts → harts ≤ 8 → IsFit (reset_registers harts)
unfolding reset_registers
reset_fits harts some most =
    let long : length {A = ℕ} (replicate harts 0) ≡ harts = length-replicate {A = ℕ} harts 0 in
    record {
      some = subst (λ (n : ℕ). 0 < n) (sym long) some;
      most = subst (λ (n : ℕ). n ≤ 8) (sym long) most;
      same = length-replicate {A = ℕ} harts (2 ^ 64 - 1) ∙ sym long;
      bits = All-replicate (λ x. x ≤ 1) harts 0 (omega arith);
      compares = All-replicate (λ x. x < 2 ^ 64) harts (2 ^ 64 - 1) (lit< tt);
      time = lit< tt;
    }
