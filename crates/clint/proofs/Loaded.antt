-- What a register answers to a load has as many bytes as were asked for.
use Rattle.std.proofs.Common.{◌≡◌, ℕ, ◌^◌, ◌<◌, ◌≤◌, ◌==◌, Bool, true, false, if◌then◌else◌, Option, Some, None, unwrap_or, refl, sym, subst, arith}
use Rattle.std.specs.Option.{option_map}
use Rattle.std.proofs.lemmas.Bool.{eqb-true}
use Rattle.rv_alu.proofs.Bytes.{some_power}
use Rattle.device_rows.specs.Rows.{row_at}
use Rattle.device_rows.proofs.Places.{at_place}
use Rattle.clint.specs.State.{ClintRegisters, IsFit, hart_count}
use Rattle.clint.specs.Access.{loaded, value_of}
use Rattle.clint.specs.Layout.{register_at}
use Rattle.clint.specs.declared.registers.Register.TheVariants.{Msip, Mtimecmp, Mtime}

software_fits : (r : ClintRegisters) → IsFit r → (o : Option ℕ) → unwrap_or (option_map (value_of r) (option_map (λ h. Msip h) o)) 0 < 256 ^ 4
software_fits r fit None = omega arith
software_fits r fit (Some h) = let small = at_place (λ x. x ≤ 1) r.msip h fit.bits (omega arith) in omega (arith, small)

compare_fits : (r : ClintRegisters) → IsFit r → (o : Option ℕ) → unwrap_or (option_map (value_of r) (option_map (λ h. Mtimecmp h) o)) 0 < 256 ^ 8
compare_fits r fit None = omega arith
compare_fits r fit (Some h) = at_place (λ x. x < 2 ^ 64) r.mtimecmp h fit.compares (omega arith)

timer_fits : (r : ClintRegisters) → IsFit r → (o : Option ℕ) (is_time : Bool) → unwrap_or (option_map (value_of r) (if is_time then Some Mtime else option_map (λ h. Mtimecmp h) o)) 0 < 256 ^ 8
timer_fits r fit o true = fit.time
timer_fits r fit o false = compare_fits r fit o

by_size : (r : ClintRegisters) → IsFit r → (size : ℕ) (four eight is_time : Bool) (m c : Option ℕ) → (size == 4) ≡ four → (size == 8) ≡ eight → unwrap_or (option_map (value_of r) (if four then option_map (λ h. Msip h) m else if eight then (if is_time then Some Mtime else option_map (λ h. Mtimecmp h) c) else None)) 0 < 256 ^ size
by_size r fit size true eight is_time m c is4 is8 = subst (λ n. unwrap_or (option_map (value_of r) (option_map (λ h. Msip h) m)) 0 < 256 ^ n) (sym (eqb-true size 4 is4)) (software_fits r fit m)
by_size r fit size false true is_time m c is4 is8 = subst (λ n. unwrap_or (option_map (value_of r) (if is_time then Some Mtime else option_map (λ h. Mtimecmp h) c)) 0 < 256 ^ n) (sym (eqb-true size 8 is8)) (timer_fits r fit c is_time)
by_size r fit size false false is_time m c is4 is8 = some_power size

pub loads_fit : (r : ClintRegisters) → IsFit r → (off size : ℕ) → unwrap_or (loaded r off size) 0 < 256 ^ size
unfolding loaded register_at
loads_fit r fit off size = by_size r fit size (size == 4) (size == 8) (off == 0xbff8) (row_at 0 4 (hart_count r) off) (row_at 0x4000 8 (hart_count r) off) refl refl
