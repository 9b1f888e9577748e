-- What a register answers to a load has as many bytes as were asked for.
use Rattle.std.proofs.Common.{◌≡◌, ℕ, ◌+◌, ◌*◌, ◌^◌, ◌<◌, ◌≤◌, ◌==◌, ◌&&◌, Bool, true, false, if◌then◌else◌, length, Some, None, unwrap_or, slice_index, refl, sym, subst, arith}
use Rattle.std.specs.Option.{option_map}
use Rattle.std.proofs.lemmas.Bool.{and_parts, eqb-true}
use Rattle.rv_alu.proofs.Bytes.{some_power}
use Rattle.device_rows.proofs.Places.{at_place}
use Rattle.console.specs.State.{ConsoleRegisters, IsFit, is_waiting}
use Rattle.console.specs.Access.{loaded, value_of}
use Rattle.console.specs.Layout.{register_at}
use Rattle.console.specs.declared.registers.Register.TheVariants.{Data, Status, Ctrl, TxAddr, TxLen}

status_small : (b : Bool) (n : ℕ) → n ≤ 16 → 2 + (if b then 1 else 0) + 256 * n < 256 ^ 4
status_small true n most = omega (arith, most)
status_small false n most = omega (arith, most)

size_is : (a : Bool) (size k : ℕ) → (a && (size == k)) ≡ true → k ≡ size
size_is a size k is = sym (eqb-true size k (and_parts a (size == k) is).1)

by_place : (r : ConsoleRegisters) → IsFit r → (size : ℕ) (a b c d e : Bool) (is_byte status ctrl address len : Bool) → (a && (size == 1)) ≡ is_byte → (b && (size == 4)) ≡ status → (c && (size == 4)) ≡ ctrl → (d && (size == 8)) ≡ address → (e && (size == 4)) ≡ len → unwrap_or (option_map (value_of r) (if is_byte then Some Data else if status then Some Status else if ctrl then Some Ctrl else if address then Some TxAddr else if len then Some TxLen else None)) 0 < 256 ^ size
by_place r fit size a b c d e true status ctrl address len named is_status is_ctrl is_address is_len = subst (λ n. slice_index r.queue 0 < 256 ^ n) (size_is a size 1 named) (at_place (λ x. x < 256) r.queue 0 fit.bytes (omega arith))
by_place r fit size a b c d e false true ctrl address len named is_status is_ctrl is_address is_len = subst (λ n. value_of r Status < 256 ^ n) (size_is b size 4 is_status) (status_small (is_waiting r) (length r.queue) fit.room)
by_place r fit size a b c d e false false true address len named is_status is_ctrl is_address is_len = subst (λ n. r.ctrl < 256 ^ n) (size_is c size 4 is_ctrl) (let small = fit.ctrl in omega (arith, small))
by_place r fit size a b c d e false false false true len named is_status is_ctrl is_address is_len = subst (λ n. r.txaddr < 256 ^ n) (size_is d size 8 is_address) fit.txaddr
by_place r fit size a b c d e false false false false true named is_status is_ctrl is_address is_len = some_power size
by_place r fit size a b c d e false false false false false named is_status is_ctrl is_address is_len = some_power size

pub loads_fit : (r : ConsoleRegisters) → IsFit r → (off size : ℕ) → unwrap_or (loaded r off size) 0 < 256 ^ size
unfolding loaded register_at
loads_fit r fit off size = by_place r fit size (off == 0) (off == 4) (off == 8) (off == 0x10) (off == 0x18) _ _ _ _ _ refl refl refl refl refl
