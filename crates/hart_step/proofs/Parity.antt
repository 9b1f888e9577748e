-- The parity of the pc.
use Rattle.std.proofs.Common.{◌≡◌, ℕ, ◌/◌, ◌%◌, ℤ, pos, negsuc, ◌+ℤ◌, ap, ◌∙◌, arith}
use Rattle.std.proofs.lemmas.Int.{ints}
use Rattle.rv_alu.specs.Arithmetic.{modulo}

-- twice a whole number is even modulo 2 ^ 64
even_twice : (m : ℤ) → modulo 64 (m +ℤ m) % 2 ≡ 0
even_twice (pos a) = omega arith
even_twice (negsuc a) = omega arith

-- a number whose lowest bit is zero is twice a number
twice_half : (z : ℤ) → modulo 1 z ≡ 0 → (half : ℤ) × (z ≡ half +ℤ half)
twice_half (pos a) even = (pos (a / 2), omega (arith, ints))
twice_half (negsuc a) even = (negsuc (a / 2), omega (arith, ints))

-- an even address and an even offset give an even address
pub even_offset : (at : ℕ) (z : ℤ) → at % 2 ≡ 0 → modulo 1 z ≡ 0 → modulo 64 (pos at +ℤ z) % 2 ≡ 0
even_offset at z even low =
    let h : (half : ℤ) × (z ≡ half +ℤ half) = twice_half z low in
    let m : ℤ = pos (at / 2) +ℤ h.0 in
    let same : pos at +ℤ z ≡ m +ℤ m = omega (arith, ints) in
    ap (λ n. modulo 64 n % 2) same ∙ even_twice m
