-- Powers of 256, and the low bytes of a number.
use Rattle.std.proofs.Common.{◌≡◌, ℕ, zero, suc, ◌+◌, ◌*◌, ◌%◌, ◌^◌, ◌<◌, ◌≤◌, refl, ap, ◌∙◌, arith}
use Rattle.std.proofs.lemmas.Nat.{pow-add}
use Rattle.std.proofs.Math.Nat.{div-one, mod-lt, pow-le-pow_right}
use Rattle.rv_alu.specs.Arithmetic.{bits_of}
use Rattle.rv_alu.specs.Bits.{low_bytes}

-- numbers of n bytes: there are some
pub some_power : (n : ℕ) → 0 < 256 ^ n
some_power zero = omega arith
some_power (suc n) = let less = some_power n in omega (arith, less)

-- n bytes have 8 * n bits
byte_powers : (n : ℕ) → 2 ^ (8 * n) ≡ 256 ^ n
byte_powers zero = refl
byte_powers (suc n) =
    let more : 8 * suc n ≡ 8 + 8 * n = omega arith in
    ap (λ (k : ℕ). 2 ^ k) more ∙ pow-add 2 8 (8 * n) ∙ ap (λ (x : ℕ). 256 * x) (byte_powers n) ∙ omega arith

-- the low bytes are a field of bits
pub field_of_bytes : (size value : ℕ) → bits_of value 0 (8 * size) ≡ low_bytes size value
field_of_bytes size value = ap (λ (x : ℕ). x % 2 ^ (8 * size)) (div-one value) ∙ ap (λ (n : ℕ). value % n) (byte_powers size)

-- they are below 256 ^ size
pub bytes_fit : (size value : ℕ) → low_bytes size value < 256 ^ size
bytes_fit size value = mod-lt value (some_power size)

-- 8 bytes or more hold a word
pub word_fits : (size value : ℕ) → 8 ≤ size → value < 2 ^ 64 → value < 256 ^ size
word_fits size value most within =
    let wide : 256 ^ 8 ≤ 256 ^ size = pow-le-pow_right (omega arith) most in
    omega arith
