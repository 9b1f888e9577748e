-- That the remainder of machine words, with its sign, is the dividend less the quotient times the divisor.
use Rattle.std.proofs.Common.{◌≡◌, ℕ, ◌^◌, ◌<◌, ◌≢◌, ℤ, pos, negsuc, ◌-ℤ◌, ◌*ℤ◌, FitsSigned, to_z, of_z, w32, w64, sym, ◌∙◌, ap, ap₂, arith}
use mir.Val.{bits}
use Rattle.std.specs.Int.{Width}
use Rattle.std.specs.Prelude.{◌==◌, if◌then◌else◌, int_div, int_rem}
use Rattle.std.proofs.lemmas.Int.{ints, to_z-of_z, quot-rem}
use Rattle.rv_alu.specs.Arithmetic.{modulo, remainder, signed}

-- what is left of z after the quotient times the divisor
rest_is : (z d : ℤ) → z -ℤ int_div z d *ℤ d ≡ int_rem z d
rest_is z d = let whole = quot-rem z d in omega (arith, ints)

pub signed_64 : (a : ℕ) → a < 2 ^ 64 → signed 64 a ≡ to_z w64 a
signed_64 a within = grind (arith, ints)

pub signed_32 : (a : ℕ) → a < 2 ^ 32 → signed 32 a ≡ to_z w32 a
signed_32 a within = grind (arith, ints)

pub modulo_64 : (r : ℤ) → FitsSigned w64 r → of_z w64 r ≡ modulo 64 r
modulo_64 (pos n) fits = omega (arith, ints)
modulo_64 (negsuc n) fits = omega (arith, ints)

pub modulo_32 : (r : ℤ) → FitsSigned w32 r → of_z w32 r ≡ modulo 32 r
modulo_32 (pos n) fits = omega (arith, ints)
modulo_32 (negsuc n) fits = omega (arith, ints)

if_false : (b x y : ℕ) → b ≢ 0 → (if b == 0 then x else y) ≡ y
if_false b x y nonzero = grind arith

-- the remainder that the code computes at a width, from the signed numbers x and y that a and b stand for
pub remainder_at : (w : Width) → ((n : ℕ) → n < 2 ^ bits w → signed (bits w) n ≡ to_z w n) → ((z : ℤ) → FitsSigned w z → of_z w z ≡ modulo (bits w) z) → (a b : ℕ) (x y r : ℤ) (v : ℕ) → a < 2 ^ bits w → b < 2 ^ bits w → b ≢ 0 → x ≡ to_z w a → y ≡ to_z w b → r ≡ int_rem (to_z w (of_z w x)) (to_z w (of_z w y)) → FitsSigned w x → FitsSigned w y → FitsSigned w r → v ≡ of_z w (to_z w (of_z w r)) → v ≡ remainder (bits w) a b
remainder_at w signed_is modulo_is a b x y r v a_fits b_fits nonzero x_is y_is r_is x_fits y_fits r_fits v_is =
    let x_whole : x ≡ signed (bits w) a = x_is ∙ sym (signed_is a a_fits) in
    let y_whole : y ≡ signed (bits w) b = y_is ∙ sym (signed_is b b_fits) in
    let r_whole : r ≡ int_rem (signed (bits w) a) (signed (bits w) b) = r_is ∙ ap₂ int_rem (to_z-of_z w x x_fits ∙ x_whole) (to_z-of_z w y y_fits ∙ y_whole) in
    let v_whole : v ≡ modulo (bits w) r = v_is ∙ ap (of_z w) (to_z-of_z w r r_fits) ∙ modulo_is r r_fits in
    let value : v ≡ modulo (bits w) (signed (bits w) a -ℤ int_div (signed (bits w) a) (signed (bits w) b) *ℤ signed (bits w) b) = v_whole ∙ ap (modulo (bits w)) (r_whole ∙ sym (rest_is (signed (bits w) a) (signed (bits w) b))) in
    value ∙ sym (if_false b a _ nonzero)
