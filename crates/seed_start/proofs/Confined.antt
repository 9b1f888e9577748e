-- Each drawn instruction stays away from the program, which ends before the data.
use Rattle.std.specs.Prelude.{pos}
use Rattle.std.proofs.Common.{◌≡◌, ℕ, zero, suc, ◌*◌, ◌<◌, ◌==◌, Bool, true, false, cond, List, [], ◌∷◌, ◌++◌, length, refl, arith, length-append}
use Rattle.byteorder.specs.Endian.{little_bytes}
use Rattle.rv_decode.specs.declared.Insn.{Insn}
use Rattle.rv_decode.specs.Encode.{encoded}
use Rattle.seed_start.specs.Seed.{closing, drawn, drawn_insn, drawn_insns, image_of, opening, program_of, register, state_of}
use Rattle.seed_start.specs.Laws.{DrawnAreConfined, EndsBeforeData, IsConfined, IsDrawnRegister}
use Rattle.seed_start.specs.Laws.IsConfined.{add, xor, mul, addi, ld, sd, sb, amoadd}

-- whichever of the eight kinds it is
confined_by : (a b c j : ℕ) → IsDrawnRegister c → j < 128 → (is_add is_xor is_mul is_addi is_sd is_ld is_amo : Bool) →
    IsConfined (cond is_add (Insn.Add c a b) (cond is_xor (Insn.Xor c a b) (cond is_mul (Insn.Mul c a b) (cond is_addi (Insn.Addi c a (pos j))
    (cond is_sd (Insn.Sd 29 a (pos (8 * j))) (cond is_ld (Insn.Ld c 29 (pos (8 * j))) (cond is_amo (Insn.AmoaddD c 29 b) (Insn.Sb 30 a (pos 0)))))))))
confined_by a b c j low few true x m i s l o = add c a b low
confined_by a b c j low few false true m i s l o = xor c a b low
confined_by a b c j low few false false true i s l o = mul c a b low
confined_by a b c j low few false false false true s l o = addi c a (pos j) low
confined_by a b c j low few false false false false true l o = sd a (8 * j) (omega arith)
confined_by a b c j low few false false false false false true o = ld c 29 (pos (8 * j)) low
confined_by a b c j low few false false false false false false true = amoadd c b low
confined_by a b c j low few false false false false false false false = sb a

is_drawn : (s place : ℕ) → IsDrawnRegister (register s place)
is_drawn s place = (omega arith, omega arith)

pub drawn_confined : DrawnAreConfined
drawn_confined s =
    let kind : ℕ = drawn s 32 8 in
    confined_by (register s 8) (register s 16) (register s 24) (drawn s 40 128) (is_drawn s 24) (omega arith) (kind == 0) (kind == 1) (kind == 2) (kind == 3) (kind == 4) (kind == 5) (kind == 6)

-- ---- the length of the program

image_length : (insns : List Insn) → length (image_of insns) ≡ 4 * length insns
unfolding image_of
image_length [] = refl
image_length (insn ∷ rest) = omega (arith, length-append (little_bytes 4 (encoded insn)) (image_of rest), image_length rest)

drawn_length : (seed n : ℕ) → length (drawn_insns seed n) ≡ n
unfolding drawn_insns
drawn_length seed zero = refl
drawn_length seed (suc n) = omega (arith, length-append (drawn_insns seed n) (drawn_insn (state_of seed n) ∷ []), drawn_length seed n)

pub ends_before_data : EndsBeforeData
ends_before_data seed =
    omega (arith, image_length (program_of seed), length-append opening (drawn_insns seed 200 ++ closing), length-append (drawn_insns seed 200) closing, drawn_length seed 200)
