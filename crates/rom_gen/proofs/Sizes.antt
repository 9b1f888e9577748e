-- How many words the wants of a list have: few, and as many wherever the pool stands.
use Rattle.std.specs.Prelude.{pos}
use Rattle.std.proofs.Common.{◌≡◌, ℕ, ◌+◌, ◌*◌, ◌≤◌, Bool, true, false, cond, List, [], ◌∷◌, ◌++◌, length, refl, ap, arith, nat_le}
use Rattle.rv_decode.specs.declared.Insn.{Insn}
use Rattle.rom_gen.specs.Items.{Csr, CsrImm, Put, Spelling, word_count}
use Rattle.rom_gen.specs.Wants.{Want, Reg, Control, high_part, is_short, is_small, low_part, placed, put_insns, want_items}

-- a layout in which a want has at most three words, as many at every offset
pub record IsSized (spell : ℕ → Want → List Spelling) : Type 0 where
  pub short : (off : ℕ) (w : Want) → word_count (spell off w) ≤ 3
  pub fixed : (off : ℕ) (w : Want) → word_count (spell off w) ≡ word_count (spell 0 w)

count_append : (a c : List Spelling) → word_count (a ++ c) ≡ word_count a + word_count c
count_append [] c = omega arith
count_append (s ∷ a) c = let k = count_append a c in omega arith

pub placed_short : {spell : ℕ → Want → List Spelling} (values : Want → List ℕ) → IsSized spell → (off : ℕ) (ws : List Want) → word_count (placed spell values off ws) ≤ 3 * length ws
placed_short values sized off [] = omega arith
placed_short {spell = spell} values sized off (w ∷ ws) =
    let next : ℕ = off + 8 * length (values w) in
    omega (arith, count_append (spell off w) (placed spell values next ws), sized.short off w, placed_short values sized next ws)

pub placed_fixed : {spell : ℕ → Want → List Spelling} (values : Want → List ℕ) → IsSized spell → (off off' : ℕ) (ws : List Want) → word_count (placed spell values off ws) ≡ word_count (placed spell values off' ws)
placed_fixed values sized off off' [] = refl
placed_fixed {spell = spell} values sized off off' (w ∷ ws) =
    let next : ℕ = off + 8 * length (values w) in
    let next' : ℕ = off' + 8 * length (values w) in
    omega (arith, count_append (spell off w) (placed spell values next ws), count_append (spell off' w) (placed spell values next' ws), sized.fixed off w, sized.fixed off' w, placed_fixed values sized next next' ws)

pub put_short : (off r v : ℕ) (b c : Bool) → length (cond b (Insn.Addi r 0 (low_part v) ∷ []) (cond c (Insn.Lui r (high_part v) ∷ Insn.Addiw r r (low_part v) ∷ []) (Insn.Ld r 1 (pos off) ∷ []))) ≤ 2
put_short off r v true c = omega arith
put_short off r v false true = omega arith
put_short off r v false false = omega arith

pub put_fixed : (off off' r v : ℕ) (b c : Bool) →
    length (cond b (Insn.Addi r 0 (low_part v) ∷ []) (cond c (Insn.Lui r (high_part v) ∷ Insn.Addiw r r (low_part v) ∷ []) (Insn.Ld r 1 (pos off) ∷ []))) ≡ length (cond b (Insn.Addi r 0 (low_part v) ∷ []) (cond c (Insn.Lui r (high_part v) ∷ Insn.Addiw r r (low_part v) ∷ []) (Insn.Ld r 1 (pos off') ∷ [])))
put_fixed off off' r v true c = refl
put_fixed off off' r v false true = refl
put_fixed off off' r v false false = refl

control_of : Bool → ℕ → ℕ → ℕ → List Spelling
control_of d off number v = cond d (record { item = CsrImm number v; insns = Insn.Csrrwi 0 v number ∷ [] } ∷ []) (record { item = Put 2 v; insns = put_insns off 2 v } ∷ record { item = Csr number 2; insns = Insn.Csrrw 0 2 number ∷ [] } ∷ [])

control_short : (d : Bool) (off number v : ℕ) → word_count (control_of d off number v) ≤ 3
unfolding control_of
control_short true off number v = omega arith
control_short false off number v = let k = put_short off 2 v (is_small v) (is_short v) in omega arith

control_fixed : (d : Bool) (off number v : ℕ) → word_count (control_of d off number v) ≡ word_count (control_of d 0 number v)
unfolding control_of
control_fixed true off number v = refl
control_fixed false off number v = ap (λ n. n + (1 + 0)) (put_fixed off 0 2 v (is_small v) (is_short v))

want_short : (off : ℕ) (w : Want) → word_count (want_items off w) ≤ 3
unfolding control_of
want_short off (Reg r v) = let k = put_short off r v (is_small v) (is_short v) in omega arith
want_short off (Control number v) = control_short (nat_le v 31) off number v

want_fixed : (off : ℕ) (w : Want) → word_count (want_items off w) ≡ word_count (want_items 0 w)
unfolding control_of
want_fixed off (Reg r v) = ap (λ n. n + 0) (put_fixed off 0 r v (is_small v) (is_short v))
want_fixed off (Control number v) = control_fixed (nat_le v 31) off number v

pub want_sized : IsSized want_items
want_sized = record { short = want_short; fixed = want_fixed }
