-- The shorter layout is one.
use Rattle.std.specs.Prelude.{slice_set, pos, negsuc, ◌-ℤ◌}
use Rattle.std.proofs.Common.{◌≡◌, ℕ, ◌+◌, ◌-◌, ◌*◌, ◌/◌, ◌%◌, ◌^◌, ◌<◌, ◌≤◌, ◌⊎◌, inl, inr, ⊎_elim, Bool, true, false, cond, List, [], ◌∷◌, length, refl, sym, ap, ◌∙◌, arith, subst, nat_le}
use Rattle.std.proofs.lemmas.Int.{ints}
use Rattle.std.proofs.lemmas.Bool.{or_cases, ltb-true, leb-true, lt-ltb, le-ltb, cases_lt}
use Rattle.std.proofs.lemmas.List.{get_or-set_same, get_or-set_other, length-set}
use Rattle.byteorder.specs.Endian.{little_bytes}
use Rattle.rv_alu.specs.Arithmetic.{alu_of, modulo, signed}
use Rattle.rv_alu.specs.declared.BinOp.{BinOp}
use Rattle.rv_decode.specs.declared.Insn.{Insn}
use Rattle.rv_decode.specs.Ranges.{IsMultiple, IsSigned}
use Rattle.csr_file.specs.Write.{written}
use Rattle.hart_step.specs.declared.hart.Hart.{Hart}
use Rattle.hart_step.specs.Harts.{hart_of, register}
use Rattle.hart_step.specs.Effects.{pc_after, with_write}
use Rattle.hart_step.specs.Memory.{MemoryState, rom_base}
use Rattle.hart_turns.specs.Boot.{Booting}
use Rattle.rom_gen.specs.ItemEffects.{AllSpelled}
use Rattle.rom_gen.specs.Items.{Csr, CsrImm, Put, Spelled, Spelling, StandAt, csr, csr_imm, pooled, small, pair}
use Rattle.rom_gen.specs.Wants.{Want, Reg, Control, hart_all, high_part, is_short, is_small, low_part, pool, put_insns, want_items, want_values, put_values}
use Rattle.rom_gen.proofs.Layouts.{AllInner, IsGood, IsLayout, Leaves}
use Rattle.rom_gen.proofs.Standing.{put_is}
use Rattle.rom_gen.proofs.ItemSteps.{stand_first}

-- ---- the parts of a value

low_sign : (a : ℕ) → a < 4096 → 2048 ≤ a → pos a -ℤ pos 4096 ≡ negsuc (4095 - a)
low_sign a h k = omega (arith, ints)

high_sign : (a : ℕ) → a < 2 ^ 32 → 2 ^ 31 ≤ a → pos a -ℤ pos 4294967296 ≡ negsuc (4294967295 - a)
high_sign a h k = omega (arith, ints)

pub low_is : (a : ℕ) → a < 4096 → ((a < 2048) × (signed 12 a ≡ pos a)) ⊎ ((2048 ≤ a) × (signed 12 a ≡ negsuc (4095 - a)))
low_is a h = ⊎_elim
    (λ l. inl (l, ap (λ b. cond b (pos a) (pos a -ℤ pos 4096)) (lt-ltb a 2048 l)))
    (λ l. inr (l, ap (λ b. cond b (pos a) (pos a -ℤ pos 4096)) (le-ltb a 2048 l) ∙ low_sign a h l))
    (cases_lt a 2048)

pub high_is : (a : ℕ) → a < 2 ^ 32 → ((a < 2 ^ 31) × (signed 32 a ≡ pos a)) ⊎ ((2 ^ 31 ≤ a) × (signed 32 a ≡ negsuc (4294967295 - a)))
high_is a h = ⊎_elim
    (λ l. inl (l, ap (λ b. cond b (pos a) (pos a -ℤ pos 4294967296)) (lt-ltb a 2147483648 l)))
    (λ l. inr (l, ap (λ b. cond b (pos a) (pos a -ℤ pos 4294967296)) (le-ltb a 2147483648 l) ∙ high_sign a h l))
    (cases_lt a (2 ^ 31))

pub low_fits : (v : ℕ) → IsSigned 12 (low_part v)
low_fits v = ⊎_elim
    (λ c. subst (IsSigned 12) (sym c.1) (omega (arith, ints), omega (arith, ints)))
    (λ c. subst (IsSigned 12) (sym c.1) (omega (arith, ints), omega (arith, ints)))
    (low_is (v % 4096) (omega arith))

-- which values are small, and which are short
small_cases : (v : ℕ) → is_small v ≡ true → (v < 2048) ⊎ (2 ^ 64 - 2048 ≤ v)
unfolding is_small
small_cases v e = ⊎_elim (λ l. inl (ltb-true v 2048 l)) (λ l. inr (leb-true 18446744073709549568 v l)) (or_cases _ _ e)

short_cases : (v : ℕ) → is_short v ≡ true → (v < 2 ^ 31) ⊎ (2 ^ 64 - 2 ^ 31 ≤ v)
unfolding is_short
short_cases v e = ⊎_elim (λ l. inl (ltb-true v 2147483648 l)) (λ l. inr (leb-true 18446744071562067968 v l)) (or_cases _ _ e)

small_is : (v : ℕ) → v < 2 ^ 64 → is_small v ≡ true → modulo 64 (low_part v) ≡ v
small_is v fits e = ⊎_elim
    (λ c. ⊎_elim (λ l. ap (modulo 64) c.1 ∙ omega (arith, c.0)) (λ l. ap (modulo 64) c.1 ∙ omega (arith, c.0)) (small_cases v e))
    (λ c. ⊎_elim (λ l. ap (modulo 64) c.1 ∙ omega (arith, c.0)) (λ l. ap (modulo 64) c.1 ∙ omega (arith, c.0)) (small_cases v e))
    (low_is (v % 4096) (omega arith))

pub high_fits : (v : ℕ) → IsSigned 32 (high_part v)
high_fits v = ⊎_elim
    (λ c. subst (IsSigned 32) (sym c.1) (omega (arith, ints), omega (arith, ints)))
    (λ c. subst (IsSigned 32) (sym c.1) (omega (arith, ints), omega (arith, ints)))
    (high_is ((v + 2048) / 4096 % 1048576 * 4096) (omega arith))

pub high_multiple : (v : ℕ) → IsMultiple 12 (high_part v)
high_multiple v = ⊎_elim (λ c. ap (modulo 12) c.1 ∙ omega arith) (λ c. ap (modulo 12) c.1 ∙ omega (arith, c.0)) (high_is ((v + 2048) / 4096 % 1048576 * 4096) (omega arith))

-- modulo 2 ^ 32 the two parts sum up to the value
high_low : (v : ℕ) → modulo 64 (high_part v) % 2 ^ 32 ≡ (v + 2048) / 4096 % 1048576 * 4096
high_low v = ⊎_elim (λ c. ap (λ z. modulo 64 z % 2 ^ 32) c.1 ∙ omega arith) (λ c. ap (λ z. modulo 64 z % 2 ^ 32) c.1 ∙ omega (arith, c.0)) (high_is ((v + 2048) / 4096 % 1048576 * 4096) (omega arith))

low_low : (v : ℕ) → ((v % 4096 < 2048) × (modulo 64 (low_part v) % 2 ^ 32 ≡ v % 4096)) ⊎ ((2048 ≤ v % 4096) × (modulo 64 (low_part v) % 2 ^ 32 ≡ v % 4096 + 4294963200))
low_low v = ⊎_elim (λ c. inl (c.0, ap (λ z. modulo 64 z % 2 ^ 32) c.1 ∙ omega arith)) (λ c. inr (c.0, ap (λ z. modulo 64 z % 2 ^ 32) c.1 ∙ omega (arith, c.0))) (low_is (v % 4096) (omega arith))

sum_is : (v : ℕ) → (modulo 64 (high_part v) % 2 ^ 32 + modulo 64 (low_part v) % 2 ^ 32) % 2 ^ 32 % 2 ^ 32 ≡ v % 2 ^ 32
sum_is v = ⊎_elim (λ c. omega (arith, c.0, c.1, high_low v)) (λ c. omega (arith, c.0, c.1, high_low v)) (low_low v)

word_is : (v : ℕ) → v < 2 ^ 64 → is_short v ≡ true → modulo 64 (signed 32 (v % 2 ^ 32)) ≡ v
word_is v fits e = ⊎_elim
    (λ c. ⊎_elim (λ l. ap (modulo 64) c.1 ∙ omega (arith, c.0)) (λ l. ap (modulo 64) c.1 ∙ omega (arith, c.0)) (short_cases v e))
    (λ c. ⊎_elim (λ l. ap (modulo 64) c.1 ∙ omega (arith, c.0)) (λ l. ap (modulo 64) c.1 ∙ omega (arith, c.0)) (short_cases v e))
    (high_is (v % 2 ^ 32) (omega arith))

-- lui and addiw give the value
pub pair_value : (v : ℕ) → v < 2 ^ 64 → is_short v ≡ true → alu_of BinOp.Addw (modulo 64 (high_part v)) (modulo 64 (low_part v)) ≡ v
pair_value v fits e = ap (λ x. modulo 64 (signed 32 x)) (sum_is v) ∙ word_is v fits e

-- ---- the spellings

-- one of the three spellings of a value
pub put_spelled : (n : ℕ) (memory : MemoryState) (hart : Hart) (block off r v : ℕ) (b c : Bool) → is_small v ≡ b → is_short v ≡ c → 0 < r → r < 32 → v < 2 ^ 64 →
    register hart 1 ≡ rom_base + block → block % 8 ≡ 0 → off % 8 ≡ 0 → off + 8 * length (cond b [] (cond c [] (v ∷ []))) ≤ 2048 →
    StandAt (pool (cond b [] (cond c [] (v ∷ [])))) (block + off) memory.rom →
    Spelled n memory hart block (Put r v) (cond b (Insn.Addi r 0 (low_part v) ∷ []) (cond c (Insn.Lui r (high_part v) ∷ Insn.Addiw r r (low_part v) ∷ []) (Insn.Ld r 1 (pos off) ∷ [])))
put_spelled n memory hart block off r v true c is_a is_b some r_fits fits at aligned even room there = small r v (low_part v) some r_fits (low_fits v) (small_is v fits is_a)
put_spelled n memory hart block off r v false true is_a is_b some r_fits fits at aligned even room there = pair r v (high_part v) (low_part v) some r_fits (high_fits v) (high_multiple v) (low_fits v) (pair_value v fits is_b)
put_spelled n memory hart block off r v false false is_a is_b some r_fits fits at aligned even room there = pooled r v off some r_fits fits (omega arith) (omega arith) at (stand_first (little_bytes 8 v) [] (block + off) memory.rom there)

abbrev long_control : ℕ → ℕ → ℕ → List Spelling
long_control off number v = record { item = Put 2 v; insns = put_insns off 2 v } ∷ record { item = Csr number 2; insns = Insn.Csrrw 0 2 number ∷ [] } ∷ []

abbrev control_spell : Bool → ℕ → ℕ → ℕ → List Spelling
control_spell d off number v = cond d (record { item = CsrImm number v; insns = Insn.Csrrwi 0 v number ∷ [] } ∷ []) (long_control off number v)

control_spelled : (h block off : ℕ) (b : Booting) (number v : ℕ) (d : Bool) → nat_le v 31 ≡ d → IsGood (Control number v) →
    register (hart_of b.core h) 1 ≡ rom_base + block → block % 8 ≡ 0 → off % 8 ≡ 0 → off + 8 * length (cond d [] (put_values v)) ≤ 2048 →
    StandAt (pool (cond d [] (put_values v))) (block + off) b.core.rom → AllSpelled h block (control_spell d off number v) b
control_spelled h block off b number v true is good at aligned even room there = (csr_imm number v (let k = leb-true v 31 is in omega arith) good.0 good.1, tt)
control_spelled h block off b number v false is good at aligned even room there = (put_spelled _ _ _ block off 2 v (is_small v) (is_short v) refl refl (omega arith) (omega arith) good.2 at aligned even room there, (csr number 2 (omega arith) good.0 good.1, tt))

want_spelled : (h block off : ℕ) (b : Booting) (w : Want) → IsGood w → h < length b.core.harts → length (hart_of b.core h).x ≡ 32 →
    register (hart_of b.core h) 1 ≡ rom_base + block → block % 8 ≡ 0 → off % 8 ≡ 0 → off + 8 * length (want_values w) ≤ 2048 →
    StandAt (pool (want_values w)) (block + off) b.core.rom → AllSpelled h block (want_items off w) b
want_spelled h block off b (Reg r v) good inside count at aligned even room there = (put_spelled _ _ _ block off r v (is_small v) (is_short v) refl refl good.0 good.1 good.2 at aligned even room there, tt)
want_spelled h block off b (Control number v) good inside count at aligned even room there = control_spelled h block off b number v (nat_le v 31) refl good at aligned even room there

control_inner : (off number v : ℕ) (d : Bool) → AllInner (control_spell d off number v)
control_inner off number v true = (tt, tt)
control_inner off number v false = (tt, (tt, tt))

control_leaves : (off number v : ℕ) (hart : Hart) (d : Bool) → length hart.x ≡ 32 → Leaves (Control number v) hart (hart_all (control_spell d off number v) hart)
control_leaves off number v hart true count = record { csrs = refl; x = (refl, λ j other. refl); reservation = refl }
control_leaves off number v hart false count = record {
  csrs = ap (λ w. written number w hart.csrs) (get_or-set_same hart.x 2 v 0 (omega arith));
  x = (length-set hart.x 2 v, λ j other. get_or-set_other hart.x 2 j v 0 other);
  reservation = refl;
}

want_inner : (off : ℕ) (w : Want) → AllInner (want_items off w)
want_inner off (Reg r v) = (tt, tt)
want_inner off (Control number v) = control_inner off number v (nat_le v 31)

want_leaves : (off : ℕ) (w : Want) (hart : Hart) → IsGood w → length hart.x ≡ 32 → Leaves w hart (hart_all (want_items off w) hart)
want_leaves off (Reg r v) hart good count =
    let next : ℕ = pc_after hart (4 * length (put_insns off r v)) in
    let is : with_write hart r v next ≡ record hart { x = slice_set hart.x r v; pc = next } = put_is hart r v next good.0 in
    record { csrs = ap (λ (x : Hart). x.csrs) is; x = ap (λ (x : Hart). x.x) is; reservation = ap (λ (x : Hart). x.reservation) is }
want_leaves off (Control number v) hart good count = control_leaves off number v hart (nat_le v 31) count

-- so the spelling of wants is a layout
pub want_layout : IsLayout want_items want_values
want_layout = record { spelled = want_spelled; inner = want_inner; leaves = want_leaves }
