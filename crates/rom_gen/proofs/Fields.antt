-- The fields of the words that put a value.
use Rattle.std.specs.Prelude.{ℤ, pos}
use Rattle.std.proofs.Common.{◌≡◌, ℕ, ◌+◌, ◌*◌, ◌/◌, ◌%◌, ◌^◌, ◌<◌, ⊎_elim, ap, ◌∙◌, arith}
use Rattle.rv_alu.specs.Arithmetic.{bits_of, modulo}
use Rattle.rv_decode.specs.declared.Insn.{Insn}
use Rattle.rv_decode.specs.Encode.{encoded, word_long, word_r}
use Rattle.rom_gen.specs.Items.{Width, Byte, Word, Double, load_insn, store_insn}
use Rattle.rom_gen.specs.Writing.{load_value, store_value}
use Rattle.rom_gen.specs.Wants.{high_part, low_part}
use Rattle.rom_gen.proofs.WantLayout.{low_is, high_is}

pub low_field : (v : ℕ) → modulo 12 (low_part v) ≡ v % 4096
low_field v = ⊎_elim (λ c. ap (modulo 12) c.1 ∙ omega (arith, c.0)) (λ c. ap (modulo 12) c.1 ∙ omega (arith, c.0)) (low_is (v % 4096) (omega arith))

high_whole : (v : ℕ) → modulo 32 (high_part v) ≡ (v + 2048) / 4096 % 1048576 * 4096
high_whole v = ⊎_elim (λ c. ap (modulo 32) c.1 ∙ omega (arith, c.0)) (λ c. ap (modulo 32) c.1 ∙ omega (arith, c.0)) (high_is ((v + 2048) / 4096 % 1048576 * 4096) (omega arith))

high_field : (v : ℕ) → bits_of (modulo 32 (high_part v)) 12 20 ≡ (v + 2048) / 4096 % 1048576
high_field v = ap (λ x. bits_of x 12 20) (high_whole v) ∙ omega arith

pub small_word_is : (r v : ℕ) → encoded (Insn.Addi r 0 (low_part v)) ≡ word_r 0x13 r 0 (v % 4096)
unfolding encoded
small_word_is r v = ap (word_r 0x13 r 0) (low_field v)

pub low_word_is : (r v : ℕ) → encoded (Insn.Addiw r r (low_part v)) ≡ word_r 0x1b r r (v % 4096)
unfolding encoded
low_word_is r v = ap (word_r 0x1b r r) (low_field v)

pub high_word_is : (r v : ℕ) → encoded (Insn.Lui r (high_part v)) ≡ word_long 0x37 r ((v + 2048) / 4096 % 1048576)
unfolding encoded
high_word_is r v = ap (word_long 0x37 r) (high_field v)

-- the same with the sum of a machine word
pub wrapped : (v : ℕ) → (v + 2048) % 2 ^ 64 / 4096 % 1048576 ≡ (v + 2048) / 4096 % 1048576
wrapped v = omega arith

-- ---- stores, loads and addresses

pub store_is : (w : Width) (by r f : ℕ) (off : ℤ) → modulo 12 off ≡ f → encoded (store_insn w by r off) ≡ word_r (store_value w) (f % 32) by (r + f / 32 % 128 * 32)
unfolding encoded
store_is Byte by r f off is = ap (λ b. word_r 0x23 (bits_of b 0 5) by (r + bits_of b 5 7 * 32)) is ∙ ap (λ x. word_r 0x23 x by (r + f / 32 % 128 * 32)) (omega arith)
store_is Word by r f off is = ap (λ b. word_r 0x2023 (bits_of b 0 5) by (r + bits_of b 5 7 * 32)) is ∙ ap (λ x. word_r 0x2023 x by (r + f / 32 % 128 * 32)) (omega arith)
store_is Double by r f off is = ap (λ b. word_r 0x3023 (bits_of b 0 5) by (r + bits_of b 5 7 * 32)) is ∙ ap (λ x. word_r 0x3023 x by (r + f / 32 % 128 * 32)) (omega arith)

pub load_is : (w : Width) (r by f : ℕ) (off : ℤ) → modulo 12 off ≡ f → encoded (load_insn w r by off) ≡ word_r (load_value w) r by f
unfolding encoded
load_is Byte r by f off is = ap (word_r 0x4003 r by) is
load_is Word r by f off is = ap (word_r 0x2003 r by) is
load_is Double r by f off is = ap (word_r 0x3003 r by) is

pub aim_is : (r v : ℕ) → v < 2 ^ 31 → encoded (Insn.Lui r (pos v)) ≡ word_long 0x37 r (v / 4096)
unfolding encoded
aim_is r v small = let e : bits_of (modulo 32 (pos v)) 12 20 ≡ v / 4096 = omega arith in ap (word_long 0x37 r) e
