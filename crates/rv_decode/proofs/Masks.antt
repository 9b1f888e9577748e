-- The masks of the table as arithmetic on the parts of a word: its opcode o, funct3 f and all u from place 20 up.
use Rattle.std.proofs.Common.{◌≡◌, ℕ, ◌+◌, ◌-◌, ◌*◌, ◌/◌, ◌%◌, ◌^◌, ◌<◌, bit_and, sym, ◌∙◌, ap, ap₂, arith}
use Rattle.std.specs.Int.Bits.{and_zero_r}
use Rattle.std.proofs.lemmas.Nat.{and_block, and_mask, shr_split, mod_below, pow_pos}

-- a mask in two parts, from place k up and below it
parted : (k hi lo w : ℕ) → lo < 2 ^ k → bit_and w (hi * 2 ^ k + lo) ≡ bit_and (w / 2 ^ k) hi * 2 ^ k + bit_and (w % 2 ^ k) lo
parted k hi lo w below = ap (λ x. bit_and x (hi * 2 ^ k + lo)) (sym (shr_split w k)) ∙ and_block k (w / 2 ^ k) hi (w % 2 ^ k) lo (mod_below w (2 ^ k) (pow_pos k)) below

-- a mask that keeps n bits from place k up, and has other bits below
topped : (k n lo w : ℕ) → lo < 2 ^ k → bit_and w ((2 ^ n - 1) * 2 ^ k + lo) ≡ w / 2 ^ k % 2 ^ n * 2 ^ k + bit_and (w % 2 ^ k) lo
topped k n lo w below = parted k (2 ^ n - 1) lo w below ∙ ap (λ x. x * 2 ^ k + bit_and (w % 2 ^ k) lo) (and_mask (w / 2 ^ k) n)

pub opcode_mask : (w o : ℕ) → w % 2 ^ 7 ≡ o → bit_and w 0x7f ≡ o
opcode_mask w o is_o = and_mask w 7 ∙ is_o

pub funct3_mask : (w o f : ℕ) → w % 2 ^ 7 ≡ o → w / 2 ^ 12 % 2 ^ 3 ≡ f → bit_and w 0x707f ≡ f * 2 ^ 12 + o
funct3_mask w o f is_o is_f =
    let low : w % 2 ^ 12 % 2 ^ 7 ≡ o = omega arith in
    topped 12 3 0x7f w (omega arith) ∙ ap₂ (λ x y. x * 2 ^ 12 + y) is_f (and_mask (w % 2 ^ 12) 7 ∙ low)

-- opcode and funct3 are also those of the word below a place from 15 up
below_20 : (w o f : ℕ) → w % 2 ^ 7 ≡ o → w / 2 ^ 12 % 2 ^ 3 ≡ f → bit_and (w % 2 ^ 20) 0x707f ≡ f * 2 ^ 12 + o
below_20 w o f is_o is_f = funct3_mask (w % 2 ^ 20) o f (omega arith) (omega arith)

below_25 : (w o f : ℕ) → w % 2 ^ 7 ≡ o → w / 2 ^ 12 % 2 ^ 3 ≡ f → bit_and (w % 2 ^ 25) 0x707f ≡ f * 2 ^ 12 + o
below_25 w o f is_o is_f = funct3_mask (w % 2 ^ 25) o f (omega arith) (omega arith)

below_26 : (w o f : ℕ) → w % 2 ^ 7 ≡ o → w / 2 ^ 12 % 2 ^ 3 ≡ f → bit_and (w % 2 ^ 26) 0x707f ≡ f * 2 ^ 12 + o
below_26 w o f is_o is_f = funct3_mask (w % 2 ^ 26) o f (omega arith) (omega arith)

below_27 : (w o f : ℕ) → w % 2 ^ 7 ≡ o → w / 2 ^ 12 % 2 ^ 3 ≡ f → bit_and (w % 2 ^ 27) 0x707f ≡ f * 2 ^ 12 + o
below_27 w o f is_o is_f = funct3_mask (w % 2 ^ 27) o f (omega arith) (omega arith)

pub register_mask : (w o f u : ℕ) → w % 2 ^ 7 ≡ o → w / 2 ^ 12 % 2 ^ 3 ≡ f → w / 2 ^ 20 ≡ u → bit_and w 0xfe00707f ≡ u / 2 ^ 5 % 2 ^ 7 * 2 ^ 25 + (f * 2 ^ 12 + o)
register_mask w o f u is_o is_f is_u =
    let upper : w / 2 ^ 25 % 2 ^ 7 ≡ u / 2 ^ 5 % 2 ^ 7 = omega arith in
    topped 25 7 0x707f w (omega arith) ∙ ap₂ (λ x y. x * 2 ^ 25 + y) upper (below_25 w o f is_o is_f)

pub shift_mask : (w o f u : ℕ) → w % 2 ^ 7 ≡ o → w / 2 ^ 12 % 2 ^ 3 ≡ f → w / 2 ^ 20 ≡ u → bit_and w 0xfc00707f ≡ u / 2 ^ 6 % 2 ^ 6 * 2 ^ 26 + (f * 2 ^ 12 + o)
shift_mask w o f u is_o is_f is_u =
    let upper : w / 2 ^ 26 % 2 ^ 6 ≡ u / 2 ^ 6 % 2 ^ 6 = omega arith in
    topped 26 6 0x707f w (omega arith) ∙ ap₂ (λ x y. x * 2 ^ 26 + y) upper (below_26 w o f is_o is_f)

pub atomic_mask : (w o f u : ℕ) → w % 2 ^ 7 ≡ o → w / 2 ^ 12 % 2 ^ 3 ≡ f → w / 2 ^ 20 ≡ u → bit_and w 0xf800707f ≡ u / 2 ^ 7 % 2 ^ 5 * 2 ^ 27 + (f * 2 ^ 12 + o)
atomic_mask w o f u is_o is_f is_u =
    let upper : w / 2 ^ 27 % 2 ^ 5 ≡ u / 2 ^ 7 % 2 ^ 5 = omega arith in
    topped 27 5 0x707f w (omega arith) ∙ ap₂ (λ x y. x * 2 ^ 27 + y) upper (below_27 w o f is_o is_f)

pub reserve_mask : (w o f u : ℕ) → w % 2 ^ 7 ≡ o → w / 2 ^ 12 % 2 ^ 3 ≡ f → w / 2 ^ 20 ≡ u → bit_and w 0xf9f0707f ≡ u / 2 ^ 7 % 2 ^ 5 * 2 ^ 27 + (u % 2 ^ 5 * 2 ^ 20 + (f * 2 ^ 12 + o))
reserve_mask w o f u is_o is_f is_u =
    let upper : w / 2 ^ 27 % 2 ^ 5 ≡ u / 2 ^ 7 % 2 ^ 5 = omega arith in
    let middle : w % 2 ^ 27 / 2 ^ 20 % 2 ^ 5 ≡ u % 2 ^ 5 = omega arith in
    let low : bit_and (w % 2 ^ 27 % 2 ^ 20) 0x707f ≡ f * 2 ^ 12 + o = below_20 (w % 2 ^ 27) o f (omega arith) (omega arith) in
    topped 27 5 0x1f0707f w (omega arith) ∙ ap₂ (λ x y. x * 2 ^ 27 + y) upper (topped 20 5 0x707f (w % 2 ^ 27) (omega arith) ∙ ap₂ (λ x y. x * 2 ^ 20 + y) middle low)

pub fence_mask : (w u : ℕ) → w / 2 ^ 20 ≡ u → bit_and w 0xfe007fff ≡ u / 2 ^ 5 % 2 ^ 7 * 2 ^ 25 + w % 2 ^ 15
fence_mask w u is_u =
    let upper : w / 2 ^ 25 % 2 ^ 7 ≡ u / 2 ^ 5 % 2 ^ 7 = omega arith in
    let low : w % 2 ^ 25 % 2 ^ 15 ≡ w % 2 ^ 15 = omega arith in
    topped 25 7 0x7fff w (omega arith) ∙ ap₂ (λ x y. x * 2 ^ 25 + y) upper (and_mask (w % 2 ^ 25) 15 ∙ low)

-- quadrant and funct3 of a compressed word
pub key_mask : (c : ℕ) → bit_and c 0xe003 ≡ c / 2 ^ 13 % 2 ^ 3 * 2 ^ 13 + c % 2 ^ 13 % 2 ^ 2
key_mask c = topped 13 3 3 c (omega arith) ∙ ap (λ x. c / 2 ^ 13 % 2 ^ 3 * 2 ^ 13 + x) (and_mask (c % 2 ^ 13) 2)

-- quadrant and funct3 of a compressed word together with its rd are its bits under one mask
pub stack_mask : (c : ℕ) → bit_and c 0xe003 ≡ 0x6001 → bit_and c 0xf80 ≡ 0x100 → bit_and c 0xef83 ≡ 0x6101
stack_mask c is_key is_rd =
    let rd : bit_and c 0xf80 ≡ c / 2 ^ 7 % 2 ^ 5 * 2 ^ 7 + bit_and (c % 2 ^ 7) 0 = topped 7 5 0 c (omega arith) in
    let nothing : bit_and (c % 2 ^ 7) 0 ≡ 0 = and_zero_r (c % 2 ^ 7) in
    let low : bit_and (c % 2 ^ 13) 0xf83 ≡ c % 2 ^ 13 / 2 ^ 7 % 2 ^ 5 * 2 ^ 7 + c % 2 ^ 13 % 2 ^ 7 % 2 ^ 2 = topped 7 5 3 (c % 2 ^ 13) (omega arith) ∙ ap (λ x. c % 2 ^ 13 / 2 ^ 7 % 2 ^ 5 * 2 ^ 7 + x) (and_mask (c % 2 ^ 13 % 2 ^ 7) 2) in
    let whole : bit_and c 0xef83 ≡ c / 2 ^ 13 % 2 ^ 3 * 2 ^ 13 + bit_and (c % 2 ^ 13) 0xf83 = topped 13 3 0xf83 c (omega arith) in
    omega (arith, key_mask c, rd, nothing, low, whole)
