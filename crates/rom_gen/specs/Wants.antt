-- The wants of a hart's block: the values that registers are to have, and how each is spelled.
use Rattle.std.specs.Prelude.{◌≡◌, ℕ, ℤ, ◌-◌, ◌+◌, ◌*◌, ◌≤◌, ◌%◌, ◌^◌, List, [], ◌∷◌, ◌++◌, length, pos, ◌/◌, ◌||◌, nat_lt, nat_le, Bool, if◌then◌else◌}
use Rattle.byteorder.specs.Endian.{little_bytes}
use Rattle.rv_alu.specs.Arithmetic.{signed}
use Rattle.rv_decode.specs.declared.Insn.{Insn}
use Rattle.hart_step.specs.declared.hart.Hart.{Hart}
use Rattle.rom_gen.specs.Items.{Put, Csr, CsrImm, Spelling, StandAt}
use Rattle.rom_gen.specs.ItemEffects.{hart_after}

-- Reg: a register x is to have a value. Control: a control and status register is to be written with one
pub data Want : Type 0 where
  Reg : ℕ → ℕ → Want
  Control : ℕ → ℕ → Want

-- the bytes of the values of a pool
abbrev pub pool : List ℕ → List ℕ
pool [] = []
pool (v ∷ rest) = little_bytes 8 v ++ pool rest

-- the pool of these values stands in a block, at the offset off
pub record Pooled (block off : ℕ) (values : List ℕ) (rom : List ℕ) : Type 0 where
  pub aligned : block % 8 ≡ 0
  pub even : off % 8 ≡ 0
  pub room : off + 8 * length values ≤ 2048
  pub there : StandAt (pool values) (block + off) rom

-- a hart after the items of a list
abbrev pub hart_all : List Spelling → Hart → Hart
hart_all [] hart = hart
hart_all (s ∷ rest) hart = hart_all rest (hart_after (length s.insns) s.item hart)

-- the items of a list of wants, and the values of its pool
abbrev pub placed : (ℕ → Want → List Spelling) → (Want → List ℕ) → ℕ → List Want → List Spelling
placed spell values off [] = []
placed spell values off (w ∷ rest) = spell off w ++ placed spell values (off + 8 * length (values w)) rest

abbrev pub all_values : (Want → List ℕ) → List Want → List ℕ
all_values values [] = []
all_values values (w ∷ rest) = values w ++ all_values values rest

-- ---- the spelling of a want: a value goes in as an immediate where it can, and stands in the pool where it cannot

-- a signed number of twelve bits, as a word of 64
unfoldable pub is_small : ℕ → Bool
is_small v = nat_lt v 2048 || nat_le (2 ^ 64 - 2048) v

-- a signed number of 32 bits
unfoldable pub is_short : ℕ → Bool
is_short v = nat_lt v (2 ^ 31) || nat_le (2 ^ 64 - 2 ^ 31) v

-- the signed number of the low twelve bits, and the rest in 32 bits, to which addiw adds it
abbrev pub low_part : ℕ → ℤ
low_part v = signed 12 (v % 4096)

abbrev pub high_part : ℕ → ℤ
high_part v = signed 32 ((v + 2048) / 4096 % 1048576 * 4096)

-- a value goes into a register where the next value of the pool has the offset off, and what it adds to the pool
abbrev pub put_insns : ℕ → ℕ → ℕ → List Insn
put_insns off r v =
    if is_small v then Insn.Addi r 0 (low_part v) ∷ []
    else if is_short v then Insn.Lui r (high_part v) ∷ Insn.Addiw r r (low_part v) ∷ []
    else Insn.Ld r 1 (pos off) ∷ []

abbrev pub put_values : ℕ → List ℕ
put_values v = if is_small v then [] else if is_short v then [] else v ∷ []

-- a control and status register goes through x2, but for the values of csrrwi
abbrev pub want_items : ℕ → Want → List Spelling
want_items off (Reg r v) = record { item = Put r v; insns = put_insns off r v } ∷ []
want_items off (Control number v) =
    if nat_le v 31 then record { item = CsrImm number v; insns = Insn.Csrrwi 0 v number ∷ [] } ∷ []
    else record { item = Put 2 v; insns = put_insns off 2 v } ∷ record { item = Csr number 2; insns = Insn.Csrrw 0 2 number ∷ [] } ∷ []

abbrev pub want_values : Want → List ℕ
want_values (Reg r v) = put_values v
want_values (Control number v) = if nat_le v 31 then [] else put_values v
