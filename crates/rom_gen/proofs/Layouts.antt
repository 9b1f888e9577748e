-- What is asked of the spelling of wants, whatever it is: a layout.
use Rattle.std.specs.Prelude.{◌≡◌, ◌≢◌, ℕ, ◌+◌, ◌*◌, ◌<◌, ◌≤◌, ◌%◌, ◌^◌, List, [], ◌∷◌, length, slice_index, slice_set, true}
use Rattle.csr_file.specs.Write.{written}
use Rattle.csr_file.specs.declared.registers.Registers.{Registers}
use Rattle.hart_step.specs.declared.hart.Hart.{Hart}
use Rattle.hart_step.specs.Harts.{hart_of, register}
use Rattle.hart_step.specs.Memory.{rom_base}
use Rattle.hart_turns.specs.Boot.{Booting}
use Rattle.rom_gen.specs.Items.{Item, Put, Csr, CsrImm, Store, Load, Go, Leave, Spelling, StandAt, is_writable}
use Rattle.rom_gen.specs.ItemEffects.{AllSpelled}
use Rattle.rom_gen.specs.Wants.{Want, Reg, Control, hart_all, pool}

-- one of x1 to x31, or a register that debug mode may write, with a value of 64 bits
abbrev pub IsGood : Want → Type 0
IsGood (Reg r v) = (0 < r) × (r < 32) × (v < 2 ^ 64)
IsGood (Control number v) = (number < 4096) × (is_writable number ≡ true) × (v < 2 ^ 64)

abbrev pub AllGood : List Want → Type 0
AllGood [] = Unit {0}
AllGood (w ∷ rest) = IsGood w × AllGood rest

-- x1 stays as it is, which has the block's address
abbrev pub KeepsBase : Want → Type 0
KeepsBase (Reg r v) = 1 < r
KeepsBase (Control number v) = Unit {0}

abbrev pub AllKeep : List Want → Type 0
AllKeep [] = Unit {0}
AllKeep (w ∷ rest) = KeepsBase w × AllKeep rest

-- what it makes of the control and status registers
abbrev pub csrs_after : Want → Registers → Registers
csrs_after (Reg r v) csrs = csrs
csrs_after (Control number v) csrs = written number v csrs

abbrev pub all_csrs : List Want → Registers → Registers
all_csrs [] csrs = csrs
all_csrs (w ∷ rest) csrs = all_csrs rest (csrs_after w csrs)

-- and of x0 to x31, where a control and status register may go through x2
abbrev pub XAfter : Want → List ℕ → List ℕ → Type 0
XAfter (Reg r v) xs ys = ys ≡ slice_set xs r v
XAfter (Control number v) xs ys = (length ys ≡ length xs) × ((j : ℕ) → j ≢ 2 → slice_index ys j ≡ slice_index xs j)

pub record Leaves (w : Want) (before after : Hart) : Type 0 where
  pub csrs : after.csrs ≡ csrs_after w before.csrs
  pub x : XAfter w before.x after.x
  pub reservation : after.reservation ≡ before.reservation

-- an item that changes the hart alone, and goes on behind its words
abbrev pub IsInner : Item → Type 0
IsInner (Put r v) = Unit {0}
IsInner (Csr num r) = Unit {0}
IsInner (CsrImm num u) = Unit {0}
IsInner (Store size r at off) = ⊥
IsInner (Load size r at off) = ⊥
IsInner (Go r) = ⊥
IsInner Leave = ⊥

abbrev pub AllInner : List Spelling → Type 0
AllInner [] = Unit {0}
AllInner (s ∷ rest) = IsInner s.item × AllInner rest

-- a layout: how each want is spelled where the next value of the pool has this offset, and its values in the pool
pub record IsLayout (spell : ℕ → Want → List Spelling) (values : Want → List ℕ) : Type 0 where
  pub spelled : (h block off : ℕ) (b : Booting) (w : Want) → IsGood w → h < length b.core.harts → length (hart_of b.core h).x ≡ 32 → register (hart_of b.core h) 1 ≡ rom_base + block → block % 8 ≡ 0 → off % 8 ≡ 0 → off + 8 * length (values w) ≤ 2048 → StandAt (pool (values w)) (block + off) b.core.rom → AllSpelled h block (spell off w) b
  pub inner : (off : ℕ) (w : Want) → AllInner (spell off w)
  pub leaves : (off : ℕ) (w : Want) (hart : Hart) → IsGood w → length hart.x ≡ 32 → Leaves w hart (hart_all (spell off w) hart)
