-- What deeds do to the registers x2 to x7 and to a board, and which lists of deeds lead from a board to another.
use Rattle.std.specs.Prelude.{◌≡◌, ◌≢◌, ℕ, ℤ, ◌%◌, ◌^◌, ◌<◌, ◌==◌, if◌then◌else◌, true, List, [], ◌∷◌}
use Rattle.rv_alu.specs.Bits.{low_bytes}
use Rattle.rv_decode.specs.Ranges.{IsSigned}
use Rattle.board_bus.specs.Board.{BoardState, after_load, sent, stored}
use Rattle.board_bus.specs.Listed.{is_listed}
use Rattle.hart_step.specs.Effects.{offset_by}
use Rattle.hart_turns.specs.Gives.{board_device}
use Rattle.rom_gen.specs.Items.{Width, size_of}
use Rattle.rom_gen.specs.ItemEffects.{extended}
use Rattle.rom_gen.specs.Deeds.{Deed, Aim, Save, Again, Read}

-- what the registers x2 to x7 have, by number
abbrev pub Known : Type 0
Known = ℕ → ℕ

abbrev pub knows : ℕ → ℕ → Known → Known
knows r v known = λ q. if q == r then v else known q

abbrev pub known_after : BoardState → Deed → Known → Known
known_after b (Aim r v) known = knows r v known
known_after b (Save w v by off at) known = if v == 0 then known else knows 6 v known
known_after b (Again w v by off at) known = known
known_after b (Read w by off at) known = knows 6 (extended (size_of w) (board_device b at (size_of w))) known

abbrev pub board_after_deed : Deed → BoardState → BoardState
board_after_deed (Aim r v) b = b
board_after_deed (Save w v by off at) b = stored b at (size_of w) (low_bytes (size_of w) v)
board_after_deed (Again w v by off at) b = stored b at (size_of w) (low_bytes (size_of w) v)
board_after_deed (Read w by off at) b = after_load b at (size_of w)

-- a device register of a board for n harts is reached from a base register
pub record IsReached (n : ℕ) (known : Known) (w : Width) (by : ℕ) (off : ℤ) (at : ℕ) : Type 0 where
  pub some : 1 < by
  pub low : by < 8
  pub other : by ≢ 6
  pub short : IsSigned 12 off
  pub place : offset_by (known by) off ≡ at
  pub listed : is_listed n at (size_of w) ≡ true

abbrev pub IsSound : ℕ → List ℕ → Known → BoardState → Deed → Type 0
IsSound n ram known b (Aim r v) = (1 < r) × (r < 8) × (v < 2 ^ 31) × (v % 4096 ≡ 0)
IsSound n ram known b (Save w v by off at) = (v < 2 ^ 64) × IsReached n known w by off at × (sent ram b at (size_of w) (low_bytes (size_of w) v) ≡ [])
IsSound n ram known b (Again w v by off at) = (known 6 ≡ v) × IsReached n known w by off at × (sent ram b at (size_of w) (low_bytes (size_of w) v) ≡ [])
IsSound n ram known b (Read w by off at) = IsReached n known w by off at

-- the deeds lead from a board to another, and send nothing
abbrev pub Runs : ℕ → List ℕ → Known → BoardState → List Deed → BoardState → Type 0
Runs n ram known b [] b' = b ≡ b'
Runs n ram known b (d ∷ ds) b' = IsSound n ram known b d × Runs n ram (known_after b d known) (board_after_deed d b) ds b'

abbrev pub known_all : BoardState → List Deed → Known → Known
known_all b [] known = known
known_all b (d ∷ ds) known = known_all (board_after_deed d b) ds (known_after b d known)
