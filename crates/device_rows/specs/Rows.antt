-- Rows of device registers: registers of one kind, at equal distances.
use Rattle.std.specs.Prelude.{◌+◌, ◌-◌, ◌*◌, ◌/◌, ◌%◌, ℕ, ◌==◌, ◌&&◌, nat_le, nat_lt, if◌then◌else◌, Option, None, Some}

-- the number of the register at offset `off`, in a row of `count` of them, one each `stride` bytes from `start` on
unfoldable pub row_at : ℕ → ℕ → ℕ → ℕ → Option ℕ
row_at start stride count off =
    if nat_le start off && nat_lt off (start + stride * count) && ((off - start) % stride == 0)
    then Some ((off - start) / stride)
    else None
