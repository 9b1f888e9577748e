-- Where the registers stand.
use Rattle.std.specs.Prelude.{ℕ, Bool, ◌==◌, ◌&&◌, if◌then◌else◌, Option, None, Some, is_some}
use Rattle.console.specs.declared.registers.Register.{Register}
use Rattle.console.specs.declared.registers.Register.TheVariants.{Data, Status, Ctrl, TxAddr, TxLen}

-- the register of `size` bytes at offset `off`
unfoldable pub register_at : ℕ → ℕ → Option Register
register_at off size =
    if (off == 0) && (size == 1) then Some Data
    else if (off == 4) && (size == 4) then Some Status
    else if (off == 8) && (size == 4) then Some Ctrl
    else if (off == 0x10) && (size == 8) then Some TxAddr
    else if (off == 0x18) && (size == 4) then Some TxLen
    else None

-- a register with this offset and size is listed
abbrev pub is_listed : ℕ → ℕ → Bool
is_listed off size = is_some (register_at off size)

-- how many bytes a register has
abbrev pub size_of : Register → ℕ
size_of Data = 1
size_of Status = 4
size_of Ctrl = 4
size_of TxAddr = 8
size_of TxLen = 4
