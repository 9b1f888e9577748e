-- Where the registers stand (RISC-V Platform-Level Interrupt Controller Specification, "Memory Map").
use Rattle.std.specs.Prelude.{◌≡◌, ◌+◌, ◌%◌, ◌<◌, ◌⊎◌, ℕ, Bool, ◌==◌, nat_lt, if◌then◌else◌, Option, None, Some, is_some}
use Rattle.std.specs.Option.{option_map}
use Rattle.device_rows.specs.Rows.{row_at}
use Rattle.plic.specs.declared.registers.Register.{Register}
use Rattle.plic.specs.declared.registers.Register.TheVariants.{Priority, Pending, Enable, Threshold, Claim}

-- the register at offset `off` of a controller for this many contexts: the priorities of sources 1 and 2 at 4 and
-- 8, the pending word at 0x1000, an enable word each 0x80 bytes from 0x2000 on, and each 0x1000 bytes from
-- 0x200000 on a threshold and, 4 bytes behind it, the register of claims and completions
unfoldable pub word_at : ℕ → ℕ → Option Register
word_at contexts off =
    if nat_lt off 0x1000 then option_map (λ i. Priority (i + 1)) (row_at 4 4 2 off)
    else if off == 0x1000 then Some Pending
    else if nat_lt off 0x200000 then option_map (λ c. Enable c) (row_at 0x2000 0x80 contexts off)
    else if off % 0x1000 == 4 then option_map (λ c. Claim c) (row_at 0x200004 0x1000 contexts off)
    else option_map (λ c. Threshold c) (row_at 0x200000 0x1000 contexts off)

-- the register of `size` bytes at that offset: each has 4
abbrev pub register_at : ℕ → ℕ → ℕ → Option Register
register_at contexts off size = if size == 4 then word_at contexts off else None

-- a register with this offset and size is listed
abbrev pub is_listed : ℕ → ℕ → ℕ → Bool
is_listed contexts off size = is_some (register_at contexts off size)

-- the register is that of a source or of a context of the controller
abbrev pub IsOfContext : ℕ → Register → Type 0
IsOfContext contexts (Priority s) = (s ≡ 1) ⊎ (s ≡ 2)
IsOfContext contexts Pending = Unit {0}
IsOfContext contexts (Enable c) = c < contexts
IsOfContext contexts (Threshold c) = c < contexts
IsOfContext contexts (Claim c) = c < contexts
