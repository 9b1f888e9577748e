-- What contracts see of the console: the bytes that wait, and the values of its registers. The device is this
-- project's own; docs/REFERENCE.md has its registers.
use Rattle.std.specs.Prelude.{◌+◌, ◌^◌, ◌<◌, ◌≤◌, ℕ, All, Bool, ◌==◌, ◌&&◌, nat_lt, bit_and, if◌then◌else◌, List, [], ◌∷◌, ◌++◌, length}

-- the queue has the bytes that wait to be read, the first of them first
pub record ConsoleRegisters : Type 0 where
  pub queue : List ℕ
  pub ctrl : ℕ
  pub txaddr : ℕ

-- the greatest length of the queue
abbrev pub queue_room : ℕ
queue_room = 16

-- which registers are well formed: at most 16 bytes wait, ctrl has three bits and txaddr 64
pub record IsFit (r : ConsoleRegisters) : Type 0 where
  pub room : length r.queue ≤ queue_room
  pub bytes : All (λ b. b < 256) r.queue
  pub ctrl : r.ctrl ≤ 7
  pub txaddr : r.txaddr < 2 ^ 64

-- the registers at reset
abbrev pub reset_registers : ConsoleRegisters
reset_registers = record { queue = []; ctrl = 0; txaddr = 0 }

-- the bits of ctrl: bit 0 enables the interrupt of input, bit 1 that of output, and bit 2 turns what is written
-- back to the queue
abbrev pub input_flag : ℕ
input_flag = 1

abbrev pub output_flag : ℕ
output_flag = 2

abbrev pub loop_flag : ℕ
loop_flag = 4

-- a flag of ctrl is set
abbrev pub has_flag : ConsoleRegisters → ℕ → Bool
has_flag r flag = bit_and r.ctrl flag == flag

-- a byte waits
abbrev pub is_waiting : ConsoleRegisters → Bool
is_waiting r = nat_lt 0 (length r.queue)

-- the levels of the two interrupt sources, as bits 1 and 2: input while a byte waits, and output, which never
-- waits, always, each where it is enabled
abbrev pub levels_of : ConsoleRegisters → ℕ
levels_of r =
    (if has_flag r input_flag && is_waiting r then 2 else 0) + (if has_flag r output_flag then 4 else 0)

-- the registers after a byte came in, which enters the queue where there is room
abbrev pub entered : ConsoleRegisters → ℕ → ConsoleRegisters
entered r byte =
    if nat_lt (length r.queue) queue_room then record r { queue = r.queue ++ byte ∷ [] } else r
