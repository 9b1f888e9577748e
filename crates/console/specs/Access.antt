-- What loads give and leave, and what stores leave and send.
use Rattle.std.specs.Prelude.{◌+◌, ◌*◌, ◌%◌, ℕ, ◌&&◌, nat_le, if◌then◌else◌, Option, List, [], ◌∷◌, length, drop, slice_index}
use Rattle.std.specs.Option.{option_map, option_map_or}
use Rattle.rv_alu.specs.Bits.{low_bytes}
use Rattle.guest_ram.specs.Bytes.{has_part, part_of}
use Rattle.console.specs.State.{ConsoleRegisters, entered, has_flag, is_waiting, loop_flag}
use Rattle.console.specs.Layout.{register_at}
use Rattle.console.specs.declared.registers.Register.{Register}
use Rattle.console.specs.declared.registers.Register.TheVariants.{Data, Status, Ctrl, TxAddr, TxLen}

-- the greatest length of one send
abbrev pub most_sent : ℕ
most_sent = 256

-- what is read of a register. Data: the first byte that waits, or 0. Status: bit 1, since output is always taken,
-- bit 0 where a byte waits, and from bit 8 on how many wait
abbrev pub value_of : ConsoleRegisters → Register → ℕ
value_of r Data = slice_index r.queue 0
value_of r Status = 2 + (if is_waiting r then 1 else 0) + 256 * length r.queue
value_of r Ctrl = r.ctrl
value_of r TxAddr = r.txaddr
value_of r TxLen = 0

-- what reading a register leaves: data takes the byte that it gives out of the queue
abbrev pub after_reading : ConsoleRegisters → Register → ConsoleRegisters
after_reading r Data = record r { queue = drop 1 r.queue }
after_reading r Status = r
after_reading r Ctrl = r
after_reading r TxAddr = r
after_reading r TxLen = r

-- the registers after v was written to one of them: under loop a byte written to data comes in, status and txlen
-- keep nothing, and ctrl keeps its low three bits
abbrev pub written : ConsoleRegisters → ℕ → Register → ConsoleRegisters
written r v Data = if has_flag r loop_flag then entered r v else r
written r v Status = r
written r v Ctrl = record r { ctrl = v % 8 }
written r v TxAddr = record r { txaddr = v }
written r v TxLen = r

-- the bytes of guest memory that a send of n bytes gives: all n from txaddr on, or none where they are more than
-- the greatest length or do not all lie in guest memory
abbrev pub sent_from : List ℕ → ConsoleRegisters → ℕ → List ℕ
sent_from ram r n =
    if nat_le n most_sent && has_part ram r.txaddr n then part_of ram r.txaddr n else []

-- the bytes that go out where v is written to a register: the byte written to data, and as many bytes of guest
-- memory as is written to txlen, but none under loop
abbrev pub sent_by : List ℕ → ConsoleRegisters → ℕ → Register → List ℕ
sent_by ram r v Data = if has_flag r loop_flag then [] else v ∷ []
sent_by ram r v Status = []
sent_by ram r v Ctrl = []
sent_by ram r v TxAddr = []
sent_by ram r v TxLen = if has_flag r loop_flag then [] else sent_from ram r v

-- what a load gives, and nothing where no such register is listed
unfoldable pub loaded : ConsoleRegisters → ℕ → ℕ → Option ℕ
loaded r off size = option_map (value_of r) (register_at off size)

-- what a load leaves; the same registers where none is listed
unfoldable pub after_load : ConsoleRegisters → ℕ → ℕ → ConsoleRegisters
after_load r off size = option_map_or (after_reading r) (register_at off size) r

-- what a store leaves, which takes the low `size` bytes of the value; the same registers where none is listed
unfoldable pub stored : ConsoleRegisters → ℕ → ℕ → ℕ → ConsoleRegisters
stored r off size value = option_map_or (written r (low_bytes size value)) (register_at off size) r

-- the bytes that a store sends out; none where no such register is listed
unfoldable pub sent : List ℕ → ConsoleRegisters → ℕ → ℕ → ℕ → List ℕ
sent ram r off size value =
    option_map_or (sent_by ram r (low_bytes size value)) (register_at off size) []
