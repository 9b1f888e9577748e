-- The host window: 8 bytes of guest memory by which a program speaks to its host, as in the host-target interface
-- (HTIF) of the RISC-V ISA simulator. The top 8 bits of the word name a device and the next 8 a command.
use Rattle.std.specs.Prelude.{◌/◌, ◌%◌, ◌^◌, ℕ, List, ◌==◌, ◌&&◌, if◌then◌else◌}
use Rattle.guest_ram.specs.Bytes.{number_at}
use Rattle.board_bus.specs.declared.window.HostSays.{HostSays}
use Rattle.board_bus.specs.declared.window.HostSays.TheVariants.{Nothing, End, Send, Bad}

-- the device and the command of a word, its top 16 bits
abbrev pub device_and_command : ℕ → ℕ
device_and_command w = w / 2 ^ 48

-- what a word says: zero nothing; an odd word for device 0 and command 0 that the program ends, with the code above
-- bit 0; a word for device 1 and command 1 that its low byte goes to the console; and no other word is understood
abbrev pub word_says : ℕ → HostSays
word_says w =
    if w == 0 then Nothing
    else if (device_and_command w == 0) && (w % 2 == 1) then End (w / 2)
    else if device_and_command w == 0x0101 then Send (w % 256)
    else Bad w

-- what the window at this guest address says, where memory is this; 0 means that there is no window
unfoldable pub host_says : ℕ → List ℕ → HostSays
host_says tohost ram = if tohost == 0 then Nothing else word_says (number_at ram tohost 8)
