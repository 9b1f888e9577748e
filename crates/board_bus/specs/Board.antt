-- The devices of the board together: what loads give and leave, what stores leave and send, and the signals that
-- each hart gets.
use Rattle.std.specs.Prelude.{◌≡◌, ◌+◌, ◌*◌, ◌^◌, ℕ, Bool, if◌then◌else◌, Option, None, List, []}
use Rattle.clint.specs.State as clint
use Rattle.clint.specs.State.{ClintRegisters, is_soft_due, is_timer_due}
use Rattle.clint.specs.Access as clint_access
use Rattle.plic.specs.State as plic
use Rattle.plic.specs.State.{PlicRegisters, context_count}
use Rattle.plic.specs.Claims.{is_due}
use Rattle.plic.specs.Access as plic_access
use Rattle.console.specs.State as console
use Rattle.console.specs.State.{ConsoleRegisters, levels_of}
use Rattle.console.specs.Access as console_access
use Rattle.board_bus.specs.Listed.{place_of}
use Rattle.board_bus.specs.declared.place.Place.{Place}
use Rattle.board_bus.specs.declared.place.Place.TheVariants.{Clint, Plic, Console, Nowhere}

-- the registers of the three devices
pub record BoardState : Type 0 where
  pub clint : ClintRegisters
  pub plic : PlicRegisters
  pub console : ConsoleRegisters

-- how many harts the board serves
abbrev pub hart_count : BoardState → ℕ
hart_count b = clint.hart_count b.clint

-- which boards are well formed: each device is, and the interrupt controller has two contexts for each hart
pub record IsFit (b : BoardState) : Type 0 where
  pub clint : clint.IsFit b.clint
  pub plic : plic.IsFit b.plic
  pub console : console.IsFit b.console
  pub contexts : context_count b.plic ≡ 2 * hart_count b

-- all devices at reset, for this many harts
unfoldable pub reset_board : ℕ → BoardState
reset_board harts = record {
  clint = clint.reset_registers harts;
  plic = plic.reset_registers harts;
  console = console.reset_registers;
}

-- what a load of `size` bytes gives in a block
abbrev pub loaded_in : BoardState → ℕ → Place → Option ℕ
loaded_in b size (Clint off) = clint_access.loaded b.clint off size
loaded_in b size (Plic off) = plic_access.loaded b.plic off size (levels_of b.console)
loaded_in b size (Console off) = console_access.loaded b.console off size
loaded_in b size Nowhere = None

-- what such a load leaves
abbrev pub after_load_in : BoardState → ℕ → Place → BoardState
after_load_in b size (Clint off) = b
after_load_in b size (Plic off) = record b { plic = plic_access.after_load b.plic off size (levels_of b.console) }
after_load_in b size (Console off) = record b { console = console_access.after_load b.console off size }
after_load_in b size Nowhere = b

-- what a store of the low `size` bytes of a value leaves
abbrev pub stored_in : BoardState → ℕ → ℕ → Place → BoardState
stored_in b size value (Clint off) = record b { clint = clint_access.stored b.clint off size value }
stored_in b size value (Plic off) = record b { plic = plic_access.stored b.plic off size value }
stored_in b size value (Console off) = record b { console = console_access.stored b.console off size value }
stored_in b size value Nowhere = b

-- the bytes that such a store sends out of the console
abbrev pub sent_in : List ℕ → BoardState → ℕ → ℕ → Place → List ℕ
sent_in ram b size value (Clint off) = []
sent_in ram b size value (Plic off) = []
sent_in ram b size value (Console off) = console_access.sent ram b.console off size value
sent_in ram b size value Nowhere = []

-- what a load of `size` bytes at a physical address gives, and nothing where no such register is listed
unfoldable pub loaded : BoardState → ℕ → ℕ → Option ℕ
loaded b at size = loaded_in b size (place_of at)

-- what that load leaves; the same board where none is listed
unfoldable pub after_load : BoardState → ℕ → ℕ → BoardState
after_load b at size = after_load_in b size (place_of at)

-- what a store leaves, which takes the low `size` bytes of the value; the same board where no such register is listed
unfoldable pub stored : BoardState → ℕ → ℕ → ℕ → BoardState
stored b at size value = stored_in b size value (place_of at)

-- the console bytes that a store sends out; none where no such register is listed
unfoldable pub sent : List ℕ → BoardState → ℕ → ℕ → ℕ → List ℕ
sent ram b at size value = sent_in ram b size value (place_of at)

-- one tick of the timer later
abbrev pub ticked : BoardState → BoardState
ticked b = record b { clint = clint.ticked b.clint }

-- the board after an input byte came, which enters the console's queue where there is room
abbrev pub entered : BoardState → ℕ → BoardState
entered b byte = record b { console = console.entered b.console byte }

-- bit n alone where that interrupt is due, and else no bit
abbrev pub signal : ℕ → Bool → ℕ
signal n due = if due then 2 ^ n else 0

-- the bits of mip that devices may drive: of the software interrupt, the timer's, and the external ones of S and of M
abbrev pub driven_bits : ℕ
driven_bits = 2 ^ 3 + 2 ^ 7 + 2 ^ 9 + 2 ^ 11

-- the bits of mip that the devices drive for hart h (Privileged ISA, "Machine Interrupt Registers"): the software
-- interrupt, the timer's, and the external ones of S and of M, which are those of the hart's two contexts
unfoldable pub live : BoardState → ℕ → ℕ
live b h =
    signal 3 (is_soft_due b.clint h) + signal 7 (is_timer_due b.clint h)
    + signal 9 (is_due b.plic (2 * h + 1) (levels_of b.console))
    + signal 11 (is_due b.plic (2 * h) (levels_of b.console))
