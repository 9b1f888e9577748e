-- What the board gives a step, where the manuals leave a choice, and what a step's device access makes of the board.
use Rattle.std.specs.Prelude.{ℕ, ◌==◌, ◌||◌, true, bit_and, if◌then◌else◌, Option, List, [], unwrap_or}
use Rattle.rv_alu.specs.declared.Mode.{Mode}
use Rattle.rv_alu.specs.Bits.{low_bytes}
use Rattle.csr_file.specs.declared.registers.Registers.{Registers}
use Rattle.csr_file.specs.Numbers.{csr_cycle, csr_mcycle, csr_time}
use Rattle.csr_file.specs.View.{volatile_bits}
use Rattle.trap_rules.specs.Interrupt.{picked}
use Rattle.board_bus.specs.Board.{BoardState, after_load, live, loaded, sent, stored}
use Rattle.hart_step.specs.declared.hart.Hart.{Hart}
use Rattle.hart_step.specs.Answers.{Access, Given, Loads, Says, Stores, Untouched, given_by}
use Rattle.hart_step.specs.Clauses.{step_by}
use Rattle.hart_step.specs.Harts.{CoreState}
use Rattle.hart_step.specs.Step.{Answer}

-- the interrupt that is taken under the signals which the devices drive
abbrev pub board_interrupt : BoardState → ℕ → Registers → Mode → Option ℕ
board_interrupt b h csrs mode = picked csrs mode (live b h)

-- what a device register answers to a load, in as many bytes as were asked for
abbrev pub board_device : BoardState → ℕ → ℕ → ℕ
board_device b at size = low_bytes size (unwrap_or (loaded b at size) 0)

-- the word behind a volatile register: time is the board's timer, cycle and mcycle are the counter that the hart keeps,
-- and mip and sip have the bits that devices drive
abbrev pub board_word : BoardState → ℕ → ℕ → Registers → ℕ
board_word b h number csrs =
    if number == csr_time then b.clint.mtime
    else if (number == csr_cycle) || (number == csr_mcycle) then csrs.kept.mcycle
    else live b h

-- what it reads as, within its volatile bits
abbrev pub board_volatile : BoardState → ℕ → ℕ → Registers → ℕ
board_volatile b h number csrs = bit_and (board_word b h number csrs) (volatile_bits number)

-- what the board says to hart h; it lets each store-conditional win that may
abbrev pub board_says : BoardState → ℕ → Says
board_says b h = record {
  interrupt = board_interrupt b h;
  device = board_device b;
  volatile = board_volatile b h;
  may_win = true;
}

-- what that gives a step of the hart
abbrev pub board_gives : BoardState → ℕ → Hart → Given
board_gives b h hart = given_by (board_says b h) hart

-- what a step of hart h shows and leaves, under what the board gives it
abbrev pub board_step : CoreState → BoardState → ℕ → Answer
board_step core board h = step_by (board_says board h) core h

-- the board after a step's device access
abbrev pub board_after : BoardState → Access → BoardState
board_after b Untouched = b
board_after b (Loads at size) = after_load b at size
board_after b (Stores at size value) = stored b at size value

-- the console bytes that a step's device access sends, out of this memory too
abbrev pub sent_by : List ℕ → BoardState → Access → List ℕ
sent_by ram b Untouched = []
sent_by ram b (Loads at size) = []
sent_by ram b (Stores at size value) = sent ram b at size value
