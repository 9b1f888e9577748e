-- A boot: each hart in debug mode, in order of number, makes its steps until it leaves that mode. So it is always the
-- lowest hart in debug mode that steps (Lowest.antt), and all others are held (External Debug Support, "Debug Mode"; the
-- order and the bound on steps are this project's own). Nothing here knows how a boot ROM was made.
use Rattle.std.specs.Prelude.{◌≡◌, ℕ, zero, suc, ◌+◌, ◌++◌, if◌then◌else◌, List, [], Option, Some, None, Result, Ok, Err}
use Rattle.board_bus.specs.Board.{BoardState}
use Rattle.hart_step.specs.Events.{exception_of}
use Rattle.hart_step.specs.Harts.{CoreState, hart_of, is_in_debug}
use Rattle.hart_step.specs.Step.{Answer}
use Rattle.hart_turns.specs.declared.booting.BootFault.{BootFault}
use Rattle.hart_turns.specs.declared.booting.BootFault.TheVariants.{Trap, Long}
use Rattle.hart_turns.specs.Gives.{board_after, board_step, sent_by}
use Rattle.hart_turns.specs.Machine.{MachineState}

-- the most steps of a hart in one boot
abbrev pub most_steps : ℕ
most_steps = 1024

-- a machine on its way through a boot: its harts and devices, the console bytes that were sent, and how many steps
-- were made
pub record Booting : Type 0 where
  pub core : CoreState
  pub board : BoardState
  pub console : List ℕ
  pub steps : ℕ

-- where a boot has come to, and the fault that ended it, if one did
pub record Booted : Type 0 where
  pub left : Booting
  pub fault : Option BootFault

-- ---- one step

-- after a step
abbrev pub after_boot_step : Booting → Answer → Booting
after_boot_step b a = record {
  core = a.core;
  board = board_after b.board a.access;
  console = b.console ++ sent_by a.core.ram b.board a.access;
  steps = b.steps + 1;
}

-- a boot step of hart h
abbrev pub boot_step : ℕ → Booting → Booting
boot_step h b = after_boot_step b (board_step b.core b.board h)

-- the exception that this step shows
abbrev pub step_exception : ℕ → Booting → Option (ℕ × ℕ)
step_exception h b = exception_of (board_step b.core b.board h).event

-- ---- the steps of one hart

-- after a step of hart h: an exception ends the boot, a hart that has left debug mode has done its part, and another
-- goes on
abbrev pub onward : ℕ → Option (ℕ × ℕ) → Booting → (Booting → Booted) → Booted
onward h (Some e) b go = record { left = b; fault = Some (Trap h e.0 e.1) }
onward h None b go = if is_in_debug (hart_of b.core h) then go b else record { left = b; fault = None }

-- hart h, which is in debug mode, steps until it leaves it, so many times at the most
unfoldable pub boot_hart : ℕ → ℕ → Booting → Booted
boot_hart zero h b = record { left = b; fault = Some (Long h) }
boot_hart (suc fuel) h b = onward h (step_exception h b) (boot_step h b) (boot_hart fuel h)

-- n steps of hart h lead from b to b', whatever number of steps is left to it then
abbrev pub Leads : ℕ → ℕ → Booting → Booting → Type 0
Leads h n b b' = (left : ℕ) → boot_hart (n + left) h b ≡ boot_hart left h b'

-- n steps of hart h lead from b to b', where it has left debug mode
abbrev pub Frees : ℕ → ℕ → Booting → Booting → Type 0
Frees h n b b' = (left : ℕ) → boot_hart (n + left) h b ≡ record { left = b'; fault = None }

-- ---- the boot

-- hart h has its part where the harts before it have done theirs
abbrev pub boots_next : ℕ → Booting → Option BootFault → Booted
boots_next h b None = if is_in_debug (hart_of b.core h) then boot_hart most_steps h b else record { left = b; fault = None }
boots_next h b (Some fault) = record { left = b; fault = Some fault }

-- the first n harts have their parts
unfoldable pub boot_harts : ℕ → Booting → Booted
boot_harts zero b = record { left = b; fault = None }
boot_harts (suc n) b = boots_next n (boot_harts n b).left (boot_harts n b).fault

-- the beginning of a boot
abbrev pub begins_boot : MachineState → Booting
begins_boot m = record { core = m.core; board = m.board; console = []; steps = 0 }

-- the boot of a machine
unfoldable pub booted : MachineState → Booted
booted m = boot_harts m.shape.harts (begins_boot m)

-- the machine that a boot has come to
abbrev pub machine_at : MachineState → Booting → MachineState
machine_at m b = record m { core = b.core; board = b.board }

-- what a boot answers: how many steps were made, or the fault that ended it
abbrev pub answered : ℕ → Option BootFault → Result ℕ BootFault
answered steps None = Ok steps
answered steps (Some fault) = Err fault

abbrev pub answer_of : Booted → Result ℕ BootFault
answer_of b = answered b.left.steps b.fault

-- n boot steps, each made by the lowest hart in debug mode, none of them an exception and at most 1,024 of any hart, lead
-- from m to m', where no hart is in debug mode (`BootsAreLowest`), and send these bytes
pub record Boots (m : MachineState) (n : ℕ) (m' : MachineState) (bytes : List ℕ) : Type 0 where
  pub shape : m'.shape ≡ m.shape
  pub taken : m'.taken ≡ m.taken
  pub boots : booted m ≡ record { left = record { core = m'.core; board = m'.board; console = bytes; steps = n }; fault = None }
