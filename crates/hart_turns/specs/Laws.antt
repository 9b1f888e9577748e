-- What follows from the definitions: what the board gives is allowed, and what a boot does.
use Rattle.std.specs.Prelude.{◌≡◌, ◌-◌, ℕ, IsFalse, IsTrue, Some, None, length}
use Rattle.board_bus.specs.Board.{BoardState}
use Rattle.hart_step.specs.Allowed.{IsAllowed}
use Rattle.hart_step.specs.declared.hart.Hart.{Hart}
use Rattle.hart_turns.specs.declared.booting.BootFault.{BootFault}
use Rattle.hart_turns.specs.declared.booting.BootFault.TheVariants.{Trap, Long}
use Rattle.hart_turns.specs.Boot.{Booting, booted, machine_at}
use Rattle.hart_turns.specs.Gives.{board_gives}
use Rattle.hart_turns.specs.Lowest.{BootFrees, BootHolds, BootTraps}
use Rattle.hart_turns.specs.Machine.{MachineState, is_running}

-- what the board gives a hart is allowed
abbrev pub BoardIsAllowed : Type 0
BoardIsAllowed = (board : BoardState) (h : ℕ) (hart : Hart) → IsAllowed hart (board_gives board h hart)

-- the boot of a machine is what steps of the lowest hart in debug mode lead to, and what they lead to is its boot:
-- without a fault, until no hart is in debug mode; with `Trap`, to the step that is an exception; and with `Long`, until
-- a hart that is in debug mode has made 1,024 of them
pub record BootsAreLowest : Type 0 where
  pub freed : (m : MachineState) → length m.core.harts ≡ m.shape.harts → (booted m).fault ≡ None → BootFrees m (booted m).left.steps (booted m).left
  pub frees : (m : MachineState) (n : ℕ) (c : Booting) → length m.core.harts ≡ m.shape.harts → BootFrees m n c → booted m ≡ record { left = c; fault = None }
  pub trapped : (m : MachineState) (h pc cause : ℕ) → length m.core.harts ≡ m.shape.harts → (booted m).fault ≡ Some (Trap h pc cause) → BootTraps m ((booted m).left.steps - 1) h pc cause (booted m).left
  pub traps : (m : MachineState) (n h pc cause : ℕ) (c : Booting) → length m.core.harts ≡ m.shape.harts → BootTraps m n h pc cause c → booted m ≡ record { left = c; fault = Some (Trap h pc cause) }
  pub held : (m : MachineState) (h : ℕ) → length m.core.harts ≡ m.shape.harts → (booted m).fault ≡ Some (Long h) → BootHolds m (booted m).left.steps h (booted m).left
  pub holds : (m : MachineState) (n h : ℕ) (c : Booting) → length m.core.harts ≡ m.shape.harts → BootHolds m n h c → booted m ≡ record { left = c; fault = Some (Long h) }

-- a boot without a fault leaves no hart in debug mode, and one that a fault ended leaves one there
pub record BootsEnd : Type 0 where
  pub freed : (m : MachineState) → length m.core.harts ≡ m.shape.harts → (booted m).fault ≡ None → IsTrue (is_running (machine_at m (booted m).left))
  pub held : (m : MachineState) (fault : BootFault) → length m.core.harts ≡ m.shape.harts → (booted m).fault ≡ Some fault → IsFalse (is_running (machine_at m (booted m).left))
