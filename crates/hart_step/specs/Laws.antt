-- What follows from the definitions: every step, a store of the host and lost reservations keep a core well formed, and
-- an event shows what its step stored.
use Rattle.std.specs.Prelude.{◌≡◌, ◌%◌, ◌^◌, ◌<◌, ◌≤◌, ◌⊎◌, ℕ, List, [], IsFalse, IsTrue, length}
use Rattle.board_bus.specs.Listed.{is_listed}
use Rattle.hart_step.specs.declared.hart.Hart.{Hart}
use Rattle.hart_step.specs.Allowed.{IsAllowed}
use Rattle.hart_step.specs.Answers.{Access, Given, Loads, Stores, Untouched}
use Rattle.hart_step.specs.DebugReset.{debug_core}
use Rattle.hart_step.specs.Events.{shown_store}
use Rattle.hart_step.specs.Fit.{AreBytes, IsFit}
use Rattle.hart_step.specs.Harts.{CoreState, hart_of, is_in_debug, reset_core}
use Rattle.hart_step.specs.Memory.{MemoryState, most_rom}
use Rattle.hart_step.specs.Step.{Answer, hart_step, host_cleared, step, unreserved}

-- a device access is of a register that a board of n harts lists, and a value that is stored has as many bytes
abbrev pub IsListedAccess : ℕ → Access → Type 0
IsListedAccess n Untouched = Unit {0}
IsListedAccess n (Loads at size) = IsTrue (is_listed n at size)
IsListedAccess n (Stores at size value) = IsTrue (is_listed n at size) × (value < 256 ^ size)

-- a core is well formed after a change, with as many harts, as many bytes of RAM, and the same ROM or none; and a hart
-- that is out of debug mode stays out of it
pub record StaysWellFormed (before after : CoreState) : Type 0 where
  pub fit : IsFit after
  pub harts : length after.harts ≡ length before.harts
  pub ram : length after.ram ≡ length before.ram
  pub rom : (after.rom ≡ before.rom) ⊎ (after.rom ≡ [])
  pub outside : (k : ℕ) → IsFalse (is_in_debug (hart_of before k)) → IsFalse (is_in_debug (hart_of after k))

-- so it is after a step, whose device access is of a register that there is
pub record StepStaysFit (before : CoreState) (answer : Answer) : Type 0 where
  pub core : StaysWellFormed before answer.core
  pub access : IsListedAccess (length before.harts) answer.access

-- every step of a well-formed core that is given what it may be given
abbrev pub StepsStayFit : Type 0
StepsStayFit = (given : Given) (core : CoreState) (h : ℕ) →
    IsFit core → h < length core.harts → IsAllowed (hart_of core h) given → StepStaysFit core (step given core h)

-- what a step of a hart stored is what its event shows as stored
abbrev pub EventsShowStores : Type 0
EventsShowStores = (given : Given) (n h : ℕ) (hart : Hart) (memory : MemoryState) →
    shown_store (hart_step given n h hart memory).event ≡ (hart_step given n h hart memory).stored

-- a store of the host, wherever it goes
abbrev pub HostStaysFit : Type 0
HostStaysFit = (core : CoreState) (at : ℕ) → IsFit core → StaysWellFormed core (host_cleared core at)

-- the loss of every reservation
abbrev pub UnreservedStaysFit : Type 0
UnreservedStaysFit = (core : CoreState) → IsFit core → StaysWellFormed core (unreserved core)

-- a core at reset is well formed, of one to eight harts, over bytes, and with an even entry
abbrev pub ResetIsFit : Type 0
ResetIsFit = (harts : ℕ) (ram : List ℕ) (entry : ℕ) →
    0 < harts → harts ≤ 8 → AreBytes ram → entry % 2 ≡ 0 → entry < 2 ^ 64 → IsFit (reset_core harts ram entry)

-- and so is one at reset in debug mode, with a boot ROM of bounded length
abbrev pub DebugResetIsFit : Type 0
DebugResetIsFit = (harts : ℕ) (ram rom : List ℕ) →
    0 < harts → harts ≤ 8 → AreBytes ram → AreBytes rom → length rom ≤ most_rom → IsFit (debug_core harts ram rom)
