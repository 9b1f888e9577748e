-- What a step is given by its surroundings, and what it asks of them.
use Rattle.std.specs.Prelude.{ℕ, Bool, List, Option}
use Rattle.rv_alu.specs.declared.Mode.{Mode}
use Rattle.csr_file.specs.declared.registers.Registers.{Registers}
use Rattle.hart_step.specs.declared.hart.Hart.{Hart}

-- what a step is given by whoever chooses where the manuals permit several behaviours: an interrupt that
-- is taken, what a device answers to a load of an address and size, what a volatile register reads as by
-- its number, and whether a store-conditional that may succeed does
pub record Given : Type 0 where
  pub interrupt : Option ℕ
  pub device : ℕ → ℕ → ℕ
  pub volatile : ℕ → ℕ
  pub may_win : Bool

-- the one device access of a step: none, a load of an address and size, or a store of a value there
pub data Access : Type 0 where
  Untouched : Access
  Loads : ℕ → ℕ → Access
  Stores : ℕ → ℕ → ℕ → Access

-- what the surroundings say to a hart: the interrupt that it takes with these registers in this mode, what a device
-- register answers to its load of an address and size, what a volatile register reads as by its number and the
-- registers, and whether its store-conditional succeeds where it may
pub record Says : Type 0 where
  pub interrupt : Registers → Mode → Option ℕ
  pub device : ℕ → ℕ → ℕ
  pub volatile : ℕ → Registers → ℕ
  pub may_win : Bool

-- what that gives a step of the hart
abbrev pub given_by : Says → Hart → Given
given_by says hart = record {
  interrupt = says.interrupt hart.csrs hart.mode;
  device = says.device;
  volatile = λ number. says.volatile number hart.csrs;
  may_win = says.may_win;
}

-- the surroundings after a step of hart h with this memory: a step without a device access leaves them as they were,
-- and what one makes of them is their own
abbrev pub after_access : {A : Type 0} → (A → ℕ → List ℕ → Access → A) → A → ℕ → List ℕ → Access → A
after_access after old h ram Untouched = old
after_access after old h ram (Loads at size) = after old h ram (Loads at size)
after_access after old h ram (Stores at size value) = after old h ram (Stores at size value)
