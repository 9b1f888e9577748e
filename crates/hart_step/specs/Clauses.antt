-- What the contracts of several functions say, each as one record.
use Rattle.std.specs.Prelude.{◌≡◌, ◌%◌, ℕ, IfOk, List, Ok, Result, length}
use Rattle.hart_step.specs.declared.event.Event.{Event}
use Rattle.hart_step.specs.declared.hart.Hart.{Hart}
use Rattle.hart_step.specs.Answers.{Access, Says, after_access, given_by}
use Rattle.hart_step.specs.Done.{Done}
use Rattle.hart_step.specs.Events.{IsDone, IsEvent}
use Rattle.hart_step.specs.Harts.{CoreState, StaysFit, hart_of}
use Rattle.hart_step.specs.Memory.{Exception, MemoryState}
use Rattle.hart_step.specs.Step.{Answer, step}

-- ---- an address

-- what a translation of an address answers; it changes nothing
pub record Translates (va : ℕ) (memory left : MemoryState) (answer is : Result ℕ Exception) : Type 0 where
  -- what the definition says
  pub answer_is : answer ≡ is
  -- a physical address has the place of the virtual one in its page
  pub place : IfOk answer (λ at. at % 4096 ≡ va % 4096)
  -- the RAM and the ROM stay as they were
  pub same : left ≡ memory

-- what is answered for a data access of so many bytes; that changes nothing
pub record Locates (size : ℕ) (memory left : MemoryState) (answer is : Result ℕ Exception) : Type 0 where
  -- what the definition says
  pub answer_is : answer ≡ is
  -- a physical address is aligned
  pub aligned : IfOk answer (λ at. at % size ≡ 0)
  -- the RAM and the ROM stay as they were
  pub same : left ≡ memory

-- ---- an instruction

-- what every instruction and every step of a hart keeps
pub record Keeps (hart after : Hart) (memory left : MemoryState) : Type 0 where
  -- RAM stays as long as it was
  pub ram : length left.ram ≡ length memory.ram
  -- the boot ROM stays as it was
  pub rom : left.rom ≡ memory.rom
  -- the hart stays fit
  pub fit : StaysFit hart after

-- what an instruction does that always succeeds, and touches neither memory nor the surroundings
pub record CarriesOut (before after : Hart) (result : Result Done Exception) (hart : Hart) (done : Done) : Type 0 where
  -- it leaves this hart
  pub hart_is : after ≡ hart
  -- it did this
  pub done_is : result ≡ Ok done
  -- what it did is well formed
  pub formed : IfOk result IsDone
  -- the hart stays fit
  pub fit : StaysFit before after

-- ---- a step

-- the step of hart h of a core under what the surroundings say to it
abbrev pub step_by : Says → CoreState → ℕ → Answer
step_by says core h = step (given_by says (hart_of core h)) core h

-- what a step of hart h does to the core that was `before`, to the surroundings, and to the place of its event
pub record CoreLeaves {A : Type 0} (after : A → ℕ → List ℕ → Access → A) (old new : A) (h : ℕ) (before core : CoreState) (event : Event) (answer : Answer) : Type 0 where
  -- it shows the event that the definition says
  pub event_is : event ≡ answer.event
  -- the event is well formed
  pub formed : IsEvent event
  -- it leaves the core that the definition says
  pub core_is : core ≡ answer.core
  -- there are as many harts as before
  pub harts : length core.harts ≡ length before.harts
  -- RAM stays as long as it was
  pub ram : length core.ram ≡ length before.ram
  -- the surroundings are as its device access leaves them
  pub outside : new ≡ after_access after old h core.ram answer.access
