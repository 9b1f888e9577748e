-- What a step may be given.
use Rattle.std.specs.Prelude.{◌^◌, ◌<◌, ℕ, IfSome, IsTrue}
use Rattle.csr_file.specs.View.{IsGiven}
use Rattle.trap_rules.specs.Interrupt.{may_be_taken}
use Rattle.hart_step.specs.declared.hart.Hart.{Hart}
use Rattle.hart_step.specs.Answers.{Given}

-- the manuals allow it: an interrupt that is given may be taken, a device's answer has as many bytes as were asked
-- for, and a volatile register reads within its volatile bits. A store-conditional that may succeed may also fail
pub record IsAllowed (hart : Hart) (given : Given) : Type 0 where
  pub interrupt : IfSome given.interrupt (λ cause. IsTrue (may_be_taken hart.csrs hart.mode cause))
  pub device : (at size : ℕ) → given.device at size < 256 ^ size
  pub volatile : (number : ℕ) → IsGiven number (given.volatile number)
