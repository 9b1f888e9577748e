-- What a walker remembers, as the address of an access of the hart in its own mode.
use Rattle.std.proofs.Common.{◌≡◌, ℕ, ◌+◌, ◌/◌, ◌%◌, List, Option, Some, None, Ok, ap}
use Rattle.std.specs.Prelude.{IfSome}
use Rattle.csr_file.specs.Bits.{mstatus_mxr, mstatus_sum}
use Rattle.trap_rules.specs.Status.{has_any}
use Rattle.sv39_walk.specs.declared.Kind.{Kind}
use Rattle.sv39_walk.specs.Slots.{LeadsTo}
use Rattle.hart_step.specs.declared.hart.Hart.{Hart}
use Rattle.hart_step.specs.Memory.{or_exception, physical}

pub led : (hart : Hart) (ram : List ℕ) (kind : Kind) (va : ℕ) (r : Option ℕ) → IfSome r (λ base. LeadsTo ram hart.csrs.kept.satp hart.mode kind va base) → IfSome r (λ base. (other : ℕ) → other / 4096 ≡ va / 4096 → physical hart.mode kind hart ram other ≡ Ok (base + other % 4096))
led hart ram kind va None leads = leads
led hart ram kind va (Some base) leads = λ other same. ap (or_exception kind other) (leads (has_any hart.csrs.kept.mstatus mstatus_sum) (has_any hart.csrs.kept.mstatus mstatus_mxr) other same)
