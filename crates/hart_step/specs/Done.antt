-- What an instruction did that was carried out.
use Rattle.std.specs.Prelude.{ℕ, Option, Some, None}
use Rattle.hart_step.specs.declared.done.DoneKind.{DoneKind}
use Rattle.hart_step.specs.declared.done.DoneKind.TheVariants.{Register, Store, Access}
use Rattle.hart_step.specs.declared.event.Put.{Put}

-- what its event shows: the register that it wrote, what it stored, what a device answered, and what a volatile
-- register read as; and, for the counters, the control and status register that it wrote
pub record Done : Type 0 where
  pub rd : Option (ℕ × ℕ)
  pub st : Option Put
  pub dv : Option ℕ
  pub vl : Option ℕ
  pub wrote : Option ℕ

-- the same of what is kept by kind
abbrev pub done_of : DoneKind → Done
done_of (Register rd) = record { rd = rd; st = None; dv = None; vl = None; wrote = None }
done_of (Store rd st) = record { rd = rd; st = Some st; dv = None; vl = None; wrote = None }
done_of (Access rd dv vl wrote) = record { rd = rd; st = None; dv = dv; vl = vl; wrote = wrote }
