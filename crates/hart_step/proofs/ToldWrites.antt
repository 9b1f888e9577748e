-- A register that is written, and the reservation of its hart.
use Rattle.std.proofs.Common.{◌≡◌, ℕ, ◌==◌, Bool, true, false, if◌then◌else◌, Option, Some, None, refl, sym}
use Rattle.hart_step.specs.declared.hart.Hart.{Hart}
use Rattle.hart_step.specs.Effects.{with_write}
use Rattle.hart_step.specs.Told.{Covers, reserved}

-- a register that is written does not touch a reservation
write_cases : (b : Bool) (r : Option ℕ) (hart other : Hart) (next : ℕ) → record (if b then reserved r hart else reserved r other) { pc = next } ≡ reserved r (record (if b then hart else other) { pc = next })
write_cases true r hart other next = refl
write_cases false r hart other next = refl

pub write_reserved : (r : Option ℕ) (hart : Hart) (rd value next : ℕ) → with_write (reserved r hart) rd value next ≡ reserved r (with_write hart rd value next)
write_reserved r hart rd value next = write_cases (rd == 0) r hart _ next

kept_cases : (b : Bool) (x y : Hart) (next : ℕ) → x.reservation ≡ y.reservation → (record (if b then x else y) { pc = next }).reservation ≡ x.reservation
kept_cases true x y next same = refl
kept_cases false x y next same = sym same

pub write_keeps : (hart : Hart) (rd value next : ℕ) → (with_write hart rd value next).reservation ≡ hart.reservation
write_keeps hart rd value next = kept_cases (rd == 0) hart _ next refl

pub covers_itself : (r : Option ℕ) → Covers r r
covers_itself None = tt
covers_itself (Some at) = refl
