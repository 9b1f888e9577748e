-- What a machine's boot leaves and answers.
use Rattle.std.proofs.Common.{◌≡◌, length, sym, ap, ap₂, subst, ◌∙◌}
use Rattle.std.specs.Prelude.{Option, Some, None, IfErr, IfOk, IsFalse, IsTrue}
use Rattle.hart_turns.specs.declared.booting.BootFault.{BootFault}
use Rattle.hart_turns.specs.Boot.{Booted, Booting, answered, begins_boot, boot_harts, booted, machine_at}
use Rattle.hart_turns.specs.Machine.{MachineState, is_running}
use Rattle.hart_turns.proofs.BootEnds.{boots_end_lem}

pub booted_is : (m : MachineState) (start left : Booting) (fault : Option BootFault) → start ≡ begins_boot m → fault ≡ (boot_harts m.shape.harts start).fault → left ≡ (boot_harts m.shape.harts start).left → booted m ≡ record { left = left; fault = fault }
unfolding booted
booted_is m start left fault begins fault_is left_is =
    ap (boot_harts m.shape.harts) (sym begins)
    ∙ ap₂ (λ (b : Booting) (f : Option BootFault). record { left = b; fault = f }) (sym left_is) (sym fault_is)

-- where it is answered how many steps were made, the machine is running
pub runs_where_answered : (m : MachineState) (left : Booting) (fault : Option BootFault) → length m.core.harts ≡ m.shape.harts → booted m ≡ record { left = left; fault = fault } → IfOk (answered left.steps fault) (λ steps. IsTrue (is_running (machine_at m left)))
runs_where_answered m left None many is =
    subst (λ (b : Booted). IsTrue (is_running (machine_at m b.left))) is (boots_end_lem.freed m many (ap (λ (b : Booted). b.fault) is))
runs_where_answered m left (Some fault) many is = tt

-- and where it is refused, the machine is not
pub held_where_refused : (m : MachineState) (left : Booting) (fault : Option BootFault) → length m.core.harts ≡ m.shape.harts → booted m ≡ record { left = left; fault = fault } → IfErr (answered left.steps fault) (λ why. IsFalse (is_running (machine_at m left)))
held_where_refused m left None many is = tt
held_where_refused m left (Some fault) many is =
    subst (λ (b : Booted). IsFalse (is_running (machine_at m b.left))) is (boots_end_lem.held m fault many (ap (λ (b : Booted). b.fault) is))
