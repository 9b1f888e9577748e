-- A boot, by what its steps left and the fault that ended it.
use Rattle.std.proofs.Common.{◌≡◌, ℕ, List, Option, [], sym, ap, subst, ◌∙◌}
use Rattle.std.specs.Prelude.{Result, IfErr, IfOk, IsFalse, IsTrue}
use Rattle.hart_step.specs.declared.event.Event.{Event}
use Rattle.hart_turns.specs.contracts.machine.Machine.{the_view}
use Rattle.hart_turns.specs.declared.booting.BootFault.{BootFault}
use Rattle.hart_turns.specs.Boot.{Booted, Booting, answer_of, begins_boot, booted, machine_at}
use Rattle.hart_turns.specs.Kept.{booting_of}
use Rattle.hart_turns.specs.Machine.{MachineState, MachineView, is_running}
use Rattle.hart_turns.specs.Turn.{Progress}
use Rattle.hart_turns.proofs.BootAnswers.{booted_is, held_where_refused, runs_where_answered}
use Rattle.hart_turns.proofs.machine.Machine.boot.Goals as goal

pub returns : goal.returns
returns c =
    let m : MachineState = (the_view c.self.inside).machine in
    let left : Booting = booting_of c.boot-fault.new.self c.boot-fault.new.steps in
    let fault : Option BootFault = c.boot-fault.result in
    let start : Booting = booting_of c.begin.new.self 0 in
    let begins : start ≡ begins_boot m = ap (λ (p : Progress). record { core = p.core; board = p.board; console = p.console; steps = 0 }) c.begin.ensures.progress in
    let here : booted m ≡ record { left = left; fault = fault } = booted_is m start left fault begins c.boot-fault.ensures.fault c.boot-fault.ensures.left in
    let now : booted c.args.self.now.machine ≡ record { left = left; fault = fault } = ap (λ (v : MachineView). booted v.machine) (sym c.self.view_is) ∙ here in
    let own : machine_at m left ≡ machine_at c.args.self.now.machine left = ap (λ (v : MachineView). machine_at v.machine left) c.self.view_is in
    record {
      answer = c.answer.ensures ∙ sym (ap answer_of now);
      left =
          ap (λ (es : List Event). record { machine = machine_at m left; console = left.console; events = es }) c.clear.ensures.items
          ∙ ap (λ (n : MachineState). record { machine = n; console = left.console; events = [] }) own
          ∙ sym (ap (λ (b : Booted). record { machine = machine_at c.args.self.now.machine b.left; console = b.left.console; events = [] }) now);
      running = subst (λ (r : Result ℕ BootFault). IfOk r (λ steps. IsTrue (is_running (machine_at m left)))) (sym c.answer.ensures)
          (runs_where_answered m left fault c.self.invariant.fits.harts here);
      held = subst (λ (r : Result ℕ BootFault). IfErr r (λ why. IsFalse (is_running (machine_at m left)))) (sym c.answer.ensures)
          (held_where_refused m left fault c.self.invariant.fits.harts here);
    }
