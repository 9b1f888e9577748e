-- A turn, by its progress and its end.
use Rattle.std.proofs.Common.{ap, sym, ◌∙◌, arith}
use Rattle.hart_turns.specs.contracts.machine.Machine.{the_view}
use Rattle.hart_turns.specs.Kept.{progress_of}
use Rattle.hart_turns.specs.Machine.{MachineState, MachineView}
use Rattle.hart_turns.specs.Turn.{closed, turned}
use Rattle.hart_turns.specs.declared.machine.TurnEnd.TheVariants.{Goes, Ended, BadHost}
use Rattle.std.specs.Prelude.{if◌then◌else◌, []}
use Rattle.hart_turns.proofs.Turns.{IsTurn, turn_is}
use Rattle.hart_turns.proofs.machine.Machine.turn_of.Goals as goal

pub returns-in-Goes : goal.returns-in-Goes
returns-in-Goes g c =
    let m : MachineState = (the_view c.self.inside).machine in
    let turn : IsTurn g.K.Keeps.keeps m c.args.input (progress_of c.turn-end.new.self) (Goes) =
    turn_is g.K.Keeps.keeps m c.args.input (progress_of c.turn-end.new.self) (Goes) (sym c.in-Goes.is ∙ c.turn-end.ensures.end) c.turn-end.ensures.progress in
    let taken = ap (λ (v : MachineView). v.machine.taken) c.self.view_is in
    record {
      end = c.in-Goes.is ∙ turn.end_is ∙ ap (λ (v : MachineView). (turned v.machine c.args.input).end) c.self.view_is;
      machine = ◌∙◌ {b = closed m c.args.input (progress_of c.turn-end.new.self) Goes} c.close.ensures.machine turn.machine_is ∙ ap (λ (v : MachineView). (turned v.machine c.args.input).machine) c.self.view_is;
      console = c.close.ensures.console ∙ turn.console_is ∙ ap (λ (v : MachineView). (turned v.machine c.args.input).console) c.self.view_is;
      events = c.close.ensures.events ∙ turn.events_are ∙ ap (λ (v : MachineView). if g.K.Keeps.keeps then (turned v.machine c.args.input).events else []) c.self.view_is;
      grows = let least = c.close.ensures.grows in omega (arith, taken);
      at_most_one = let most = c.close.ensures.at_most_one in omega (arith, taken);
    }

pub returns-in-Ended : goal.returns-in-Ended
returns-in-Ended g c =
    let m : MachineState = (the_view c.self.inside).machine in
    let turn : IsTurn g.K.Keeps.keeps m c.args.input (progress_of c.turn-end.new.self) (Ended c.in-Ended.field-0) =
    turn_is g.K.Keeps.keeps m c.args.input (progress_of c.turn-end.new.self) (Ended c.in-Ended.field-0) (sym c.in-Ended.is ∙ c.turn-end.ensures.end) c.turn-end.ensures.progress in
    let taken = ap (λ (v : MachineView). v.machine.taken) c.self.view_is in
    record {
      end = c.in-Ended.is ∙ turn.end_is ∙ ap (λ (v : MachineView). (turned v.machine c.args.input).end) c.self.view_is;
      machine = turn.machine_is ∙ ap (λ (v : MachineView). (turned v.machine c.args.input).machine) c.self.view_is;
      console = turn.console_is ∙ ap (λ (v : MachineView). (turned v.machine c.args.input).console) c.self.view_is;
      events = turn.events_are ∙ ap (λ (v : MachineView). if g.K.Keeps.keeps then (turned v.machine c.args.input).events else []) c.self.view_is;
      grows = omega (arith, taken);
      at_most_one = omega (arith, taken);
    }

pub returns-in-BadHost : goal.returns-in-BadHost
returns-in-BadHost g c =
    let m : MachineState = (the_view c.self.inside).machine in
    let turn : IsTurn g.K.Keeps.keeps m c.args.input (progress_of c.turn-end.new.self) (BadHost c.in-BadHost.field-0) =
    turn_is g.K.Keeps.keeps m c.args.input (progress_of c.turn-end.new.self) (BadHost c.in-BadHost.field-0) (sym c.in-BadHost.is ∙ c.turn-end.ensures.end) c.turn-end.ensures.progress in
    let taken = ap (λ (v : MachineView). v.machine.taken) c.self.view_is in
    record {
      end = c.in-BadHost.is ∙ turn.end_is ∙ ap (λ (v : MachineView). (turned v.machine c.args.input).end) c.self.view_is;
      machine = turn.machine_is ∙ ap (λ (v : MachineView). (turned v.machine c.args.input).machine) c.self.view_is;
      console = turn.console_is ∙ ap (λ (v : MachineView). (turned v.machine c.args.input).console) c.self.view_is;
      events = turn.events_are ∙ ap (λ (v : MachineView). if g.K.Keeps.keeps then (turned v.machine c.args.input).events else []) c.self.view_is;
      grows = omega (arith, taken);
      at_most_one = omega (arith, taken);
    }
