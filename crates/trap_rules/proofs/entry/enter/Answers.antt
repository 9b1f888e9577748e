use Rattle.std.proofs.Common.{sym, subst, ap, ◌∙◌}
use Rattle.std.specs.Prelude.{IsNone}
use Rattle.std.proofs.lemmas.Bool.{and_parts}
use Rattle.trap_rules.specs.Status.{machine_previous, supervisor_previous}
use Rattle.trap_rules.proofs.ReturnLaws.{machine_entered-debug, supervisor_entered-debug, machine_entered-mode, machine_entered-pc, supervisor_entered-mode, supervisor_entered-pc}
use Rattle.trap_rules.proofs.entry.enter.Goals as goal

pub returns-then-goes_to_supervisor-clause-return_mode : goal.returns-then-goes_to_supervisor-clause-return_mode
returns-then-goes_to_supervisor-clause-return_mode c =
    ap (λ r. supervisor_previous r.kept.mstatus) c.enter_supervisor.ensures ∙ supervisor_entered-mode c.args.mode c.args.cause c.args.tval c.args.pc c.args.csrs.now (and_parts _ _ (sym c.goes_to_supervisor.ensures ∙ c.if-goes_to_supervisor.true)).0

pub returns-then-goes_to_supervisor-clause-return_pc : goal.returns-then-goes_to_supervisor-clause-return_pc
returns-then-goes_to_supervisor-clause-return_pc c =
    ap (λ r. r.kept.sepc) c.enter_supervisor.ensures ∙ supervisor_entered-pc c.args.mode c.args.cause c.args.tval c.args.pc c.args.csrs.now c.ranges.pc.fits c.requires.even_pc

pub returns-else-goes_to_supervisor-clause-return_mode : goal.returns-else-goes_to_supervisor-clause-return_mode
returns-else-goes_to_supervisor-clause-return_mode c =
    ap (λ r. machine_previous r.kept.mstatus) c.enter_machine.ensures ∙ machine_entered-mode c.args.mode c.args.cause c.args.tval c.args.pc c.args.csrs.now

pub returns-else-goes_to_supervisor-clause-return_pc : goal.returns-else-goes_to_supervisor-clause-return_pc
returns-else-goes_to_supervisor-clause-return_pc c =
    ap (λ r. r.kept.mepc) c.enter_machine.ensures ∙ machine_entered-pc c.args.mode c.args.cause c.args.tval c.args.pc c.args.csrs.now c.ranges.pc.fits c.requires.even_pc

pub returns-then-goes_to_supervisor-clause-outside_debug : goal.returns-then-goes_to_supervisor-clause-outside_debug
returns-then-goes_to_supervisor-clause-outside_debug c =
    subst IsNone (sym (ap (λ r. r.debug) c.enter_supervisor.ensures ∙ supervisor_entered-debug c.args.mode c.args.cause c.args.tval c.args.pc c.args.csrs.now)) c.requires.outside_debug

pub returns-else-goes_to_supervisor-clause-outside_debug : goal.returns-else-goes_to_supervisor-clause-outside_debug
returns-else-goes_to_supervisor-clause-outside_debug c =
    subst IsNone (sym (ap (λ r. r.debug) c.enter_machine.ensures ∙ machine_entered-debug c.args.mode c.args.cause c.args.tval c.args.pc c.args.csrs.now)) c.requires.outside_debug
