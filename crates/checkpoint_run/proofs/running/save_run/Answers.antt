-- The run ended before the save; it was cut in the save or in the turns after it; or it made them. Without its
-- reservations the machine runs on.
use Rattle.std.proofs.Common.{◌≤◌, ap, arith, inr}
use Rattle.hart_turns.specs.Machine.{MachineView}
use Rattle.turn_runs.proofs.Runs.{goes_at}
use Rattle.checkpoint_run.proofs.Joins.{cut_after_save, cut_in_save, run_saved, run_unsaved, saved_reached}
use Rattle.checkpoint_run.proofs.Keeps.{runs_cleared}
use Rattle.checkpoint_run.proofs.running.save_run.Goals as goal

pub returns-then-has_ended-clause-ran : goal.returns-then-has_ended-clause-ran
returns-then-has_ended-clause-ran g c = λ bytes from fed.
    run_unsaved c.args.name.now c.args.machine.now.machine c.args.turns c.args.more
    (c.has_ended.ensures.ended c.if-has_ended.true) (c.in-Ok.ensures.ran bytes from fed)

pub returns-in-Err-save_machine-clause-cut : goal.returns-in-Err-save_machine-clause-cut
returns-in-Err-save_machine-clause-cut g c = λ bytes from fed.
    let stands = goes_at (c.has_ended.ensures.goes c.if-has_ended.false) (c.in-Ok.ensures.ran bytes from fed) in
    let takes_few = c.run_unlogged.ensures.takes_few in
    let few : c.run_unlogged.new.machine.machine.taken ≤ 1000000000000 = omega (arith, takes_few, c.requires.taken) in
    inr (cut_in_save c.args.name.now c.args.machine.now.machine c.args.turns c.args.more stands c.in-Err-save_machine.ensures.cut few)

pub returns-in-Ok-run_unlogged-clause-ran : goal.returns-in-Ok-run_unlogged-clause-ran
returns-in-Ok-run_unlogged-clause-ran g c = λ bytes from fed.
    let stands = goes_at (c.has_ended.ensures.goes c.if-has_ended.false) (c.in-Ok.ensures.ran bytes from fed) in
    let saved = c.in-Ok-save_machine.ensures.saved in
    let is = ap (λ (view : MachineView). view.machine) c.clear_reservations.ensures in
    let at = saved_reached c.args.name.now saved.rom stands.reached saved.does is in
    let takes_few = c.run_unlogged.ensures.takes_few in
    let few : c.run_unlogged.new.machine.machine.taken ≤ 1000000000000 = omega (arith, takes_few, c.requires.taken) in
    run_saved c.args.name.now c.args.machine.now.machine c.args.turns c.args.more stands saved few is
    (c.in-Ok-run_unlogged.ensures.ran bytes _ at.fed)

pub returns-in-Err-run_unlogged-clause-cut : goal.returns-in-Err-run_unlogged-clause-cut
returns-in-Err-run_unlogged-clause-cut g c = λ bytes from fed.
    let stands = goes_at (c.has_ended.ensures.goes c.if-has_ended.false) (c.in-Ok.ensures.ran bytes from fed) in
    let saved = c.in-Ok-save_machine.ensures.saved in
    let is = ap (λ (view : MachineView). view.machine) c.clear_reservations.ensures in
    let at = saved_reached c.args.name.now saved.rom stands.reached saved.does is in
    let takes_few = c.run_unlogged.ensures.takes_few in
    let few : c.run_unlogged.new.machine.machine.taken ≤ 1000000000000 = omega (arith, takes_few, c.requires.taken) in
    inr (cut_after_save c.args.name.now c.args.machine.now.machine c.args.turns c.args.more stands saved few is
    (c.in-Err-run_unlogged.ensures.cut bytes _ at.fed))

pub returns-in-Ok-run_unlogged-clause-running : goal.returns-in-Ok-run_unlogged-clause-running
returns-in-Ok-run_unlogged-clause-running g c =
    c.run_unlogged-2.ensures.running
    (runs_cleared _ (ap (λ (view : MachineView). view.machine) c.clear_reservations.ensures) (c.run_unlogged.ensures.running c.requires.running))

pub returns-in-Err-run_unlogged-clause-running : goal.returns-in-Err-run_unlogged-clause-running
returns-in-Err-run_unlogged-clause-running g c =
    c.run_unlogged-2.ensures.running
    (runs_cleared _ (ap (λ (view : MachineView). view.machine) c.clear_reservations.ensures) (c.run_unlogged.ensures.running c.requires.running))
