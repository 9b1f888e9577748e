use Rattle.std.specs.Prelude.{slice_index}
use Rattle.std.proofs.Common.{ℕ, arith, subst}
use Rattle.csr_file.specs.Kept.{kept_value}
use Rattle.rom_gen.specs.Items.{all_insns}
use Rattle.rom_gen.specs.HartWants.{number_wants}
use Rattle.rom_gen.specs.Wants.{Control, want_items, want_values}
use Rattle.rom_gen.specs.Writing.{Adds, offset_of}
use Rattle.rom_gen.proofs.Writings.{control_few, number_written, room_on, wrote_none}
use Rattle.rom_gen.proofs.writer.Writer.controls.Goals as goal

pub loop-number-init : goal.loop-number-init
unfolding number_wants
loop-number-init c = record { wrote = wrote_none c.args.self.now; room = omega arith }

pub loop-number-preserved : goal.loop-number-preserved
loop-number-preserved c =
    let i : ℕ = c.loop-number.number-index in
    let number : ℕ = slice_index c.args.numbers.now i in
    let adds : Adds c.loop-number.self c.control.new.self (all_insns (want_items (offset_of c.loop-number.self) (Control number (kept_value number c.args.csrs.now)))) (want_values (Control number (kept_value number c.args.csrs.now))) =
    subst (λ v. Adds c.loop-number.self c.control.new.self (all_insns (want_items (offset_of c.loop-number.self) (Control number v))) (want_values (Control number v))) c.kept.ensures.value c.in_ok-control.ensures.code in
    record {
      wrote = number_written c.args.self.now c.loop-number.self c.control.new.self c.args.csrs.now c.args.numbers.now i c.loop-number-test.true c.loop-number.invariant.wrote adds;
      room = room_on c.loop-number.self c.control.new.self _ (want_values (Control number (kept_value number c.args.csrs.now))) (offset_of c.args.self.now) i adds (control_few number (kept_value number c.args.csrs.now)) c.loop-number.invariant.room;
    }
