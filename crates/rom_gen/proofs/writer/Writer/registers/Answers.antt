use Rattle.std.specs.Prelude.{slice_index}
use Rattle.std.proofs.Common.{◌+◌, ℕ, ap, ◌∙◌, arith}
use Rattle.rom_gen.specs.HartWants.{numbered}
use Rattle.rom_gen.specs.Wants.{put_insns, put_values}
use Rattle.rom_gen.specs.Writing.{offset_of}
use Rattle.rom_gen.proofs.Writings.{put_few, register_written, room_on, wrote_none}
use Rattle.rom_gen.proofs.writer.Writer.registers.Goals as goal

pub loop-i-init : goal.loop-i-init
unfolding numbered
loop-i-init c = record { wrote = wrote_none c.args.self.now; room = omega arith }

pub loop-i-preserved : goal.loop-i-preserved
loop-i-preserved c =
    let i : ℕ = c.loop-i.i in
    record {
      wrote = register_written c.args.self.now c.loop-i.self c.put.new.self c.args.hart.now.x i (c.from.result + 2) c.x.result (let e = c.from.ensures in omega arith) (c.x.ensures ∙ ap (slice_index c.args.hart.now.x) (omega arith)) c.loop-i.invariant.wrote c.in_ok-put.ensures;
      room = room_on c.loop-i.self c.put.new.self (put_insns (offset_of c.loop-i.self) (c.from.result + 2) c.x.result) (put_values c.x.result) (offset_of c.args.self.now) i c.in_ok-put.ensures (put_few c.x.result) c.loop-i.invariant.room;
    }
