use Rattle.std.proofs.Common.{◌+◌, ap, ◌∙◌}
use Rattle.std.proofs.lemmas.Result.{on_ok_weaker}
use Rattle.rv_alu.specs.Modes.{level}
use Rattle.csr_file.specs.Bits.{dcsr_fixed}
use Rattle.rom_gen.proofs.Writings.{hart_written}
use Rattle.rom_gen.proofs.writer.Writer.hart.Goals as goal

pub returns : goal.returns
returns c = on_ok_weaker c.put.result (hart_written c.args.self.now c.controls.new.self c.control.new.self c.control-2.new.self c.registers.new.self c.put.new.self c.args.hart.now c.csrs.result.now c.numbers-numbers.result c.debug_control.result c.pc.result c.x.result c.csrs.ensures c.numbers-numbers.ensures.numbers (c.debug_control.ensures ∙ ap (λ m. dcsr_fixed + level m) c.mode.ensures) c.pc.ensures c.x.ensures c.in_ok-controls.ensures.code c.in_ok-control.ensures.code c.in_ok-control-2.ensures.code c.in_ok-registers.ensures.code) c.put.ensures
