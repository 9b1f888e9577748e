use Rattle.std.proofs.Common.{ap, ◌∙◌}
use Rattle.std.proofs.Math.Facts.{to_z-of_z}
use Rattle.std.proofs.lemmas.Result.{on_ok_weaker}
use Rattle.rv_decode.specs.Encode.{encoded}
use Rattle.rom_gen.specs.Items.{store_insn}
use Rattle.rom_gen.proofs.Dealings.{save_adds}
use Rattle.rom_gen.proofs.writer.Writer.save.Goals as goal

pub returns-in_ok-put : goal.returns-in_ok-put
returns-in_ok-put c = on_ok_weaker c.push-else-v-eq0.result (λ e. save_adds c.args.self.now c.put.new.self c.push-else-v-eq0.new.self c.args.width c.args.v c.args.by c.store-else-v-eq0.result c.args.off c.if-v-eq0.false c.in_ok-put.ensures (c.store-else-v-eq0.ensures ∙ ap (λ z. encoded (store_insn c.args.width c.args.by 6 z)) (to_z-of_z c.ranges.off)) e (ap (λ p. p.items) c.push-else-v-eq0.ensures.pool) c.push-else-v-eq0.ensures.place) c.push-else-v-eq0.ensures.code
