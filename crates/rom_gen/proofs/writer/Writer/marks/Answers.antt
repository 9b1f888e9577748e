use Rattle.std.specs.Prelude.{pos}
use Rattle.std.proofs.Common.{subst}
use Rattle.std.proofs.lemmas.Result.{on_ok_weaker}
use Rattle.rom_gen.specs.Items.{Word, all_insns}
use Rattle.rom_gen.specs.Deeds.{Save, deed_items, deed_values}
use Rattle.rom_gen.specs.Writing.{Adds, offset_of}
use Rattle.rom_gen.proofs.Dealings.{marks_dealt}
use Rattle.rom_gen.proofs.writer.Writer.marks.Goals as goal

pub returns-clause-code : goal.returns-clause-code
returns-clause-code c = on_ok_weaker c.read-3.result (λ last. marks_dealt c.args.self.now c.aim.new.self c.aim-2.new.self c.aim-3.new.self c.aim-4.new.self c.save_up.new.self c.again.new.self c.save_up-2.new.self c.save_up-3.new.self c.save_up-4.new.self c.read.new.self c.read-2.new.self c.read-3.new.self c.args.served c.in_ok-aim.ensures c.in_ok-aim-2.ensures c.in_ok-aim-3.ensures c.in_ok-aim-4.ensures c.in_ok-save_up.ensures.code c.in_ok-again.ensures (subst (λ v. Adds c.again.new.self c.save_up-2.new.self (all_insns (deed_items (offset_of c.again.new.self) (Save Word v 4 (pos 0) 0))) (deed_values (Save Word v 4 (pos 0) 0))) c.from.ensures c.in_ok-save_up-2.ensures.code) c.in_ok-save_up-3.ensures.code c.in_ok-save_up-4.ensures.code c.in_ok-read.ensures c.in_ok-read-2.ensures last) c.read-3.ensures
