use Rattle.std.proofs.lemmas.Result.{on_ok_weaker}
use Rattle.rom_gen.proofs.Assembly.{dispatch_is}
use Rattle.rom_gen.proofs.entry.push_code.Goals as goal

pub returns : goal.returns
returns c = on_ok_weaker c.push_word-6.result (λ e. dispatch_is c.args.out.now.items c.push_word.new.out.items c.push_word-2.new.out.items c.push_word-3.new.out.items c.push_word-4.new.out.items c.push_word-5.new.out.items c.push_word-6.new.out.items c.in_ok-push_word.ensures c.in_ok-push_word-2.ensures c.in_ok-push_word-3.ensures c.in_ok-push_word-4.ensures c.in_ok-push_word-5.ensures e) c.push_word-6.ensures
