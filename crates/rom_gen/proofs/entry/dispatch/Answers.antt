use Rattle.std.specs.Prelude.{All}
use Rattle.std.proofs.Common.{◌++◌, ◌^◌, ◌<◌, ap, ◌∙◌, arith, sym, subst}
use Rattle.std.proofs.lemmas.List.Elements.{All-from_get_or}
use Rattle.rom_gen.specs.Items.{code}
use Rattle.rom_gen.specs.Rom.{dispatch_bytes, dispatch_insns, table}
use Rattle.rom_gen.specs.Executed.{Dispatches}
use Rattle.rom_gen.proofs.Assembly.{all_entries, entry_added}
use Rattle.rom_gen.proofs.Dispatched.{dispatches}
use Rattle.rom_gen.proofs.entry.dispatch.Goals as goal

pub loop-start-init : goal.loop-start-init
unfolding table
loop-start-init c = c.in_ok-push_code.ensures ∙ ap (λ bytes. bytes ++ code dispatch_insns) c.new-out.ensures.items

pub loop-start-preserved : goal.loop-start-preserved
loop-start-preserved c = entry_added c.args.starts.now c.loop-start.out.items c.push_value.new.out.items c.loop-start.start-index c.loop-start-test.true c.loop-start.invariant c.in_ok-push_value.ensures

pub returns-clause-bytes : goal.returns-clause-bytes
unfolding dispatch_bytes
returns-clause-bytes c = all_entries c.args.starts.now c.loop-start.out.items c.loop-start.start-index c.loop-start.auto.start-index-end c.loop-start-test.false c.loop-start.invariant

pub returns-clause-executed : goal.returns-clause-executed
unfolding dispatch_bytes
returns-clause-executed c =
    let fit : All (λ v. v < 2 ^ 64) c.args.starts.now = All-from_get_or (λ v. v < 2 ^ 64) c.args.starts.now 0 (λ i within. let fits = c.type_inv.starts i in omega arith) in
    subst (Dispatches c.args.starts.now) (sym (all_entries c.args.starts.now c.loop-start.out.items c.loop-start.start-index c.loop-start.auto.start-index-end c.loop-start-test.false c.loop-start.invariant)) (dispatches c.args.starts.now c.requires.most fit)
