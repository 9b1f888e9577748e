-- Each hart has dropped what is touched.
use Rattle.std.proofs.Common.{◌≡◌, ℕ, ◌<◌, List, All, length, get_or, set, ap, sym, subst, ◌∙◌, arith}
use Rattle.hart_step.specs.declared.hart.Hart.{Hart}
use Rattle.hart_step.specs.Fit.{IsWellFormed}
use Rattle.hart_step.specs.Step.{without_reservation}
use Rattle.hart_step.proofs.Lists.{all_mapped, lost_fit, mapped, none_mapped, one_mapped_more}
use Rattle.hart_step.proofs.cores.lose_all.Goals as goal

pub loop-hart-init : goal.loop-hart-init
loop-hart-init c = sym (none_mapped (without_reservation c.args.at c.args.size) c.args.harts.now)

pub loop-hart-preserved : goal.loop-hart-preserved
loop-hart-preserved c =
    let f : Hart → Hart = without_reservation c.args.at c.args.size in
    let i : ℕ = c.loop-hart.hart-index in
    let within : i < length c.args.harts.now = omega arith in
    ap (λ (y : Hart). set c.loop-hart.harts i y) c.lose.ensures
    ∙ ap (λ (hs : List Hart). set hs i (f (get_or hs i c.hart-item.result))) c.loop-hart.invariant
    ∙ one_mapped_more f i c.args.harts.now c.hart-item.result within

pub returns-clause-harts : goal.returns-clause-harts
returns-clause-harts c =
    let f : Hart → Hart = without_reservation c.args.at c.args.size in
    let last : c.loop-hart.hart-index ≡ length c.args.harts.now = omega arith in
    c.loop-hart.invariant ∙ ap (λ (n : ℕ). mapped f n c.args.harts.now) last ∙ all_mapped f c.args.harts.now

pub returns-clause-count : goal.returns-clause-count
returns-clause-count c = c.loop-hart.auto.harts

pub returns-clause-fit : goal.returns-clause-fit
returns-clause-fit c =
    subst (λ (hs : List Hart). All IsWellFormed hs) (sym (returns-clause-harts c)) (lost_fit c.args.at c.args.size c.args.harts.now c.requires.fit)
