-- Each hart has dropped its reservation.
use Rattle.std.proofs.Common.{◌≡◌, ℕ, ◌<◌, List, All, length, get_or, set, ap, sym, subst, ◌∙◌, arith}
use Rattle.hart_step.specs.declared.hart.Hart.{Hart}
use Rattle.hart_step.specs.Fit.{IsWellFormed}
use Rattle.hart_step.specs.Step.{unreserved_hart}
use Rattle.hart_step.proofs.Lists.{all_mapped, mapped, none_mapped, one_mapped_more, unreserved_fit}
use Rattle.hart_step.proofs.cores.drop_all.Goals as goal

pub loop-hart-init : goal.loop-hart-init
loop-hart-init c = sym (none_mapped unreserved_hart c.args.harts.now)

pub loop-hart-preserved : goal.loop-hart-preserved
loop-hart-preserved c =
    let f : Hart → Hart = unreserved_hart in
    let i : ℕ = c.loop-hart.hart-index in
    let within : i < length c.args.harts.now = omega arith in
    ap (λ (hs : List Hart). set hs i (f (get_or hs i c.hart-item.result))) c.loop-hart.invariant
    ∙ one_mapped_more f i c.args.harts.now c.hart-item.result within

pub returns-clause-harts : goal.returns-clause-harts
returns-clause-harts c =
    let f : Hart → Hart = unreserved_hart in
    let last : c.loop-hart.hart-index ≡ length c.args.harts.now = omega arith in
    c.loop-hart.invariant ∙ ap (λ (n : ℕ). mapped f n c.args.harts.now) last ∙ all_mapped f c.args.harts.now

pub returns-clause-count : goal.returns-clause-count
returns-clause-count c = c.loop-hart.auto.harts

pub returns-clause-fit : goal.returns-clause-fit
returns-clause-fit c =
    subst (λ (hs : List Hart). All IsWellFormed hs) (sym (returns-clause-harts c)) (unreserved_fit c.args.harts.now c.requires.fit)
