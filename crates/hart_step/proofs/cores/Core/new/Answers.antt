-- As many harts at reset as are asked for, and each is well formed.
use Rattle.std.proofs.Common.{◌≡◌, ℕ, List, [], ◌∷◌, ◌++◌, All, ap, sym, subst, ◌∙◌, arith}
use Rattle.std.proofs.lemmas.List.Elements.{All-append, All-cons, All-nil}
use Rattle.hart_step.specs.declared.hart.Hart.{Hart}
use Rattle.hart_step.specs.Fit.{IsWellFormed}
use Rattle.hart_step.specs.Harts.{reset_harts}
use Rattle.hart_step.proofs.Kept.{kept_reset}
use Rattle.hart_step.proofs.Lists.{no_resets, one_reset_more}
use Rattle.hart_step.proofs.cores.Core.new.Goals as goal

pub loop-h-init : goal.loop-h-init
loop-h-init c = record {
  items = c.new-list.ensures.items ∙ sym (no_resets c.args.entry);
  fit = subst (λ (xs : List Hart). All IsWellFormed xs) (sym c.new-list.ensures.items) (All-nil IsWellFormed);
}

pub loop-h-preserved : goal.loop-h-preserved
loop-h-preserved c =
    let hart : Hart = c.at_reset-hart.result in
    record {
      items =
          c.in_ok-push.ensures.items
          ∙ ap (λ (xs : List Hart). xs ++ hart ∷ []) c.loop-h.invariant.items
          ∙ ap (λ (x : Hart). reset_harts c.loop-h.h c.args.entry ++ x ∷ []) c.at_reset-hart.ensures
          ∙ sym (one_reset_more c.loop-h.h c.args.entry);
      fit = subst (λ (xs : List Hart). All IsWellFormed xs) (sym c.in_ok-push.ensures.items)
          (All-append IsWellFormed c.loop-h.list.items (hart ∷ []) c.loop-h.invariant.fit
          (All-cons IsWellFormed hart [] c.see_hart.ensures (All-nil IsWellFormed)));
    }

pub invariant_of-result : goal.invariant_of-result
invariant_of-result c =
    let last : c.loop-h.h ≡ c.args.harts = omega arith in
    kept_reset c.args.harts c.args.entry _ c.requires.some c.requires.most c.loop-h.invariant.fit
    (c.loop-h.invariant.items ∙ ap (λ (n : ℕ). reset_harts n c.args.entry) last) (c.new-memory.ensures.rom ∙ c.new-2.ensures.items)
