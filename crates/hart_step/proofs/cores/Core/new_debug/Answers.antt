-- As many harts at reset in debug mode as are asked for, and each is well formed.
use Rattle.std.proofs.Common.{◌≡◌, ◌≤◌, ℕ, List, [], ◌∷◌, ◌++◌, All, length, ap, sym, subst, ◌∙◌, arith}
use Rattle.std.proofs.lemmas.List.Elements.{All-append, All-cons, All-nil}
use Rattle.hart_step.specs.declared.hart.Hart.{Hart}
use Rattle.hart_step.specs.DebugReset.{debug_harts}
use Rattle.hart_step.specs.Fit.{IsWellFormed}
use Rattle.hart_step.specs.Memory.{most_rom}
use Rattle.hart_step.proofs.DebugResets.{kept_debug, no_debug_harts, one_debug_hart_more}
use Rattle.hart_step.proofs.cores.Core.new_debug.Goals as goal

pub loop-h-init : goal.loop-h-init
loop-h-init c = record {
  items = c.new-list.ensures.items ∙ sym no_debug_harts;
  fit = subst (λ (xs : List Hart). All IsWellFormed xs) (sym c.new-list.ensures.items) (All-nil IsWellFormed);
}

pub loop-h-preserved : goal.loop-h-preserved
loop-h-preserved c =
    let hart : Hart = c.at_debug_reset-hart.result in
    record {
      items =
          c.in_ok-push.ensures.items
          ∙ ap (λ (xs : List Hart). xs ++ hart ∷ []) c.loop-h.invariant.items
          ∙ ap (λ (x : Hart). debug_harts c.loop-h.h ++ x ∷ []) c.at_debug_reset-hart.ensures
          ∙ sym (one_debug_hart_more c.loop-h.h);
      fit = subst (λ (xs : List Hart). All IsWellFormed xs) (sym c.in_ok-push.ensures.items)
          (All-append IsWellFormed c.loop-h.list.items (hart ∷ []) c.loop-h.invariant.fit
          (All-cons IsWellFormed hart [] c.see_hart.ensures (All-nil IsWellFormed)));
    }

pub invariant_of-result : goal.invariant_of-result
invariant_of-result c =
    let last : c.loop-h.h ≡ c.args.harts = omega arith in
    kept_debug c.args.harts _ c.requires.some c.requires.most c.loop-h.invariant.fit
    (c.loop-h.invariant.items ∙ ap (λ (n : ℕ). debug_harts n) last)
    (subst (λ (rom : List ℕ). length rom ≤ most_rom) (sym c.new-2.ensures.rom) c.requires.room)
