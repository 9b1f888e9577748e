-- The items of a block that reach no device change one hart alone.
use Rattle.std.specs.Prelude.{slice_set}
use Rattle.std.proofs.Common.{◌≡◌, ℕ, ◌+◌, ◌<◌, List, [], ◌∷◌, length, refl, sym, ap, ◌∙◌, arith, add_assoc}
use Rattle.std.proofs.lemmas.List.{get_or-set_same, set-set, length-set, set-get_or}
use Rattle.hart_step.specs.declared.hart.Hart.{Hart}
use Rattle.hart_step.specs.Harts.{hart_of, reset_hart}
use Rattle.hart_turns.specs.Boot.{Booting}
use Rattle.rom_gen.specs.Items.{Item, Put, Csr, CsrImm, Store, Load, Go, Spelling, word_count, Leave}
use Rattle.rom_gen.specs.ItemEffects.{all_do, becomes, does, hart_after}
use Rattle.rom_gen.specs.Wants.{hart_all}
use Rattle.rom_gen.proofs.Layouts.{AllInner, IsInner}

inner_does : (h n : ℕ) (item : Item) (b : Booting) → IsInner item → does h n item b ≡ becomes h n (hart_after n item (hart_of b.core h)) b
inner_does h n (Put r v) b inner = refl
inner_does h n (Csr num r) b inner = refl
inner_does h n (CsrImm num u) b inner = refl
inner_does h n (Go r) b inner = absurd inner
inner_does h n (Store size r at off) b inner = absurd inner
inner_does h n (Load size r at off) b inner = absurd inner
inner_does h n Leave b inner = absurd inner

-- a hart that becomes another twice
pub becomes_again : (h n m : ℕ) (first second : Hart) (b : Booting) → becomes h m second (becomes h n first b) ≡ becomes h (n + m) second b
becomes_again h n m first second b =
    ap (λ hs. record b { core = record b.core { harts = hs }; steps = b.steps + n + m }) (set-set b.core.harts h first second)
    ∙ ap (λ k. record b { core = record b.core { harts = slice_set b.core.harts h second }; steps = k }) (add_assoc b.steps n m)

pub becomes_itself : (h : ℕ) (b : Booting) → becomes h 0 (hart_of b.core h) b ≡ b
becomes_itself h b =
    ap (λ hs. record b { core = record b.core { harts = hs }; steps = b.steps + 0 }) (set-get_or b.core.harts h (reset_hart 0 0))
    ∙ ap (λ k. record b { steps = k }) (omega arith)

-- items that reach no device change their hart alone
pub inner_block : (h : ℕ) (items : List Spelling) (b : Booting) → h < length b.core.harts → AllInner items → all_do h items b ≡ becomes h (word_count items) (hart_all items (hart_of b.core h)) b
inner_block h [] b inside inner = sym (becomes_itself h b)
inner_block h (s ∷ rest) b inside inner =
    let n : ℕ = length s.insns in
    let next : Hart = hart_after n s.item (hart_of b.core h) in
    let b1 : Booting = becomes h n next b in
    let here : hart_of b1.core h ≡ next = get_or-set_same b.core.harts h next (reset_hart 0 0) inside in
    ap (all_do h rest) (inner_does h n s.item b inner.0)
    ∙ inner_block h rest b1 (omega (arith, length-set b.core.harts h next)) inner.1
    ∙ ap (λ x. becomes h (word_count rest) (hart_all rest x) b1) here
    ∙ becomes_again h n (word_count rest) next (hart_all rest next) b
