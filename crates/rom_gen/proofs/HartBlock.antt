-- A hart's block restores it, in any layout.
use Rattle.std.specs.Prelude.{Some, None, slice_index, slice_set}
use Rattle.std.proofs.Common.{◌≡◌, ℕ, ◌+◌, ◌*◌, ◌%◌, ◌<◌, ◌≤◌, List, [], ◌∷◌, ◌++◌, length, refl, sym, ap, ◌∙◌, arith, subst, length-append, add_assoc}
use Rattle.std.proofs.lemmas.List.{get_or-set_same, length-set, set-set}
use Rattle.rv_alu.specs.Modes.{level}
use Rattle.rv_decode.specs.declared.Insn.{Insn}
use Rattle.csr_file.specs.Bits.{dcsr_fixed}
use Rattle.csr_file.specs.Kept.{IsFit, reset_debug_registers}
use Rattle.csr_file.specs.Legal.{legal}
use Rattle.csr_file.specs.Numbers.{csr_dpc}
use Rattle.board_bus.specs.Board.{BoardState}
use Rattle.hart_step.specs.declared.hart.Hart.{Hart}
use Rattle.hart_step.specs.Harts.{hart_of, register, reset_hart}
use Rattle.hart_step.specs.Step.{memory_of, unreserved_hart}
use Rattle.hart_step.specs.DebugReset.{debug_registers}
use Rattle.hart_turns.specs.Boot.{Booting, Frees, Leads}
use Rattle.hart_turns.proofs.BootSteps.{frees_join}
use Rattle.rom_gen.specs.ItemEffects.{AllSpelled, all_do, becomes, rom_while, IsFollowed, left_debug, freed}
use Rattle.rom_gen.specs.Items.{Go, Item, Leave, leave, Put, Csr, CsrImm, Store, Load, Spelling, StandAt, all_insns, code, word_count, Stands}
use Rattle.rom_gen.specs.HartWants.{controls, first_wants, registers}
use Rattle.rom_gen.specs.Wants.{Pooled, Want, Reg, all_values, hart_all, placed, pool}
use Rattle.rom_gen.specs.Executed.{HasCome}
use Rattle.rom_gen.proofs.Layouts.{AllGood, AllInner, AllKeep, IsGood, IsInner, IsLayout, Leaves, all_csrs}
use Rattle.rom_gen.proofs.Blocks.{inner_block}
use Rattle.rom_gen.proofs.HartWants.{AllControl, SameBut2, controls_restore, csrs_append, numbered_csrs, controls_x, numbered_x, put_x, x_restored}
use Rattle.rom_gen.proofs.ItemSteps.{AllFollowed, code_length, item_steps, items_lead, stand_first, stand_second}
use Rattle.rom_gen.proofs.Placed.{all_inner, hart_append, inner_append, placed_append, placed_base, placed_csrs, placed_spelled, pool_append, pool_length, spelled_append}
use Rattle.rom_gen.proofs.Left.{left_is}

inner_item : (item : Item) → IsInner item → IsFollowed item
inner_item (Put i v) inner = tt
inner_item (Csr num i) inner = tt
inner_item (CsrImm num u) inner = tt
inner_item (Store size i at off) inner = tt
inner_item (Load size i at off) inner = tt
inner_item (Go i) inner = inner
inner_item Leave inner = inner

inner_stays : (items : List Spelling) → AllInner items → AllFollowed items
inner_stays [] inner = tt
inner_stays (s ∷ items) inner = (inner_item s.item inner.0, inner_stays items inner.1)

-- a hart that is to be restored, and can be
pub record IsTarget (target : Hart) : Type 0 where
  pub csrs : IsFit target.csrs
  pub out : target.csrs.debug ≡ None
  pub count : length target.x ≡ 32
  pub nought : slice_index target.x 0 ≡ 0
  pub pc : (old : ℕ) → legal csr_dpc old target.pc ≡ target.pc
  pub good_controls : AllGood (controls target)
  pub only_controls : AllControl (controls target)
  pub good_registers : AllGood (registers target)
  pub good : AllGood (first_wants target)
  pub keeps : AllKeep (first_wants target)
  pub last : IsGood (Reg 1 (slice_index target.x 1))

pub insns_count : (items : List Spelling) → length (all_insns items) ≡ word_count items
insns_count [] = refl
insns_count (s ∷ items) = length-append s.insns (all_insns items) ∙ ap (λ k. length s.insns + k) (insns_count items)

-- a hart that is freed after it became another
pub freed_moved : (h n m : ℕ) (first hart : Hart) (one two : BoardState) (b : Booting) →
    freed h m hart two (record { core = record b.core { harts = slice_set b.core.harts h first }; board = one; console = b.console; steps = b.steps + n }) ≡ freed h (n + m) hart two b
freed_moved h n m first hart one two b =
    ap (λ hs. record { core = record { harts = hs; ram = b.core.ram; rom = rom_while hs b.core.rom }; board = two; console = b.console; steps = b.steps + n + m }) (set-set b.core.harts h first hart)
    ∙ ap (λ k. record { core = record { harts = slice_set b.core.harts h hart; ram = b.core.ram; rom = rom_while (slice_set b.core.harts h hart) b.core.rom }; board = two; console = b.console; steps = k }) (add_assoc b.steps n m)

-- all items of the block but dret
abbrev pub block_items : (ℕ → Want → List Spelling) → (Want → List ℕ) → ℕ → Hart → List Spelling
block_items spell values off target = placed spell values off (first_wants target) ++ spell (off + 8 * length (all_values values (first_wants target))) (Reg 1 (slice_index target.x 1))

-- the block frees the hart that it was made from
pub hart_block : {spell : ℕ → Want → List Spelling} {values : Want → List ℕ} → IsLayout spell values → (b : Booting) (h block off : ℕ) (target : Hart) → IsTarget target →
    HasCome b h block (debug_registers target.csrs.hart) → (hart_of b.core h).reservation ≡ None →
    Pooled block off (all_values values (first_wants target) ++ values (Reg 1 (slice_index target.x 1))) b.core.rom →
    StandAt (code (all_insns (block_items spell values off target)) ++ code (Insn.Dret ∷ [])) block b.core.rom →
    Frees h (word_count (block_items spell values off target) + 1) b (freed h (word_count (block_items spell values off target) + 1) (unreserved_hart target) b.board b)
hart_block {spell = spell} {values = values} layout b h block off target fit come own pooled codes =
    let hart : Hart = hart_of b.core h in
    let ws : List Want = first_wants target in
    let l : Want = Reg 1 (slice_index target.x 1) in
    let us : List ℕ = all_values values ws in
    let vs : List ℕ = values l in
    let even : off % 8 ≡ 0 = pooled.even in
    let room : off + 8 * length us + 8 * length vs ≤ 2048 = omega (arith, pooled.room, length-append us vs) in
    let pools : StandAt (pool us ++ pool vs) (block + off) b.core.rom = subst (λ bs. StandAt bs (block + off) b.core.rom) (pool_append us vs) pooled.there in
    let off2 : ℕ = off + 8 * length us in
    let items1 : List Spelling = placed spell values off ws in
    let items2 : List Spelling = spell off2 l in
    let items : List Spelling = items1 ++ items2 in
    let n1 : ℕ = word_count items1 in
    let hart1 : Hart = hart_all items1 hart in
    let b1 : Booting = becomes h n1 hart1 b in
    let inner1 : AllInner items1 = all_inner layout off ws in
    let inner : AllInner items = inner_append items1 items2 inner1 (layout.inner off2 l) in
    let kept = placed_base layout off ws hart fit.good fit.keeps come.stands.count in
    let here : hart_of b1.core h ≡ hart1 = get_or-set_same b.core.harts h hart1 (reset_hart 0 0) come.inside in
    let place : block + off + length (pool us) ≡ block + off2 = omega (arith, pool_length us) in
    let spelled1 : AllSpelled h block items1 b = placed_spelled layout h block off b ws fit.good fit.keeps come.inside come.stands.count come.at come.aligned even (omega arith) (stand_first (pool us) (pool (values l)) (block + off) b.core.rom pools) in
    let spelled2 : AllSpelled h block items2 b1 = layout.spelled h block off2 b1 l fit.last (omega (arith, come.inside, length-set b.core.harts h hart1)) (ap (λ (x : Hart). length x.x) here ∙ kept.1) (ap (λ (x : Hart). register x 1) here ∙ kept.0 ∙ come.at) come.aligned (omega arith) room (subst (λ q. StandAt (pool (values l)) q b.core.rom) place (stand_second (pool us) (pool (values l)) (block + off) b.core.rom pools)) in
    let spelled : AllSpelled h block items b = spelled_append h block items1 items2 b spelled1 (subst (λ x. AllSpelled h block items2 x) (sym (inner_block h items1 b come.inside inner1)) spelled2) in
    let words : ℕ = word_count items in
    let hart2 : Hart = hart_all items hart in
    let b2 : Booting = becomes h words hart2 b in
    let same : all_do h items b ≡ b2 = inner_block h items b come.inside inner in
    let run = items_lead b h block block items come.inside come.stands spelled (inner_stays items inner) (stand_first (code (all_insns items)) (code (Insn.Dret ∷ [])) block b.core.rom codes) in
    let leads : Leads h words b b2 = subst (λ x. Leads h words b x) same run.0 in
    let stands2 : Stands (memory_of b2.core) (hart_of b2.core h) (block + 4 * words) = subst (λ (x : Booting). Stands (memory_of x.core) (hart_of x.core h) (block + 4 * words)) same run.1 in
    let off3 : ℕ = off + 8 * length (all_values values (controls target)) in
    let hart0 : Hart = hart_all (placed spell values off (controls target)) hart in
    let leaves2 : Leaves l hart1 (hart_all items2 hart1) = layout.leaves off2 l hart1 fit.last kept.1 in
    let is2 : hart2 ≡ hart_all items2 hart1 = hart_append items1 items2 hart in
    let csrs : hart2.csrs ≡ record target.csrs { debug = Some (record reset_debug_registers { dcsr = dcsr_fixed + level target.mode; dpc = target.pc }) } =
    ap (λ (x : Hart). x.csrs) is2 ∙ leaves2.csrs ∙ placed_csrs layout off ws hart fit.good come.stands.count
    ∙ csrs_append (controls target) (registers target) hart.csrs ∙ numbered_csrs 30 2 target.x (all_csrs (controls target) hart.csrs)
    ∙ ap (all_csrs (controls target)) come.csrs_are ∙ controls_restore target fit.csrs fit.pc in
    let but2 : SameBut2 hart.x hart0.x = controls_x layout off (controls target) hart fit.only_controls fit.good_controls come.stands.count in
    let x1 : hart1.x ≡ put_x 30 2 target.x hart0.x =
    ap (λ its. (hart_all its hart).x) (placed_append spell values off (controls target) (registers target))
    ∙ ap (λ (x : Hart). x.x) (hart_append (placed spell values off (controls target)) (placed spell values off3 (registers target)) hart)
    ∙ numbered_x layout off3 30 2 target.x hart0 fit.good_registers (but2.count ∙ come.stands.count) in
    let xs : hart2.x ≡ target.x = ap (λ (x : Hart). x.x) is2 ∙ leaves2.x ∙ ap (λ ys. slice_set ys 1 (slice_index target.x 1)) x1 ∙ x_restored target.x hart.x hart0.x fit.count come.stands.count fit.nought come.stands.nought but2 in
    let none : hart2.reservation ≡ None = ap (λ (x : Hart). x.reservation) is2 ∙ leaves2.reservation ∙ kept.2 ∙ own in
    let here2 : hart_of b2.core h ≡ hart2 = get_or-set_same b.core.harts h hart2 (reset_hart 0 0) come.inside in
    let end : Hart = hart_of b2.core h in
    let next : Hart = unreserved_hart target in
    let is : left_debug end ≡ next = left_is target end fit.out (ap (λ (x : Hart). x.x) here2 ∙ xs) (ap (λ (x : Hart). x.reservation) here2 ∙ none) (ap (λ (x : Hart). x.csrs) here2 ∙ csrs) in
    let tail : StandAt (code (Insn.Dret ∷ [])) (block + 4 * words) b2.core.rom = subst (λ q. StandAt (code (Insn.Dret ∷ [])) q b.core.rom) (ap (λ k. block + k) (code_length (all_insns items) ∙ ap (λ k. 4 * k) (insns_count items))) (stand_second (code (all_insns items)) (code (Insn.Dret ∷ [])) block b.core.rom codes) in
    let inside2 : h < length b2.core.harts = omega (arith, come.inside, length-set b.core.harts h hart2) in
    let frees : Frees h 1 b2 (freed h 1 next b.board b2) = subst (λ x. Frees h 1 b2 (freed h 1 x b.board b2)) is (item_steps b2 h (block + 4 * words) block Leave (Insn.Dret ∷ []) inside2 stands2 leave tail) in
    subst (λ x. Frees h (words + 1) b x) (freed_moved h words 1 hart2 next b.board b.board b) (frees_join h words 1 b b2 _ leads frees)
