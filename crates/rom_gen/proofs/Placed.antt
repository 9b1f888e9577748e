-- A list of wants is spelled where its pool stands, and leaves what it wants.
use Rattle.std.specs.Prelude.{slice_index}
use Rattle.std.proofs.Common.{◌≡◌, ℕ, ◌+◌, ◌*◌, ◌%◌, ◌<◌, ◌≤◌, List, [], ◌∷◌, ◌++◌, length, refl, sym, ap, ◌∙◌, arith, subst, append_assoc, length-append}
use Rattle.std.proofs.lemmas.List.{get_or-set_same, get_or-set_other, length-set}
use Rattle.byteorder.specs.Endian.{little_bytes}
use Rattle.hart_step.specs.declared.hart.Hart.{Hart}
use Rattle.hart_step.specs.Harts.{hart_of, register, reset_hart}
use Rattle.hart_step.specs.Memory.{rom_base}
use Rattle.hart_turns.specs.Boot.{Booting}
use Rattle.rom_gen.specs.ItemEffects.{AllSpelled, all_do, becomes, hart_after}
use Rattle.rom_gen.specs.Items.{Spelling, StandAt, word_count}
use Rattle.rom_gen.specs.Wants.{Want, Reg, Control, all_values, hart_all, placed, pool}
use Rattle.rom_gen.proofs.Layouts.{AllGood, AllInner, AllKeep, IsLayout, KeepsBase, Leaves, all_csrs}
use Rattle.rom_gen.proofs.Blocks.{inner_block}
use Rattle.rom_gen.proofs.ItemSteps.{stand_first, stand_second}

pub spelled_append : (h block : ℕ) (a c : List Spelling) (b : Booting) → AllSpelled h block a b → AllSpelled h block c (all_do h a b) → AllSpelled h block (a ++ c) b
spelled_append h block [] c b first second = second
spelled_append h block (s ∷ a) c b first second = (first.0, spelled_append h block a c _ first.1 second)

pub inner_append : (a c : List Spelling) → AllInner a → AllInner c → AllInner (a ++ c)
inner_append [] c first second = second
inner_append (s ∷ a) c first second = (first.0, inner_append a c first.1 second)

pub hart_append : (a c : List Spelling) (hart : Hart) → hart_all (a ++ c) hart ≡ hart_all c (hart_all a hart)
hart_append [] c hart = refl
hart_append (s ∷ a) c hart = hart_append a c (hart_after (length s.insns) s.item hart)

pub pool_append : (us vs : List ℕ) → pool (us ++ vs) ≡ pool us ++ pool vs
pool_append [] vs = refl
pool_append (u ∷ us) vs = ap (λ bs. little_bytes 8 u ++ bs) (pool_append us vs) ∙ sym (append_assoc (little_bytes 8 u) (pool us) (pool vs))

pub pool_length : (vs : List ℕ) → length (pool vs) ≡ 8 * length vs
pool_length [] = refl
pool_length (v ∷ vs) = let k = pool_length vs in omega arith

pub base_kept : (w : Want) (before after : Hart) → KeepsBase w → Leaves w before after → register after 1 ≡ register before 1
base_kept (Reg r v) before after keeps leaves = ap (λ xs. slice_index xs 1) leaves.x ∙ get_or-set_other before.x r 1 v 0 (omega arith)
base_kept (Control number v) before after keeps leaves = leaves.x.1 1 (omega arith)

pub count_kept : (w : Want) (before after : Hart) → Leaves w before after → length after.x ≡ length before.x
count_kept (Reg r v) before after leaves = ap length leaves.x ∙ length-set before.x r v
count_kept (Control number v) before after leaves = leaves.x.0

-- ---- any layout

pub all_inner : {spell : ℕ → Want → List Spelling} {values : Want → List ℕ} → IsLayout spell values → (off : ℕ) (ws : List Want) → AllInner (placed spell values off ws)
all_inner layout off [] = tt
all_inner {spell = spell} {values = values} layout off (w ∷ ws) = inner_append (spell off w) (placed spell values (off + 8 * length (values w)) ws) (layout.inner off w) (all_inner layout (off + 8 * length (values w)) ws)

-- a list of wants is spelled where its pool stands
pub placed_spelled : {spell : ℕ → Want → List Spelling} {values : Want → List ℕ} → IsLayout spell values → (h block off : ℕ) (b : Booting) (ws : List Want) → AllGood ws →
    AllKeep ws → h < length b.core.harts → length (hart_of b.core h).x ≡ 32 → register (hart_of b.core h) 1 ≡ rom_base + block → block % 8 ≡ 0 → off % 8 ≡ 0 →
    off + 8 * length (all_values values ws) ≤ 2048 → StandAt (pool (all_values values ws)) (block + off) b.core.rom → AllSpelled h block (placed spell values off ws) b
placed_spelled layout h block off b [] good keep inside count at aligned even room there = tt
placed_spelled {spell = spell} {values = values} layout h block off b (w ∷ ws) good keep inside count at aligned even room there =
    let us : List ℕ = values w in
    let vs : List ℕ = all_values values ws in
    let sum : length (us ++ vs) ≡ length us + length vs = length-append us vs in
    let split : StandAt (pool us ++ pool vs) (block + off) b.core.rom = subst (λ bs. StandAt bs (block + off) b.core.rom) (pool_append us vs) there in
    let items : List Spelling = spell off w in
    let hart : Hart = hart_of b.core h in
    let after : Hart = hart_all items hart in
    let leaves : Leaves w hart after = layout.leaves off w hart good.0 count in
    let b1 : Booting = becomes h (word_count items) after b in
    let same : all_do h items b ≡ b1 = inner_block h items b inside (layout.inner off w) in
    let place : block + off + length (pool us) ≡ block + (off + 8 * length us) = omega (arith, pool_length us) in
    let second : StandAt (pool vs) (block + (off + 8 * length us)) b1.core.rom = subst (λ q. StandAt (pool vs) q b.core.rom) place (stand_second (pool us) (pool vs) (block + off) b.core.rom split) in
    let here : hart_of b1.core h ≡ after = get_or-set_same b.core.harts h after (reset_hart 0 0) inside in
    let rest : AllSpelled h block (placed spell values (off + 8 * length us) ws) b1 =
    placed_spelled layout h block (off + 8 * length us) b1 ws good.1 keep.1 (omega (arith, length-set b.core.harts h after)) (ap (λ (x : Hart). length x.x) here ∙ count_kept w hart after leaves ∙ count) (ap (λ (x : Hart). register x 1) here ∙ base_kept w hart after keep.0 leaves ∙ at) aligned (omega arith) (omega arith) second in
    spelled_append h block items (placed spell values (off + 8 * length us) ws) b
    (layout.spelled h block off b w good.0 inside count at aligned even (omega arith) (stand_first (pool us) (pool vs) (block + off) b.core.rom split))
    (subst (λ x. AllSpelled h block (placed spell values (off + 8 * length us) ws) x) (sym same) rest)

-- the registers after all wants
pub placed_csrs : {spell : ℕ → Want → List Spelling} {values : Want → List ℕ} → IsLayout spell values → (off : ℕ) (ws : List Want) (hart : Hart) → AllGood ws → length hart.x ≡ 32 → (hart_all (placed spell values off ws) hart).csrs ≡ all_csrs ws hart.csrs
placed_csrs layout off [] hart good count = refl
placed_csrs {spell = spell} {values = values} layout off (w ∷ ws) hart good count =
    let after : Hart = hart_all (spell off w) hart in
    let leaves : Leaves w hart after = layout.leaves off w hart good.0 count in
    let next : ℕ = off + 8 * length (values w) in
    ap (λ (x : Hart). x.csrs) (hart_append (spell off w) (placed spell values next ws) hart)
    ∙ placed_csrs layout next ws after good.1 (count_kept w hart after leaves ∙ count)
    ∙ ap (all_csrs ws) leaves.csrs

-- the block's address stays in x1, and x has 32 registers
pub placed_base : {spell : ℕ → Want → List Spelling} {values : Want → List ℕ} → IsLayout spell values → (off : ℕ) (ws : List Want) (hart : Hart) → AllGood ws →
    AllKeep ws → length hart.x ≡ 32 →
    (register (hart_all (placed spell values off ws) hart) 1 ≡ register hart 1) × (length (hart_all (placed spell values off ws) hart).x ≡ 32) × ((hart_all (placed spell values off ws) hart).reservation ≡ hart.reservation)
placed_base layout off [] hart good keep count = (refl, count, refl)
placed_base {spell = spell} {values = values} layout off (w ∷ ws) hart good keep count =
    let after : Hart = hart_all (spell off w) hart in
    let leaves : Leaves w hart after = layout.leaves off w hart good.0 count in
    let next : ℕ = off + 8 * length (values w) in
    let rest = placed_base layout next ws after good.1 keep.1 (count_kept w hart after leaves ∙ count) in
    let is : hart_all (spell off w ++ placed spell values next ws) hart ≡ hart_all (placed spell values next ws) after = hart_append (spell off w) (placed spell values next ws) hart in
    (ap (λ (x : Hart). register x 1) is ∙ rest.0 ∙ base_kept w hart after keep.0 leaves, ap (λ (x : Hart). length x.x) is ∙ rest.1, ap (λ (x : Hart). x.reservation) is ∙ rest.2 ∙ leaves.reservation)

pub placed_append : (spell : ℕ → Want → List Spelling) (values : Want → List ℕ) (off : ℕ) (a c : List Want) → placed spell values off (a ++ c) ≡ placed spell values off a ++ placed spell values (off + 8 * length (all_values values a)) c
placed_append spell values off [] c = ap (λ k. placed spell values k c) (let e : off ≡ off + 0 = omega arith in e)
placed_append spell values off (w ∷ a) c =
    let next : ℕ = off + 8 * length (values w) in
    let e : next + 8 * length (all_values values a) ≡ off + 8 * length (values w ++ all_values values a) = omega (arith, length-append (values w) (all_values values a)) in
    ap (λ x. spell off w ++ x) (placed_append spell values next a c ∙ ap (λ k. placed spell values next a ++ placed spell values k c) e)
    ∙ sym (append_assoc (spell off w) (placed spell values next a) (placed spell values (off + 8 * length (values w ++ all_values values a)) c))
