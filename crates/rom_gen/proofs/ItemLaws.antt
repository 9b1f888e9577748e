-- The laws of items: one, and one after another.
use Rattle.std.proofs.Common.{◌≡◌, ℕ, ◌+◌, ◌*◌, ◌<◌, ◌≤◌, Bool, true, false, List, [], ◌∷◌, ◌++◌, length, sym, ap, ◌∙◌, arith, subst, append_assoc, add-zero, refl}
use Rattle.std.proofs.lemmas.List.{append-nil}
use Rattle.hart_step.specs.Harts.{hart_of}
use Rattle.hart_step.specs.Step.{memory_of}
use Rattle.hart_turns.specs.Boot.{Booting, Leads}
use Rattle.hart_turns.proofs.BootSteps.{frees_join, leads_join}
use Rattle.rom_gen.specs.Items.{Item, Put, Csr, CsrImm, Store, Load, Go, Leave, Spelling, StandAt, Stands, all_insns, code, word_count}
use Rattle.rom_gen.specs.ItemEffects.{AllSpelled, ButLastFollowed, IsFollowed, Moves, all_do, all_sent, bytes_sent, does, ends_in_leave, is_leave}
use Rattle.rom_gen.specs.Laws.{ItemSteps, ItemsJoin}
use Rattle.rom_gen.proofs.Fetch.{room}
use Rattle.rom_gen.proofs.ItemSteps.{code_append, code_length, followed_leads, harts_same, item_steps, none_lead, rom_same, some_words, stand_first, stand_second, stands_after}

sends : (h n : ℕ) (item : Item) (b : Booting) → (does h n item b).console ≡ b.console ++ bytes_sent h item b
sends h n (Put r v) b = sym (append-nil b.console)
sends h n (Csr num r) b = sym (append-nil b.console)
sends h n (CsrImm num u) b = sym (append-nil b.console)
sends h n (Store size r at off) b = refl
sends h n (Load size r at off) b = sym (append-nil b.console)
sends h n (Go r) b = sym (append-nil b.console)
sends h n Leave b = sym (append-nil b.console)

-- one item
pub item_steps_lem : ItemSteps
item_steps_lem b h place block item insns inside stands spelled there = (item_steps b h place block item insns inside stands spelled there, sends h (length insns) item b)

all_send : (h : ℕ) (items : List Spelling) (b : Booting) → (all_do h items b).console ≡ b.console ++ all_sent h items b
all_send h [] b = sym (append-nil b.console)
all_send h (s ∷ rest) b =
    let n : ℕ = length s.insns in
    all_send h rest (does h n s.item b)
    ∙ ap (λ c. c ++ all_sent h rest (does h n s.item b)) (sends h n s.item b)
    ∙ append_assoc b.console (bytes_sent h s.item b) (all_sent h rest (does h n s.item b))

moves_join : (leaves : Bool) (h a c : ℕ) (b b' b'' : Booting) → Leads h a b b' → Moves leaves h c b' b'' → Moves leaves h (a + c) b b''
moves_join true h a c b b' b'' first second = frees_join h a c b b' b'' first second
moves_join false h a c b b' b'' first second = leads_join h a c b b' b'' first second

-- after one item the list ends, or its others are executed
last_or_more : (h : ℕ) (s : Spelling) (rest : List Spelling) (b : Booting) → Moves (is_leave s.item) h (length s.insns) b (does h (length s.insns) s.item b) →
    ButLastFollowed (s ∷ rest) →
    (IsFollowed s.item → ButLastFollowed rest → Moves (ends_in_leave rest) h (word_count rest) (does h (length s.insns) s.item b) (all_do h rest (does h (length s.insns) s.item b))) →
    Moves (ends_in_leave (s ∷ rest)) h (word_count (s ∷ rest)) b (all_do h (s ∷ rest) b)
last_or_more h s [] b one followed more = subst (λ n. Moves (is_leave s.item) h n b (does h (length s.insns) s.item b)) (sym (add-zero (length s.insns))) one
last_or_more h s (next ∷ rest) b one followed more =
    let n : ℕ = length s.insns in
    let b1 : Booting = does h n s.item b in
    moves_join (ends_in_leave (next ∷ rest)) h n (word_count (next ∷ rest)) b b1 (all_do h (next ∷ rest) b1) (followed_leads s.item followed.0 h n b b1 one) (more followed.0 followed.1)

items_move : (b : Booting) (h place block : ℕ) (items : List Spelling) → h < length b.core.harts → Stands (memory_of b.core) (hart_of b.core h) place →
    AllSpelled h block items b → ButLastFollowed items → StandAt (code (all_insns items)) place b.core.rom →
    Moves (ends_in_leave items) h (word_count items) b (all_do h items b)
items_move b h place block [] inside stands spelled followed there = none_lead h b
items_move b h place block (s ∷ rest) inside stands spelled followed there =
    let n : ℕ = length s.insns in
    let split : StandAt (code s.insns ++ code (all_insns rest)) place b.core.rom = subst (λ bs. StandAt bs place b.core.rom) (code_append s.insns (all_insns rest)) there in
    let first : StandAt (code s.insns) place b.core.rom = stand_first (code s.insns) (code (all_insns rest)) place b.core.rom split in
    let b1 : Booting = does h n s.item b in
    let within : place + 4 * n ≤ length b.core.rom = omega (arith, code_length s.insns, room place (code s.insns) first.0 b.core.rom first.1 (omega (arith, some_words spelled.0, code_length s.insns))) in
    let second : IsFollowed s.item → StandAt (code (all_insns rest)) (place + 4 * n) b1.core.rom = λ follows.
    subst (λ q. StandAt (code (all_insns rest)) q b1.core.rom) (ap (λ k. place + k) (code_length s.insns))
    (subst (λ rom. StandAt (code (all_insns rest)) (place + length (code s.insns)) rom) (sym (rom_same b h n s.item follows)) (stand_second (code s.insns) (code (all_insns rest)) place b.core.rom split)) in
    last_or_more h s rest b (item_steps b h place block s.item s.insns inside stands spelled.0 first) followed
    (λ follows more. items_move b1 h (place + 4 * n) block rest (omega (arith, inside, harts_same b h n s.item)) (stands_after b h place block s.item s.insns inside stands spelled.0 within follows) spelled.1 more (second follows))

-- a list of them
pub items_join_lem : ItemsJoin
items_join_lem b h place block items inside stands spelled followed there = (items_move b h place block items inside stands spelled followed there, all_send h items b)
