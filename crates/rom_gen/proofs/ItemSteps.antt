-- The steps of a hart at the spelling of an item do what the item does.
use Rattle.std.specs.List.{list_any}
use Rattle.std.specs.Prelude.{is_some, Option, Some, None, slice_set, map}
use Rattle.std.proofs.Common.{◌≡◌, ℕ, ◌+◌, ◌*◌, ◌<◌, ◌≤◌, Bool, true, false, not, ◌&&◌, cond, List, [], ◌∷◌, ◌++◌, length, drop, refl, sym, ap, ◌∙◌, arith, subst, append_assoc}
use Rattle.std.proofs.lemmas.List.{append-nil, get_or-set_same, length-set, drop-drop, drop_at, length-map}
use Rattle.std.proofs.Math.ListN.{set}
use Rattle.byteorder.specs.Endian.{little_bytes}
use Rattle.rv_alu.specs.Arithmetic.{alu_of, modulo}
use Rattle.rv_alu.specs.Bits.{low_bytes}
use Rattle.rv_alu.specs.declared.BinOp.{BinOp}
use Rattle.rv_alu.specs.declared.Mode.{Mode}
use Rattle.rv_decode.specs.declared.Insn.{Insn}
use Rattle.rv_decode.specs.Encode.{encoded}
use Rattle.csr_file.specs.Write.{written}
use Rattle.csr_file.specs.declared.registers.Registers.{Registers}
use Rattle.csr_file.proofs.WriteLaws.{written-in_debug}
use Rattle.trap_rules.specs.Interrupt.{picked}
use Rattle.trap_rules.specs.Return.{debug_returned}
use Rattle.hart_step.specs.declared.event.Put.{Put as Stored}
use Rattle.hart_step.specs.declared.hart.Hart.{Hart}
use Rattle.hart_step.specs.Answers.{Access, Given, Loads, Stores, Untouched}
use Rattle.hart_step.specs.Harts.{hart_of, is_in_debug, register, reset_hart}
use Rattle.hart_step.specs.Memory.{MemoryState}
use Rattle.hart_step.specs.Effects.{at_pc, offset_by, pc_after, with_write}
use Rattle.hart_step.specs.Step.{after_store, hart_step, memory_of, without_reservation}
use Rattle.hart_turns.specs.Gives.{board_gives, board_after, board_device}
use Rattle.hart_turns.specs.Boot.{Booting, Frees, Leads, boot_hart}
use Rattle.hart_turns.proofs.BootSteps.{leads_join}
use Rattle.rom_gen.specs.Items.{Item, Put, Csr, CsrImm, Store, Go, Spelled, small, upper, pair, pooled, csr, csr_imm, store, load, go, leave, Leave, Load, size_of, Spelling, StandAt, all_insns, code, word_count, Stands}
use Rattle.rom_gen.specs.ItemEffects.{extended, AllSpelled, all_do, becomes, does, hart_after, IsFollowed, Moves, freed, is_leave, left_debug, rom_while}
use Rattle.rom_gen.proofs.Fetch.{room}
use Rattle.rom_gen.proofs.Devices.{leave_step}
use Rattle.rom_gen.proofs.Joins.{Does, acted, frees_step, leads_step, length-after}
use Rattle.rom_gen.proofs.Steps.{csr_imm_step, csr_step, small_step}
use Rattle.rom_gen.proofs.Forms.{go_step, load_step, low_step, pooled_step, store_step, upper_step}
use Rattle.rom_gen.proofs.Standing.{becomes_twice, debugs_put, pair_is, put_is, stands_on, stands_put}

-- no interrupt is given to a hart in debug mode
pub unpicked : (r : Registers) (mode : Mode) (live : ℕ) → is_some r.debug ≡ true → picked r mode live ≡ None
unfolding picked
unpicked r mode live debugs = rw debugs refl

-- a hart steps as the step lemmas say, where it is the one at place h
leads_at : (b : Booting) (h : ℕ) (hart next : Hart) (st : Option Stored) (access : Access) → h < length b.core.harts → hart_of b.core h ≡ hart → is_in_debug hart ≡ true →
    is_in_debug next ≡ true →
    ((given : Given) → given.interrupt ≡ None → Does (memory_of b.core) (hart_step given (length b.core.harts) h hart (memory_of b.core)) st next access) →
    Leads h 1 b (acted h st next b.core.rom access b)
leads_at b h hart next st access inside is debugs still step =
    let here : Does (memory_of b.core) (hart_step (board_gives b.board h (hart_of b.core h)) (length b.core.harts) h (hart_of b.core h) (memory_of b.core)) st next access =
    subst (λ x. Does (memory_of b.core) (hart_step (board_gives b.board h x) (length b.core.harts) h x (memory_of b.core)) st next access) (sym is) (step (board_gives b.board h hart) (unpicked hart.csrs hart.mode _ debugs)) in
    leads_step b h (hart_step (board_gives b.board h (hart_of b.core h)) (length b.core.harts) h (hart_of b.core h) (memory_of b.core)) st next access inside refl here still

-- the same where the step is known under what the board gives it alone
leads_given : (b : Booting) (h : ℕ) (hart next : Hart) (st : Option Stored) (access : Access) → h < length b.core.harts → hart_of b.core h ≡ hart →
    is_in_debug hart ≡ true → is_in_debug next ≡ true →
    Does (memory_of b.core) (hart_step (board_gives b.board h hart) (length b.core.harts) h hart (memory_of b.core)) st next access →
    Leads h 1 b (acted h st next b.core.rom access b)
leads_given b h hart next st access inside is debugs still step =
    let here : Does (memory_of b.core) (hart_step (board_gives b.board h (hart_of b.core h)) (length b.core.harts) h (hart_of b.core h) (memory_of b.core)) st next access =
    subst (λ x. Does (memory_of b.core) (hart_step (board_gives b.board h x) (length b.core.harts) h x (memory_of b.core)) st next access) (sym is) step in
    leads_step b h (hart_step (board_gives b.board h (hart_of b.core h)) (length b.core.harts) h (hart_of b.core h) (memory_of b.core)) st next access inside refl here still

quiet_load : (b : Booting) (h at size : ℕ) (hart : Hart) →
    acted h None hart b.core.rom (Loads at size) b ≡ record { core = record b.core { harts = slice_set b.core.harts h hart }; board = board_after b.board (Loads at size); console = b.console; steps = b.steps + 1 }
quiet_load b h at size hart = ap (λ c. record { core = record b.core { harts = slice_set b.core.harts h hart }; board = board_after b.board (Loads at size); console = c; steps = b.steps + 1 }) (append-nil b.console)

pub quiet : (b : Booting) (h : ℕ) (hart : Hart) → acted h None hart b.core.rom Untouched b ≡ becomes h 1 hart b
quiet b h hart = ap (λ c. record { core = record b.core { harts = slice_set b.core.harts h hart }; board = b.board; console = c; steps = b.steps + 1 }) (append-nil b.console)

-- a step that reaches no device
pub leads_quiet : (b : Booting) (h : ℕ) (hart next : Hart) → h < length b.core.harts → hart_of b.core h ≡ hart → is_in_debug hart ≡ true → is_in_debug next ≡ true →
    ((given : Given) → given.interrupt ≡ None → Does (memory_of b.core) (hart_step given (length b.core.harts) h hart (memory_of b.core)) None next Untouched) →
    Leads h 1 b (becomes h 1 next b)
leads_quiet b h hart next inside is debugs still step = subst (λ x. Leads h 1 b x) (quiet b h next) (leads_at b h hart next None Untouched inside is debugs still step)

-- ---- out of debug mode

-- the emptying of the ROM, for a hart that was in debug mode and is not
emptied : (was is any : Bool) (rom : List ℕ) → was ≡ true → is ≡ false → cond ((was && not is) && not any) [] rom ≡ cond any rom []
emptied true false true rom e1 e2 = refl
emptied true false false rom e1 e2 = refl
emptied true true any rom e1 e2 = absurd (cc)
emptied false is any rom e1 e2 = absurd (cc)

out_of_debug : (hart : Hart) → is_in_debug (left_debug hart) ≡ false
unfolding debug_returned
out_of_debug hart = refl

leave_frees : (b : Booting) (h p : ℕ) → h < length b.core.harts → Stands (memory_of b.core) (hart_of b.core h) p → StandAt (code (Insn.Dret ∷ [])) p b.core.rom → Frees h 1 b (freed h 1 (left_debug (hart_of b.core h)) b.board b)
leave_frees b h p inside stands there =
    let hart : Hart = hart_of b.core h in
    let next : Hart = left_debug hart in
    let harts : List Hart = slice_set b.core.harts h next in
    let out : is_in_debug next ≡ false = out_of_debug hart in
    let step = leave_step (board_gives b.board h hart) (length b.core.harts) h hart (memory_of b.core) p there.0 stands (unpicked hart.csrs hart.mode _ stands.debugs) there.1 in
    subst (λ x. Frees h 1 b x)
    (ap (λ rom. record { core = record { harts = harts; ram = b.core.ram; rom = rom }; board = b.board; console = b.console ++ []; steps = b.steps + 1 }) (emptied (is_in_debug hart) (is_in_debug next) (list_any is_in_debug harts) b.core.rom stands.debugs out)
    ∙ ap (λ c. record { core = record { harts = harts; ram = b.core.ram; rom = rom_while harts b.core.rom }; board = b.board; console = c; steps = b.steps + 1 }) (append-nil b.console))
    (frees_step b h (hart_step (board_gives b.board h hart) (length b.core.harts) h hart (memory_of b.core)) next Untouched inside refl step out)

-- ---- the law

-- by cases on the spelling
pub item_steps : (b : Booting) (h p block : ℕ) (item : Item) (insns : List Insn) → h < length b.core.harts → Stands (memory_of b.core) (hart_of b.core h) p →
    Spelled (length b.core.harts) (memory_of b.core) (hart_of b.core h) block item insns → StandAt (code insns) p b.core.rom →
    Moves (is_leave item) h (length insns) b (does h (length insns) item b)
item_steps b h p block _ _ inside stands (small r v imm some r_fits is_signed is) there =
    let hart : Hart = hart_of b.core h in
    leads_quiet b h hart (with_write hart r v (pc_after hart 4)) inside refl stands.debugs (debugs_put hart r v (pc_after hart 4) some stands.debugs)
    (λ given none. small_step given (length b.core.harts) h hart (memory_of b.core) p r v imm there.0 stands none r_fits is_signed is there.1)
item_steps b h p block _ _ inside stands (upper r v imm some r_fits is_signed multiple is) there =
    let hart : Hart = hart_of b.core h in
    leads_quiet b h hart (with_write hart r v (pc_after hart 4)) inside refl stands.debugs (debugs_put hart r v (pc_after hart 4) some stands.debugs)
    (λ given none. upper_step given (length b.core.harts) h hart (memory_of b.core) p r v imm there.0 stands none r_fits is_signed multiple is there.1)
item_steps b h p block _ _ inside stands (pair r v high low some r_fits high_fits multiple low_fits is) there =
    let hart : Hart = hart_of b.core h in
    let a : ℕ = modulo 64 high in
    let first : Hart = with_write hart r a (pc_after hart 4) in
    let second : Hart = with_write first r v (pc_after first 4) in
    let b1 : Booting = becomes h 1 first b in
    let rest : List ℕ = little_bytes 4 (encoded (Insn.Addiw r r low)) ++ there.0 in
    let within : p + 4 ≤ length b.core.rom = omega (arith, room p (little_bytes 4 (encoded (Insn.Lui r high))) rest b.core.rom there.1 (omega arith)) in
    let on : Stands (memory_of b.core) first (p + 4) = stands_put (memory_of b.core) hart p 4 r a stands some within in
    let below : drop (p + 4) b.core.rom ≡ rest = sym (drop-drop 4 p b.core.rom) ∙ ap (drop 4) there.1 in
    let count : r < length hart.x = omega (arith, stands.count) in
    let got : register first r ≡ a = ap (λ (x : Hart). register x r) (put_is hart r a (pc_after hart 4) some) ∙ get_or-set_same hart.x r a 0 count in
    let one : Leads h 1 b b1 = leads_quiet b h hart first inside refl stands.debugs on.debugs
    (λ given none. upper_step given (length b.core.harts) h hart (memory_of b.core) p r a high rest stands none r_fits high_fits multiple refl there.1) in
    let inside1 : h < length b1.core.harts = omega (arith, length-set b.core.harts h first) in
    let two : Leads h 1 b1 (becomes h 1 second b1) = leads_quiet b1 h first second inside1 (get_or-set_same b.core.harts h first (reset_hart 0 0) inside) on.debugs (debugs_put first r v (pc_after first 4) some on.debugs)
    (λ given none. low_step given (length b1.core.harts) h first (memory_of b.core) (p + 4) r v low there.0 on none r_fits low_fits (ap (λ x. alu_of BinOp.Addw x (modulo 64 low)) got ∙ is) below) in
    subst (λ x. Leads h 2 b x) (becomes_twice b h first second ∙ ap (λ x. becomes h 2 x b) (pair_is hart r a v some)) (leads_join h 1 1 b b1 (becomes h 1 second b1) one two)
item_steps b h p block _ _ inside stands (pooled r v off some r_fits fits near aligned at pool) there =
    let hart : Hart = hart_of b.core h in
    leads_quiet b h hart (with_write hart r v (pc_after hart 4)) inside refl stands.debugs (debugs_put hart r v (pc_after hart 4) some stands.debugs)
    (λ given none. pooled_step given (length b.core.harts) h hart (memory_of b.core) p r v block off there.0 stands none r_fits fits aligned near at pool there.1)
item_steps b h p block _ _ inside stands (csr num r r_fits num_fits writable) there =
    let hart : Hart = hart_of b.core h in
    leads_quiet b h hart (hart_after 1 (Csr num r) hart) inside refl stands.debugs (written-in_debug num (register hart r) hart.csrs ∙ stands.debugs)
    (λ given none. csr_step given (length b.core.harts) h hart (memory_of b.core) p num r there.0 stands none r_fits num_fits writable there.1)
item_steps b h p block _ _ inside stands (csr_imm num u u_fits num_fits writable) there =
    let hart : Hart = hart_of b.core h in
    leads_quiet b h hart (hart_after 1 (CsrImm num u) hart) inside refl stands.debugs (written-in_debug num u hart.csrs ∙ stands.debugs)
    (λ given none. csr_imm_step given (length b.core.harts) h hart (memory_of b.core) p num u there.0 stands none u_fits num_fits writable there.1)
item_steps b h p block _ _ inside stands (store w r at off r_fits at_fits is_signed device) there =
    let hart : Hart = hart_of b.core h in
    let va : ℕ = offset_by (register hart at) off in
    let s : ℕ = size_of w in
    leads_at b h hart (at_pc hart (pc_after hart 4)) (Some (record { at = va; size = s; value = low_bytes s (register hart r) })) (Stores va s (low_bytes s (register hart r))) inside refl stands.debugs stands.debugs
    (λ given none. store_step w given (length b.core.harts) h hart (memory_of b.core) p r at off there.0 stands none r_fits at_fits is_signed device there.1)
item_steps b h p block _ _ inside stands (load w r at off some r_fits at_fits is_signed device) there =
    let hart : Hart = hart_of b.core h in
    let va : ℕ = offset_by (register hart at) off in
    let s : ℕ = size_of w in
    let next : Hart = with_write hart r (extended s (board_device b.board va s)) (pc_after hart 4) in
    subst (λ x. Leads h 1 b x) (quiet_load b h va s next)
    (leads_given b h hart next None (Loads va s) inside refl stands.debugs (debugs_put hart r _ (pc_after hart 4) some stands.debugs)
    (load_step w (board_gives b.board h hart) (length b.core.harts) h hart (memory_of b.core) p r at off there.0 stands (unpicked hart.csrs hart.mode _ stands.debugs) r_fits at_fits is_signed device there.1))
item_steps b h p block _ _ inside stands (go r r_fits fits) there =
    let hart : Hart = hart_of b.core h in
    leads_quiet b h hart (hart_after 1 (Go r) hart) inside refl stands.debugs stands.debugs
    (λ given none. go_step given (length b.core.harts) h hart (memory_of b.core) p r there.0 stands none r_fits fits there.1)
item_steps b h p block _ _ inside stands leave there = leave_frees b h p inside stands there

-- ---- one item after another

pub code_append : (a c : List Insn) → code (a ++ c) ≡ code a ++ code c
code_append [] c = refl
code_append (i ∷ a) c = ap (λ bs. little_bytes 4 (encoded i) ++ bs) (code_append a c) ∙ sym (append_assoc (little_bytes 4 (encoded i)) (code a) (code c))

pub code_length : (a : List Insn) → length (code a) ≡ 4 * length a
code_length [] = refl
code_length (i ∷ a) = let k = code_length a in omega arith

stands_becomes : (b : Booting) (h n q : ℕ) (next : Hart) → h < length b.core.harts → Stands (memory_of b.core) next q → Stands (memory_of (becomes h n next b).core) (hart_of (becomes h n next b).core h) q
stands_becomes b h n q next inside stands = subst (λ x. Stands (memory_of b.core) x q) (sym (get_or-set_same b.core.harts h next (reset_hart 0 0) inside)) stands

-- the hart stands behind an item of a block
pub stands_after : (b : Booting) (h p block : ℕ) (item : Item) (insns : List Insn) → h < length b.core.harts → Stands (memory_of b.core) (hart_of b.core h) p →
    Spelled (length b.core.harts) (memory_of b.core) (hart_of b.core h) block item insns → p + 4 * length insns ≤ length b.core.rom → IsFollowed item →
    Stands (memory_of (does h (length insns) item b).core) (hart_of (does h (length insns) item b).core h) (p + 4 * length insns)
stands_after b h p block _ _ inside stands (small r v imm some r_fits is_signed is) within stays = stands_becomes b h 1 (p + 4) _ inside (stands_put (memory_of b.core) (hart_of b.core h) p 4 r v stands some within)
stands_after b h p block _ _ inside stands (upper r v imm some r_fits is_signed multiple is) within stays = stands_becomes b h 1 (p + 4) _ inside (stands_put (memory_of b.core) (hart_of b.core h) p 4 r v stands some within)
stands_after b h p block _ _ inside stands (pair r v high low some r_fits high_fits multiple low_fits is) within stays = stands_becomes b h 2 (p + 8) _ inside (stands_put (memory_of b.core) (hart_of b.core h) p 8 r v stands some within)
stands_after b h p block _ _ inside stands (pooled r v off some r_fits fits near aligned at pool) within stays = stands_becomes b h 1 (p + 4) _ inside (stands_put (memory_of b.core) (hart_of b.core h) p 4 r v stands some within)
stands_after b h p block _ _ inside stands (csr num r r_fits num_fits writable) within stays = stands_becomes b h 1 (p + 4) _ inside (stands_on (memory_of b.core) (hart_of b.core h) p 4 (written num (register (hart_of b.core h) r) (hart_of b.core h).csrs) stands (written-in_debug num (register (hart_of b.core h) r) (hart_of b.core h).csrs ∙ stands.debugs) within)
stands_after b h p block _ _ inside stands (csr_imm num u u_fits num_fits writable) within stays = stands_becomes b h 1 (p + 4) _ inside (stands_on (memory_of b.core) (hart_of b.core h) p 4 (written num u (hart_of b.core h).csrs) stands (written-in_debug num u (hart_of b.core h).csrs ∙ stands.debugs) within)
stands_after b h p block _ _ inside stands (store w r at off r_fits at_fits is_signed device) within stays =
    let hart : Hart = hart_of b.core h in
    let put : Option Stored = Some (record { at = offset_by (register hart at) off; size = size_of w; value = low_bytes (size_of w) (register hart r) }) in
    let harts : List Hart = after_store put b.core.harts in
    let inside1 : h < length harts = omega (arith, length-after put b.core.harts) in
    subst (λ x. Stands (memory_of b.core) x (p + 4)) (sym (get_or-set_same harts h (at_pc hart (pc_after hart 4)) (reset_hart 0 0) inside1)) (stands_on (memory_of b.core) hart p 4 hart.csrs stands stands.debugs within)
stands_after b h p block _ _ inside stands (load w r at off some r_fits at_fits is_signed device) within stays =
    stands_becomes b h 1 (p + 4) _ inside (stands_put (memory_of b.core) (hart_of b.core h) p 4 r _ stands some within)
stands_after b h p block _ _ inside stands (go r r_fits fits) within stays = absurd stays
stands_after b h p block _ _ inside stands leave within stays = absurd stays

-- bytes that stand one behind the other
pub stand_first : (a c : List ℕ) (p : ℕ) (rom : List ℕ) → StandAt (a ++ c) p rom → StandAt a p rom
stand_first a c p rom (rest, e) = (c ++ rest, e ∙ append_assoc a c rest)

pub stand_second : (a c : List ℕ) (p : ℕ) (rom : List ℕ) → StandAt (a ++ c) p rom → StandAt c (p + length a) rom
stand_second a c p rom (rest, e) = (rest, sym (drop-drop (length a) p rom) ∙ ap (drop (length a)) (e ∙ append_assoc a c rest) ∙ drop_at a (c ++ rest) (length a) refl)

pub rom_same : (b : Booting) (h n : ℕ) (item : Item) → IsFollowed item → (does h n item b).core.rom ≡ b.core.rom
rom_same b h n (Put r v) follows = refl
rom_same b h n (Csr num r) follows = refl
rom_same b h n (CsrImm num u) follows = refl
rom_same b h n (Store size r at off) follows = refl
rom_same b h n (Load size r at off) follows = refl
rom_same b h n (Go r) follows = absurd follows
rom_same b h n Leave follows = absurd follows

pub harts_same : (b : Booting) (h n : ℕ) (item : Item) → length (does h n item b).core.harts ≡ length b.core.harts
harts_same b h n (Put r v) = length-set b.core.harts h _
harts_same b h n (Csr num r) = length-set b.core.harts h _
harts_same b h n (CsrImm num u) = length-set b.core.harts h _
harts_same b h n (Store size r at off) = length-set (map (without_reservation (offset_by (register (hart_of b.core h) at) off) size) b.core.harts) h _ ∙ length-map b.core.harts (without_reservation (offset_by (register (hart_of b.core h) at) off) size)
harts_same b h n (Load size r at off) = length-set b.core.harts h _
harts_same b h n (Go r) = length-set b.core.harts h _
harts_same b h n Leave = length-set b.core.harts h _

-- behind each item of a list the next is executed
abbrev pub AllFollowed : List Spelling → Type 0
AllFollowed [] = Unit {0}
AllFollowed (s ∷ rest) = IsFollowed s.item × AllFollowed rest

pub none_lead : (h : ℕ) (b : Booting) → Leads h 0 b b
none_lead h b left = let e : 0 + left ≡ left = omega arith in ap (λ n. boot_hart n h b) e

pub some_words : {n : ℕ} {memory : MemoryState} {hart : Hart} {block : ℕ} {item : Item} {insns : List Insn} → Spelled n memory hart block item insns → 0 < length insns
some_words (small r v imm some r_fits is_signed is) = omega arith
some_words (upper r v imm some r_fits is_signed multiple is) = omega arith
some_words (pair r v high low some r_fits high_fits multiple low_fits is) = omega arith
some_words (pooled r v off some r_fits fits near aligned at pool) = omega arith
some_words (csr num r r_fits num_fits writable) = omega arith
some_words (csr_imm num u u_fits num_fits writable) = omega arith
some_words (store w r at off r_fits at_fits is_signed device) = omega arith
some_words (load w r at off some r_fits at_fits is_signed device) = omega arith
some_words (go r r_fits fits) = omega arith
some_words leave = omega arith

-- the steps of an item behind which the next is executed lead on
pub followed_leads : (item : Item) → IsFollowed item → (h n : ℕ) (b b' : Booting) → Moves (is_leave item) h n b b' → Leads h n b b'
followed_leads (Put r v) follows h n b b' moves = moves
followed_leads (Csr num r) follows h n b b' moves = moves
followed_leads (CsrImm num u) follows h n b b' moves = moves
followed_leads (Store size r at off) follows h n b b' moves = moves
followed_leads (Load size r at off) follows h n b b' moves = moves
followed_leads (Go r) follows h n b b' moves = absurd follows
followed_leads Leave follows h n b b' moves = absurd follows

-- items behind each of which the next is executed
pub items_lead : (b : Booting) (h p block : ℕ) (items : List Spelling) → h < length b.core.harts → Stands (memory_of b.core) (hart_of b.core h) p →
    AllSpelled h block items b → AllFollowed items → StandAt (code (all_insns items)) p b.core.rom →
    Leads h (word_count items) b (all_do h items b) × Stands (memory_of (all_do h items b).core) (hart_of (all_do h items b).core h) (p + 4 * word_count items)
items_lead b h p block [] inside stands spelled stays there = (none_lead h b, subst (λ q. Stands (memory_of b.core) (hart_of b.core h) q) (let e : p ≡ p + 0 = omega arith in e) stands)
items_lead b h p block (s ∷ rest) inside stands spelled stays there =
    let split : StandAt (code s.insns ++ code (all_insns rest)) p b.core.rom = subst (λ bs. StandAt bs p b.core.rom) (code_append s.insns (all_insns rest)) there in
    let first : StandAt (code s.insns) p b.core.rom = stand_first (code s.insns) (code (all_insns rest)) p b.core.rom split in
    let b1 : Booting = does h (length s.insns) s.item b in
    let words : 0 < length s.insns = some_words spelled.0 in
    let within : p + 4 * length s.insns ≤ length b.core.rom = omega (arith, code_length s.insns, room p (code s.insns) first.0 b.core.rom first.1 (let k = code_length s.insns in omega arith)) in
    let second : StandAt (code (all_insns rest)) (p + 4 * length s.insns) b1.core.rom =
    subst (λ q. StandAt (code (all_insns rest)) q b1.core.rom) (ap (λ k. p + k) (code_length s.insns)) (subst (λ rom. StandAt (code (all_insns rest)) (p + length (code s.insns)) rom) (sym (rom_same b h (length s.insns) s.item stays.0)) (stand_second (code s.insns) (code (all_insns rest)) p b.core.rom split)) in
    let inside1 : h < length b1.core.harts = omega (arith, harts_same b h (length s.insns) s.item) in
    let after = items_lead b1 h (p + 4 * length s.insns) block rest inside1 (stands_after b h p block s.item s.insns inside stands spelled.0 within stays.0) spelled.1 stays.1 second in
    let place : p + 4 * length s.insns + 4 * word_count rest ≡ p + 4 * (length s.insns + word_count rest) = omega arith in (
      leads_join h (length s.insns) (word_count rest) b b1 (all_do h rest b1) (followed_leads s.item stays.0 h (length s.insns) b b1 (item_steps b h p block s.item s.insns inside stands spelled.0 first)) after.0,
      subst (λ q. Stands (memory_of (all_do h rest b1).core) (hart_of (all_do h rest b1).core h) q) place after.1,
    )
