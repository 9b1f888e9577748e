-- The device block puts the devices back, and goes on at the block of hart 0.
use Rattle.std.specs.Prelude.{ℤ, pos, slice_set}
use Rattle.std.proofs.Common.{◌≡◌, ℕ, ◌+◌, ◌*◌, ◌%◌, ◌^◌, ◌<◌, ◌≤◌, Bool, true, false, cond, List, [], ◌∷◌, ◌++◌, length, refl, sym, ap, ◌∙◌, arith, subst, ◌==◌, is_some}
use Rattle.std.proofs.lemmas.Bool.{lt-ltb}
use Rattle.std.proofs.lemmas.List.{get_or-set_same, get_or-set_other, length-set, set-set}
use Rattle.rv_decode.specs.declared.Insn.{Insn}
use Rattle.csr_file.specs.declared.registers.Registers.{Registers}
use Rattle.clint.specs.State.{hart_count}
use Rattle.board_bus.specs.Board.{BoardState, IsFit, reset_board}
use Rattle.hart_step.specs.declared.hart.Hart.{Hart}
use Rattle.hart_step.specs.Harts.{hart_of, is_in_debug, register, reset_hart}
use Rattle.hart_step.specs.Memory.{most_rom, rom_base}
use Rattle.hart_step.specs.Effects.{at_pc, even_part, pc_after, with_write}
use Rattle.hart_step.specs.Step.{memory_of}
use Rattle.hart_turns.specs.Boot.{Booting, Leads}
use Rattle.hart_turns.proofs.BootSteps.{leads_join}
use Rattle.rom_gen.specs.ItemEffects.{AllSpelled, all_do, becomes, does, moved}
use Rattle.rom_gen.specs.Items.{Put, Store, Go, Spelling, StandAt, Width, all_insns, code, go, pair, size_of, store_insn, word_count, Stands}
use Rattle.rom_gen.specs.Wants.{high_part, is_short, low_part, put_insns, Pooled}
use Rattle.rom_gen.specs.Deeds.{Deed, Aim, Save, Again, Read, all_deed_values, deed_items, deed_values, placed_deeds}
use Rattle.rom_gen.specs.DeviceBlock.{device_deeds}
use Rattle.rom_gen.specs.Rom.{device_items, far_insns}
use Rattle.rom_gen.specs.Executed.{HasCome, Stay}
use Rattle.rom_gen.proofs.Runs.{Known, Runs, known_all}
use Rattle.rom_gen.proofs.Deeds.{Did, Works, WorksHart, deeds_do, do_append, moved_again, count_append}
use Rattle.rom_gen.proofs.DeviceRuns.{devices_run}
use Rattle.rom_gen.proofs.HartBlock.{insns_count}
use Rattle.rom_gen.proofs.ItemSteps.{AllFollowed, code_length, item_steps, items_lead, stand_first, stand_second}
use Rattle.rom_gen.proofs.Standing.{put_is}
use Rattle.rom_gen.proofs.Placed.{spelled_append}
use Rattle.rom_gen.proofs.WantLayout.{high_fits, high_multiple, low_fits, pair_value}
use Rattle.rom_gen.proofs.Stays.{stay_join, stay_set}

followed_append : (a c : List Spelling) → AllFollowed a → AllFollowed c → AllFollowed (a ++ c)
followed_append [] c first second = second
followed_append (s ∷ a) c first second = (first.0, followed_append a c first.1 second)

save_followed : (z : Bool) (k : ℕ) (w : Width) (v by : ℕ) (off : ℤ) →
    AllFollowed (cond z (record { item = Store (size_of w) 0 by off; insns = store_insn w by 0 off ∷ [] } ∷ []) (record { item = Put 6 v; insns = put_insns k 6 v } ∷ record { item = Store (size_of w) 6 by off; insns = store_insn w by 6 off ∷ [] } ∷ []))
save_followed true k w v by off = (tt, tt)
save_followed false k w v by off = (tt, (tt, tt))

deed_followed : (k : ℕ) (d : Deed) → AllFollowed (deed_items k d)
deed_followed k (Aim r v) = (tt, tt)
deed_followed k (Save w v by off at) = save_followed (v == 0) k w v by off
deed_followed k (Again w v by off at) = (tt, tt)
deed_followed k (Read w by off at) = (tt, tt)

deeds_followed : (k : ℕ) (ds : List Deed) → AllFollowed (placed_deeds k ds)
deeds_followed k [] = tt
deeds_followed k (d ∷ ds) = followed_append (deed_items k d) (placed_deeds (k + 8 * length (deed_values d)) ds) (deed_followed k d) (deeds_followed (k + 8 * length (deed_values d)) ds)

far_short : (v : ℕ) → v < 2 ^ 31 → is_short v ≡ true
unfolding is_short
far_short v small = rw (lt-ltb v 2147483648 small) refl

-- the deeds of the block, done by a hart that has come to it
pub devices_done : (b : Booting) (h block k : ℕ) (target : BoardState) (csrs : Registers) → IsFit target → length b.core.harts ≡ hart_count target.clint →
    b.board ≡ reset_board (hart_count target.clint) → HasCome b h block csrs → Pooled block k (all_deed_values (device_deeds target)) b.core.rom →
    Did b h block (placed_deeds k (device_deeds target)) (known_all b.board (device_deeds target) (λ r. register (hart_of b.core h) r)) csrs target
devices_done b h block k target csrs fit count fresh come pooled =
    let n : ℕ = hart_count target.clint in
    let ds : List Deed = device_deeds target in
    let known : Known = λ r. register (hart_of b.core h) r in
    let works : Works b h block known csrs = record { inside = come.inside; hart = record { count = come.stands.count; nought = come.stands.nought; one = come.at; has = λ r low high. refl; csrs_are = come.csrs_are } } in
    let runs : Runs n b.core.ram known b.board ds target = subst (λ x. Runs n b.core.ram known x ds target) (sym fresh) (devices_run target b.core.ram known fit) in
    deeds_do ds n b h block k known csrs target count works runs pooled

-- n steps have led hart h from a block to the place at which it goes on, and the devices to a board
pub record Led (b : Booting) (h n next : ℕ) (csrs : Registers) (board : BoardState) : Type 0 where
  pub harts : List Hart
  pub leads : Leads h n b (moved n harts board b)
  pub come : HasCome (moved n harts board b) h next csrs
  pub stay : Stay h b.core.harts harts

-- a machine with its devices at reset, whose hart h has come to their block, gets these devices, and hart h comes to the
-- next block
pub device_block : (b : Booting) (h block k next : ℕ) (target : BoardState) (csrs : Registers) → IsFit target → length b.core.harts ≡ hart_count target.clint →
    b.board ≡ reset_board (hart_count target.clint) → HasCome b h block csrs → next % 8 ≡ 0 → next ≤ most_rom →
    Pooled block k (all_deed_values (device_deeds target)) b.core.rom →
    StandAt (code (all_insns (device_items k target (rom_base + next))) ++ code (Insn.Jalr 0 1 (pos 0) ∷ [])) block b.core.rom →
    Led b h (word_count (device_items k target (rom_base + next)) + 1) next csrs target
device_block b h block k next target csrs fit count fresh come even within pooled codes =
    let ds : List Deed = device_deeds target in
    let v : ℕ = rom_base + next in
    let known : Known = λ r. register (hart_of b.core h) r in
    let did : Did b h block (placed_deeds k ds) (known_all b.board ds known) csrs target = devices_done b h block k target csrs fit count fresh come pooled in
    let n1 : ℕ = word_count (placed_deeds k ds) in
    let harts1 : List Hart = did.harts in
    let b1 : Booting = moved n1 harts1 target b in
    let hart1 : Hart = hart_of b1.core h in
    let on : WorksHart hart1 block (known_all b.board ds known) csrs = did.works.hart in
    let inside1 : h < length harts1 = did.works.inside in
    let last : List Spelling = record { item = Put 1 v; insns = far_insns v } ∷ [] in
    let items : List Spelling = device_items k target v in
    let hart2 : Hart = with_write hart1 1 v (pc_after hart1 8) in
    let harts2 : List Hart = slice_set harts1 h hart2 in
    let b2 : Booting = moved (n1 + 2) harts2 target b in
    let spelled : AllSpelled h block items b = spelled_append h block (placed_deeds k ds) last b did.spelled (pair 1 v (high_part v) (low_part v) (omega arith) (omega arith) (high_fits v) (high_multiple v) (low_fits v) (pair_value v (omega arith) (far_short v (omega arith))), tt) in
    let words : word_count items ≡ n1 + 2 = count_append (placed_deeds k ds) last in
    let same : all_do h items b ≡ b2 = do_append h (placed_deeds k ds) last b ∙ ap (all_do h last) did.is ∙ moved_again n1 2 harts1 harts2 target target b in
    let run = items_lead b h block block items come.inside come.stands spelled (followed_append (placed_deeds k ds) last (deeds_followed k ds) (tt, tt)) (stand_first (code (all_insns items)) (code (Insn.Jalr 0 1 (pos 0) ∷ [])) block b.core.rom codes) in
    let leads : Leads h (word_count items) b b2 = subst (λ x. Leads h (word_count items) b x) same run.0 in
    let place : ℕ = block + 4 * word_count items in
    let stands2 : Stands (memory_of b2.core) (hart_of b2.core h) place = subst (λ (x : Booting). Stands (memory_of x.core) (hart_of x.core h) place) same run.1 in
    let tail : StandAt (code (Insn.Jalr 0 1 (pos 0) ∷ [])) place b2.core.rom = subst (λ q. StandAt (code (Insn.Jalr 0 1 (pos 0) ∷ [])) q b.core.rom) (ap (λ j. block + j) (code_length (all_insns items) ∙ ap (λ j. 4 * j) (insns_count items))) (stand_second (code (all_insns items)) (code (Insn.Jalr 0 1 (pos 0) ∷ [])) block b.core.rom codes) in
    let inside2 : h < length harts2 = omega (arith, inside1, length-set harts1 h hart2) in
    let here2 : hart_of b2.core h ≡ hart2 = get_or-set_same harts1 h hart2 (reset_hart 0 0) inside1 in
    let is2 : hart2 ≡ record hart1 { x = slice_set hart1.x 1 v; pc = pc_after hart1 8 } = put_is hart1 1 v (pc_after hart1 8) (omega arith) in
    let got2 : register hart2 1 ≡ v = ap (λ (x : Hart). register x 1) is2 ∙ get_or-set_same hart1.x 1 v 0 (let j = on.count in omega arith) in
    let got : register (hart_of b2.core h) 1 ≡ v = ap (λ (x : Hart). register x 1) here2 ∙ got2 in
    let hart3 : Hart = at_pc hart2 v in
    let harts3 : List Hart = slice_set harts1 h hart3 in
    let b3 : Booting = moved (word_count items + 1) harts3 target b in
    let goes : Leads h 1 b2 (does h 1 (Go 1) b2) = item_steps b2 h place block (Go 1) (Insn.Jalr 0 1 (pos 0) ∷ []) inside2 stands2 (go 1 (omega arith) (let j = got in omega arith)) tail in
    let to : even_part v ≡ v = omega arith in
    let same3 : does h 1 (Go 1) b2 ≡ b3 =
    ap (λ (x : Hart). becomes h 1 (at_pc x (even_part (register x 1))) b2) here2
    ∙ ap (λ a. becomes h 1 (at_pc hart2 (even_part a)) b2) got2
    ∙ ap (λ a. becomes h 1 (at_pc hart2 a) b2) to
    ∙ moved_again (n1 + 2) 1 harts2 (slice_set harts2 h hart3) target target b
    ∙ ap (λ harts. moved (n1 + 2 + 1) harts target b) (set-set harts1 h hart2 hart3)
    ∙ ap (λ j. moved (j + 1) harts3 target b) (sym words) in
    let here3 : hart_of b3.core h ≡ hart3 = get_or-set_same harts1 h hart3 (reset_hart 0 0) inside1 in
    let is3 : hart3 ≡ record hart1 { x = slice_set hart1.x 1 v; pc = v } = ap (λ (x : Hart). at_pc x v) is2 in
    let final : record hart1 { x = slice_set hart1.x 1 v; pc = v } ≡ hart_of b3.core h = sym is3 ∙ sym here3 in
    let debugs : is_in_debug hart1 ≡ true = ap (λ (r : Registers). is_some r.debug) (on.csrs_are ∙ sym come.csrs_are) ∙ come.stands.debugs in
    let stands3 : Stands (memory_of b3.core) (record hart1 { x = slice_set hart1.x 1 v; pc = v }) next = record { debugs = debugs; at = refl; nought = get_or-set_other hart1.x 1 0 v 0 (omega arith) ∙ on.nought; count = length-set hart1.x 1 v ∙ on.count; small = come.stands.small } in
    record {
      harts = harts3;
      leads = subst (λ x. Leads h (word_count items + 1) b x) same3 (leads_join h (word_count items) 1 b b2 (does h 1 (Go 1) b2) leads goes);
      come = record {
        inside = omega (arith, inside1, length-set harts1 h hart3);
        stands = subst (λ x. Stands (memory_of b3.core) x next) final stands3;
        csrs_are = ap (λ (x : Hart). x.csrs) (sym final) ∙ on.csrs_are;
        at = ap (λ (x : Hart). register x 1) (sym final) ∙ get_or-set_same hart1.x 1 v 0 (let j = on.count in omega arith);
        aligned = even;
      };
      stay = stay_join h b.core.harts harts1 harts3 did.stay (stay_set h harts1 hart3 inside1 (ap (λ (x : Hart). x.reservation) is3));
    }
