-- Booting from the ROM restores the machine.
use Rattle.std.specs.Prelude.{All, None, slice_index, slice_set}
use Rattle.std.proofs.Common.{◌≡◌, ℕ, zero, suc, ◌+◌, ◌<◌, ◌≤◌, true, false, cond, List, [], length, refl, sym, ap, ◌∙◌, arith, subst, map, add_assoc}
use Rattle.std.proofs.Math.ListN.{get_or}
use Rattle.std.proofs.lemmas.List.{get_or-map, get_or-set_same, get_or-set_other, length-map, length-set, same_lists}
use Rattle.std.proofs.lemmas.List.Elements.{All-set}
use Rattle.std.proofs.lemmas.List.Folds.{list_any_at, list_any_none}
use Rattle.csr_file.specs.Kept.{reset_registers}
use Rattle.csr_file.specs.declared.registers.Registers.{Registers}
use Rattle.clint.specs.State.{hart_count}
use Rattle.board_bus.specs.Board.{BoardState, IsFit as IsFitBoard, reset_board}
use Rattle.hart_step.specs.declared.hart.Hart.{Hart}
use Rattle.hart_step.specs.Fit.{IsKept}
use Rattle.hart_step.specs.Harts.{CoreState, is_in_debug, reset_hart, hart_of}
use Rattle.hart_step.specs.Memory.{most_rom, rom_base}
use Rattle.hart_step.specs.Step.{unreserved, unreserved_hart, memory_of}
use Rattle.hart_step.specs.DebugReset.{debug_registers, debug_core, debug_harts, reset_debug_hart}
use Rattle.hart_turns.specs.Machine.{MachineState, is_running, debug_machine}
use Rattle.hart_turns.specs.Fit.{IsFit}
use Rattle.hart_turns.specs.Boot.{Booting, Frees, Leads, boot_harts, most_steps, begins_boot}
use Rattle.hart_turns.proofs.BootSteps.{frees_join, leads_join}
use Rattle.rom_gen.specs.Items.{StandAt, Stands}
use Rattle.rom_gen.specs.ItemEffects.{becomes, rom_while, moved, freed}
use Rattle.rom_gen.specs.Rom.{device_items, device_place, first_place, hart_bytes, hart_items, start_places, pool_place, rom_bytes, block_places, addresses}
use Rattle.rom_gen.specs.Executed.{HasCome, HasBegun, sent_on, Stay}
use Rattle.rom_gen.proofs.AllHarts.{all_free, at_hart, partly, partly_done, partly_later, partly_length, total}
use Rattle.rom_gen.proofs.Dispatched.{dispatches, sent_comes}
use Rattle.rom_gen.proofs.HartBlock.{IsTarget, freed_moved}
use Rattle.rom_gen.proofs.RomParts.{device_even, device_fixed, device_small, device_words, first_start, hart_fixed, hart_short, starts_length}
use Rattle.rom_gen.proofs.Targets.{is_target}
use Rattle.rom_gen.proofs.Parts.{IsStart, Parts, address_at, addresses_fit, addresses_length, parts, places_length, start_is_place}
use Rattle.rom_gen.proofs.BlockRuns.{device_part, device_steps, hart_part, hart_steps}
use Rattle.rom_gen.proofs.Running.{all_out, fresh_at, fresh_free, fresh_length, not_some}
use Rattle.rom_gen.proofs.DeviceEnd.{Led}
use Rattle.rom_gen.proofs.Stays.{stay_free}

-- ---- the whole

abbrev pub steps_of : BoardState → List Hart → ℕ → ℕ
steps_of board harts zero = 6 + device_steps board (first_place board harts) + hart_steps (get_or harts 0 (reset_hart 0 0))
steps_of board harts (suc h) = 6 + hart_steps (get_or harts (suc h) (reset_hart 0 0))

abbrev pub boards_of : BoardState → ℕ → ℕ → BoardState
boards_of board n zero = reset_board n
boards_of board n (suc h) = board

abbrev pub wanted_of : List Hart → ℕ → Hart
wanted_of harts h = unreserved_hart (get_or harts h (reset_hart 0 0))

abbrev start_of : BoardState → CoreState → ℕ → Booting
start_of board core h = record {
  core = record { harts = partly (wanted_of core.harts) (debug_harts (length core.harts)) h; ram = core.ram; rom = rom_bytes board core.harts };
  board = boards_of board (length core.harts) h;
  console = [];
  steps = total (steps_of board core.harts) h;
}

begun_hart : (board : BoardState) (core : CoreState) (h : ℕ) → h < length core.harts → hart_of (start_of board core h).core h ≡ reset_debug_hart h
begun_hart board core h within =
    partly_later (wanted_of core.harts) (debug_harts (length core.harts)) h h (reset_hart 0 0) (omega arith) ∙ fresh_at (length core.harts) h (reset_hart 0 0) within

number_is : (h : ℕ) → (debug_registers h).hart ≡ h
unfolding reset_registers
number_is h = refl

begun : (board : BoardState) (core : CoreState) (h : ℕ) → length (rom_bytes board core.harts) ≤ most_rom → h < length core.harts → HasBegun (start_of board core h) h
begun board core h small within =
    let fresh : List Hart = debug_harts (length core.harts) in
    let here : hart_of (start_of board core h).core h ≡ reset_debug_hart h = begun_hart board core h within in
    let stands : Stands (memory_of (start_of board core h).core) (reset_debug_hart h) 0 = record { debugs = refl; at = omega arith; nought = refl; count = refl; small = small } in
    record {
      inside = omega (arith, partly_length (wanted_of core.harts) fresh h, fresh_length (length core.harts));
      stands = subst (λ x. Stands (memory_of (start_of board core h).core) x 0) (sym here) stands;
      number = ap (λ (x : Hart). x.csrs.hart) here ∙ number_is h;
    }

-- hart h has executed the dispatch
record Arrived (board : BoardState) (core : CoreState) (h place : ℕ) (csrs : Registers) : Type 0 where
  next : Hart
  leads : Leads h 6 (start_of board core h) (becomes h 6 next (start_of board core h))
  come : HasCome (becomes h 6 next (start_of board core h)) h place csrs
  none : next.reservation ≡ None

arrives : (board : BoardState) (core : CoreState) (h : ℕ) → IsFitBoard board → IsKept core → h < length core.harts → Arrived board core h (slice_index (start_places board core.harts) h) (debug_registers h)
arrives board core h fit kept within =
    let harts : List Hart = core.harts in
    let b : Booting = start_of board core h in
    let ps : Parts board harts (rom_bytes board harts) = parts board harts fit kept.most in
    let starts : List ℕ = addresses (start_places board harts) in
    let start : IsStart (slice_index (start_places board harts) h) = start_is_place board harts h fit kept.most within in
    let begins : HasBegun b h = begun board core h ps.small within in
    let here : hart_of b.core h ≡ reset_debug_hart h = begun_hart board core h within in
    let at : slice_index starts h ≡ rom_base + slice_index (start_places board harts) h = address_at (start_places board harts) h 0 (omega (arith, places_length board harts)) in
    record {
      next = sent_on h (rom_base + slice_index (start_places board harts) h) (hart_of b.core h);
      leads = subst (λ v. Leads h 6 b (becomes h 6 (sent_on h v (hart_of b.core h)) b)) at
          (dispatches starts (omega (arith, addresses_length board harts, kept.most)) (addresses_fit board harts fit kept.most) b h (omega (arith, addresses_length board harts)) begins ps.dispatch);
      come = sent_comes b h (slice_index (start_places board harts) h) (debug_registers h) begins start.aligned start.near (ap (λ (x : Hart). x.csrs) here);
      none = ap (λ (x : Hart). x.reservation) here;
    }

-- a hart that is freed after the block of the devices, where no hart had a reservation
freed_led : (h n m : ℕ) (harts : List Hart) (hart : Hart) (board : BoardState) (b : Booting) → h < length b.core.harts →
    All (λ (x : Hart). x.reservation ≡ None) b.core.harts → Stay h b.core.harts harts → freed h m hart board (moved n harts board b) ≡ freed h (n + m) hart board b
freed_led h n m harts hart board b inside none stay =
    ap (λ hs. record { core = record { harts = hs; ram = b.core.ram; rom = rom_while hs b.core.rom }; board = board; console = b.console; steps = b.steps + n + m }) (stay_free h b.core.harts harts hart inside none stay)
    ∙ ap (λ k. record { core = record { harts = slice_set b.core.harts h hart; ram = b.core.ram; rom = rom_while (slice_set b.core.harts h hart) b.core.rom }; board = board; console = b.console; steps = k }) (add_assoc b.steps n m)

-- hart h does its part
each : (board : BoardState) (core : CoreState) (h : ℕ) → IsFitBoard board → IsKept core → hart_count board.clint ≡ length core.harts → ((i : ℕ) → i < length core.harts → IsTarget (get_or core.harts i (reset_hart 0 0))) → h < length core.harts →
    Frees h (steps_of board core.harts h) (start_of board core h) (at_hart (wanted_of core.harts) (debug_harts (length core.harts)) core.ram (rom_bytes board core.harts) (boards_of board (length core.harts)) (steps_of board core.harts) (suc h))
unfolding partly
each board core zero fit kept count targets within =
    let harts : List Hart = core.harts in
    let n : ℕ = length harts in
    let rom : List ℕ = rom_bytes board harts in
    let ps : Parts board harts rom = parts board harts fit kept.most in
    let first : ℕ = first_place board harts in
    let most : n ≤ 8 = kept.most in
    let owner : Hart = get_or harts 0 (reset_hart 0 0) in
    let b : Booting = start_of board core 0 in
    let arrived : Arrived board core 0 (slice_index (start_places board harts) 0) (debug_registers 0) = arrives board core 0 fit kept within in
    let next : Hart = arrived.next in
    let number : owner.csrs.hart ≡ 0 = kept.numbers 0 within in
    let b1 : Booting = becomes 0 6 next b in
    let at : slice_index (start_places board harts) 0 ≡ device_place harts = get_or-set_same (block_places first harts) 0 (device_place harts) 0 (omega (arith, starts_length first harts)) in
    let come1 : HasCome b1 0 (device_place harts) (debug_registers 0) = subst (λ p. HasCome b1 0 p (debug_registers 0)) at arrived.come in
    let none : next.reservation ≡ None = arrived.none in
    let here : hart_of b1.core 0 ≡ next = get_or-set_same (debug_harts n) 0 next (reset_hart 0 0) (omega (arith, fresh_length n)) in
    let free1 : All (λ (x : Hart). x.reservation ≡ None) b1.core.harts = All-set (λ (x : Hart). x.reservation ≡ None) (debug_harts n) 0 next none (fresh_free n) in
    let harts1 : length b1.core.harts ≡ hart_count board.clint = length-set (debug_harts n) 0 next ∙ fresh_length n ∙ sym count in
    let devices : Led b1 0 (device_steps board first) first (debug_registers 0) board = device_part b1 0 (device_place harts) first board (debug_registers 0) fit harts1 (ap reset_board (sym count)) come1 (omega (arith, device_even board)) (omega (arith, device_small board fit)) ps.device in
    let m : ℕ = device_steps board first in
    let w : ℕ = hart_steps owner in
    let b2 : Booting = moved m devices.harts board b1 in
    let stands : StandAt (hart_bytes owner) first rom = subst (λ p. StandAt (hart_bytes owner) p rom) (first_start harts first within) (ps.blocks 0 (reset_hart 0 0) within) in
    let come2 : HasCome b2 0 first (debug_registers owner.csrs.hart) = subst (λ k. HasCome b2 0 first (debug_registers k)) (sym number) devices.come in
    let own : (hart_of b2.core 0).reservation ≡ None = devices.stay.own ∙ ap (λ (x : Hart). x.reservation) here ∙ none in
    let frees : Frees 0 w b2 (freed 0 w (unreserved_hart owner) board b2) = hart_part b2 0 first owner (targets 0 within) come2 own stands in
    let same : freed 0 w (unreserved_hart owner) board b2 ≡ freed 0 (6 + m + w) (unreserved_hart owner) board b =
    freed_led 0 m w devices.harts (unreserved_hart owner) board b1 come1.inside free1 devices.stay
    ∙ freed_moved 0 6 (m + w) next (unreserved_hart owner) (reset_board n) board b
    ∙ ap (λ k. freed 0 k (unreserved_hart owner) board b) (omega arith) in
    subst (λ x. Frees 0 (6 + m + w) b x) same (frees_join 0 (6 + m) w b b2 _ (leads_join 0 6 m b b1 b2 arrived.leads devices.leads) frees)
each board core (suc g) fit kept count targets within =
    let h : ℕ = suc g in
    let harts : List Hart = core.harts in
    let n : ℕ = length harts in
    let rom : List ℕ = rom_bytes board harts in
    let ps : Parts board harts rom = parts board harts fit kept.most in
    let first : ℕ = first_place board harts in
    let owner : Hart = get_or harts h (reset_hart 0 0) in
    let b : Booting = start_of board core h in
    let arrived : Arrived board core h (slice_index (start_places board harts) h) (debug_registers h) = arrives board core h fit kept within in
    let next : Hart = arrived.next in
    let number : owner.csrs.hart ≡ h = kept.numbers h within in
    let b1 : Booting = becomes h 6 next b in
    let at : slice_index (start_places board harts) h ≡ slice_index (block_places first harts) h = get_or-set_other (block_places first harts) 0 h (device_place harts) 0 (omega arith) in
    let come1 : HasCome b1 h (slice_index (block_places first harts) h) (debug_registers owner.csrs.hart) = subst (λ k. HasCome b1 h (slice_index (block_places first harts) h) (debug_registers k)) (sym number) (subst (λ p. HasCome b1 h p (debug_registers h)) at arrived.come) in
    let w : ℕ = hart_steps owner in
    let own : (hart_of b1.core h).reservation ≡ None = ap (λ (x : Hart). x.reservation) (get_or-set_same b.core.harts h next (reset_hart 0 0) (begun board core h ps.small within).inside) ∙ arrived.none in
    let frees : Frees h w b1 (freed h w (unreserved_hart owner) board b1) = hart_part b1 h (slice_index (block_places first harts) h) owner (targets h within) come1 own (ps.blocks h (reset_hart 0 0) within) in
    let same : freed h w (unreserved_hart owner) board b1 ≡ freed h (6 + w) (unreserved_hart owner) board b = freed_moved h 6 w next (unreserved_hart owner) board board b in
    subst (λ x. Frees h (6 + w) b x) same (frees_join h 6 w b b1 _ arrived.leads frees)

few_steps : (board : BoardState) (harts : List Hart) (h : ℕ) → IsFitBoard board → steps_of board harts h ≤ most_steps
few_steps board harts zero fit =
    let first : ℕ = first_place board harts in
    let owner : Hart = get_or harts 0 (reset_hart 0 0) in
    omega (arith, device_fixed board (rom_base + first) (pool_place (λ k. device_items k board (rom_base + first))), device_words board (rom_base + first) fit, hart_fixed owner (pool_place (hart_items owner)), hart_short owner)
few_steps board harts (suc h) fit =
    let owner : Hart = get_or harts (suc h) (reset_hart 0 0) in
    omega (arith, hart_fixed owner (pool_place (hart_items owner)), hart_short owner)

last_board : (board : BoardState) (k n : ℕ) → 0 < n → boards_of board k n ≡ board
last_board board k zero some = absurd (omega arith)
last_board board k (suc n) some = refl

-- the whole
pub restores : (m : MachineState) → IsFit m → is_running m ≡ true →
    (length (rom_bytes m.board m.core.harts) ≤ most_rom)
    × (boot_harts m.shape.harts (begins_boot (debug_machine m.shape m.taken m.core.ram (rom_bytes m.board m.core.harts))) ≡ record { left = record { core = unreserved m.core; board = m.board; console = []; steps = total (steps_of m.board m.core.harts) m.shape.harts }; fault = None })
unfolding partly
restores m fit running =
    let board : BoardState = m.board in
    let core : CoreState = m.core in
    let harts : List Hart = core.harts in
    let n : ℕ = length harts in
    let kept : IsKept core = fit.core.kept in
    let board_fit : IsFitBoard board = fit.board in
    let rom : List ℕ = rom_bytes board harts in
    let wanted : ℕ → Hart = wanted_of harts in
    let fresh : List Hart = debug_harts n in
    let boards : ℕ → BoardState = boards_of board n in
    let steps : ℕ → ℕ = steps_of board harts in
    let count : hart_count board.clint ≡ n = fit.shape.devices ∙ sym fit.shape.harts in
    let some : 0 < n = kept.some in
    let targets : (i : ℕ) → i < n → IsTarget (get_or harts i (reset_hart 0 0)) = λ i within. is_target (get_or harts i (reset_hart 0 0)) (kept.harts i (reset_hart 0 0) within) (not_some _ (all_out harts running i (reset_hart 0 0) within)) in
    let in_debug : (harts : List Hart) (i : ℕ) → i < length fresh → is_in_debug (get_or fresh i (reset_hart 0 0)) ≡ true = λ harts i within. ap is_in_debug (fresh_at n i (reset_hart 0 0) (omega (arith, fresh_length n))) in
    let frees = all_free wanted fresh core.ram rom boards steps (in_debug fresh) (λ h within. few_steps board harts h board_fit) (λ h within. each board core h board_fit kept count targets (omega (arith, fresh_length n))) n (omega (arith, fresh_length n)) (omega (arith, fresh_length n)) in
    let begins : rom_while fresh rom ≡ rom = ap (λ c. cond c rom []) (list_any_at is_in_debug fresh 0 (reset_hart 0 0) (omega (arith, fresh_length n)) (in_debug fresh 0 (omega (arith, fresh_length n)))) in
    let done : partly wanted fresh n ≡ map unreserved_hart harts = same_lists _ _ (partly_length wanted fresh n ∙ fresh_length n ∙ sym (length-map harts unreserved_hart)) (λ i d within. partly_done wanted fresh n i d (omega (arith, partly_length wanted fresh n, fresh_length n)) (omega (arith, fresh_length n)) ∙ sym (get_or-map unreserved_hart harts i (reset_hart 0 0) d (omega (arith, partly_length wanted fresh n, fresh_length n)))) in
    let free : All (λ x. is_in_debug x ≡ false) harts = λ i d within. all_out harts running i d within in
    let all_free_after : All (λ x. is_in_debug x ≡ false) (map unreserved_hart harts) = λ i d within. ap is_in_debug (get_or-map unreserved_hart harts i (reset_hart 0 0) d (omega (arith, length-map harts unreserved_hart))) ∙ all_out harts running i (reset_hart 0 0) (omega (arith, length-map harts unreserved_hart)) in
    let ends : rom_while (partly wanted fresh n) rom ≡ core.rom =
    ap (λ hs. rom_while hs rom) done ∙ ap (λ c. cond c rom []) (list_any_none is_in_debug (map unreserved_hart harts) all_free_after) ∙ sym (kept.closed (list_any_none is_in_debug harts free)) in
    let last : boards n ≡ board = last_board board n n some in (
      (parts board harts board_fit kept.most).small,
      subst (λ k. boot_harts k (record { core = debug_core k core.ram rom; board = reset_board k; console = []; steps = 0 }) ≡ record { left = record { core = unreserved core; board = board; console = []; steps = total steps k }; fault = None }) fit.shape.harts
          (ap (λ r. boot_harts n (record { core = record { harts = fresh; ram = core.ram; rom = r }; board = reset_board n; console = []; steps = 0 })) (sym begins)
          ∙ frees
          ∙ ap (λ hs. record { left = record { core = record { harts = hs; ram = core.ram; rom = rom_while (partly wanted fresh n) rom }; board = boards n; console = []; steps = total steps n }; fault = None }) done
          ∙ ap (λ r. record { left = record { core = record { harts = map unreserved_hart harts; ram = core.ram; rom = r }; board = boards n; console = []; steps = total steps n }; fault = None }) ends
          ∙ ap (λ x. record { left = record { core = unreserved core; board = x; console = []; steps = total steps n }; fault = None }) last),
    )
