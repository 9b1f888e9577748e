-- Each hart in turn leaves debug mode.
use Rattle.std.specs.Prelude.{None, slice_set}
use Rattle.std.specs.List.{list_any}
use Rattle.std.proofs.Common.{◌≡◌, ℕ, zero, suc, ◌+◌, ◌<◌, ◌≤◌, Bool, true, false, cond, ◌||◌, List, [], ◌∷◌, length, refl, sym, ap, ◌∙◌, arith, ⊎_elim}
use Rattle.std.proofs.Math.ListN.{set, get_or}
use Rattle.std.proofs.lemmas.List.{get_or-set_same, get_or-set_other, length-set}
use Rattle.std.proofs.lemmas.Bool.{cases_eq}
use Rattle.board_bus.specs.Board.{BoardState}
use Rattle.hart_step.specs.declared.hart.Hart.{Hart}
use Rattle.hart_step.specs.Harts.{hart_of, is_in_debug, reset_hart}
use Rattle.hart_turns.specs.Boot.{Booted, Booting, Frees, boot_hart, boot_harts, boots_next, most_steps}
use Rattle.hart_turns.proofs.BootSteps.{frees_within}
use Rattle.rom_gen.specs.ItemEffects.{rom_while}

-- the harts after the first n of them became their targets
unfoldable pub partly : (ℕ → Hart) → List Hart → ℕ → List Hart
partly wanted fresh zero = fresh
partly wanted fresh (suc n) = slice_set (partly wanted fresh n) n (wanted n)

pub partly_length : (wanted : ℕ → Hart) (fresh : List Hart) (n : ℕ) → length (partly wanted fresh n) ≡ length fresh
unfolding partly
partly_length wanted fresh zero = refl
partly_length wanted fresh (suc n) = length-set (partly wanted fresh n) n (wanted n) ∙ partly_length wanted fresh n

pub partly_later : (wanted : ℕ → Hart) (fresh : List Hart) (n i : ℕ) (d : Hart) → n ≤ i → get_or (partly wanted fresh n) i d ≡ get_or fresh i d
unfolding partly
partly_later wanted fresh zero i d later = refl
partly_later wanted fresh (suc n) i d later = get_or-set_other (partly wanted fresh n) n i (wanted n) d (omega arith) ∙ partly_later wanted fresh n i d (omega arith)

pub partly_done : (wanted : ℕ → Hart) (fresh : List Hart) (n i : ℕ) (d : Hart) → i < n → n ≤ length fresh → get_or (partly wanted fresh n) i d ≡ wanted i
unfolding partly
partly_done wanted fresh zero i d below most = absurd (omega arith)
partly_done wanted fresh (suc n) i d below most = ⊎_elim (λ e. ap (λ z. get_or (partly wanted fresh (suc n)) z d) e ∙ get_or-set_same (partly wanted fresh n) n (wanted n) d (omega (arith, partly_length wanted fresh n)) ∙ ap wanted (sym e)) (λ a. get_or-set_other (partly wanted fresh n) n i (wanted n) d a ∙ partly_done wanted fresh n i d (omega arith) (omega arith)) (cases_eq i n)

either : (b : Bool) → (b || true) ≡ true
either true = refl
either false = refl

some_any : (hs : List Hart) (i : ℕ) (d : Hart) → i < length hs → is_in_debug (get_or hs i d) ≡ true → list_any is_in_debug hs ≡ true
some_any [] i d inside debugs = absurd (omega arith)
some_any (x ∷ hs) zero d inside debugs = ap (λ b. b || list_any is_in_debug hs) debugs
some_any (x ∷ hs) (suc i) d inside debugs = ap (λ b. is_in_debug x || b) (some_any hs i d (omega arith) debugs) ∙ either (is_in_debug x)

abbrev pub total : (ℕ → ℕ) → ℕ → ℕ
total count zero = 0
total count (suc n) = total count n + count n

-- a machine whose first n harts are done
abbrev pub at_hart : (ℕ → Hart) → List Hart → List ℕ → List ℕ → (ℕ → BoardState) → (ℕ → ℕ) → ℕ → Booting
at_hart wanted fresh ram rom boards count n = record {
  core = record { harts = partly wanted fresh n; ram = ram; rom = rom_while (partly wanted fresh n) rom };
  board = boards n;
  console = [];
  steps = total count n;
}

-- harts that are each freed within the most steps, one after another
pub all_free : (wanted : ℕ → Hart) (fresh : List Hart) (ram rom : List ℕ) (boards : ℕ → BoardState) (count : ℕ → ℕ) →
    ((h : ℕ) → h < length fresh → is_in_debug (get_or fresh h (reset_hart 0 0)) ≡ true) →
    ((h : ℕ) → h < length fresh → count h ≤ most_steps) →
    ((h : ℕ) → h < length fresh → Frees h (count h) (record { core = record { harts = partly wanted fresh h; ram = ram; rom = rom }; board = boards h; console = []; steps = total count h }) (at_hart wanted fresh ram rom boards count (suc h))) →
    (n : ℕ) → n ≤ length fresh → 0 < length fresh → boot_harts n (at_hart wanted fresh ram rom boards count 0) ≡ record { left = at_hart wanted fresh ram rom boards count n; fault = None }
unfolding boot_harts partly
all_free wanted fresh ram rom boards count debugs small each zero most some = refl
all_free wanted fresh ram rom boards count debugs small each (suc n) most some =
    let b : Booting = at_hart wanted fresh ram rom boards count n in
    let before : boot_harts n (at_hart wanted fresh ram rom boards count 0) ≡ record { left = b; fault = None } = all_free wanted fresh ram rom boards count debugs small each n (omega arith) some in
    let here : is_in_debug (hart_of b.core n) ≡ true = ap is_in_debug (partly_later wanted fresh n n (reset_hart 0 0) (omega arith)) ∙ debugs n (omega arith) in
    let inside : n < length (partly wanted fresh n) = omega (arith, partly_length wanted fresh n) in
    let full : rom_while (partly wanted fresh n) rom ≡ rom = ap (λ c. cond c rom []) (some_any (partly wanted fresh n) n (reset_hart 0 0) inside here) in
    ap (λ (x : Booted). boots_next n x.left x.fault) before
    ∙ ap (λ c. cond c (boot_hart most_steps n b) (record { left = b; fault = None })) here
    ∙ ap (λ r. boot_hart most_steps n (record { core = record { harts = partly wanted fresh n; ram = ram; rom = r }; board = boards n; console = []; steps = total count n })) full
    ∙ frees_within n (count n) most_steps _ (at_hart wanted fresh ram rom boards count (suc n)) (each n (omega arith)) (small n (omega arith))
