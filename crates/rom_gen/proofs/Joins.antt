-- Boot steps, one after another.
use Rattle.std.specs.Prelude.{Option, Some, None, slice_set}
use Rattle.std.specs.List.{list_any}
use Rattle.std.proofs.Common.{◌≡◌, ℕ, suc, ◌+◌, ◌<◌, Bool, true, false, not, ◌&&◌, cond, List, [], ◌++◌, length, ap, ◌∙◌, arith, refl}
use Rattle.std.proofs.Math.ListN.{set}
use Rattle.std.proofs.lemmas.List.{get_or-set_same, length-map}
use Rattle.hart_step.specs.declared.event.Put.{Put}
use Rattle.hart_step.specs.declared.hart.Hart.{Hart}
use Rattle.hart_step.specs.Answers.{Access}
use Rattle.hart_step.specs.Harts.{hart_of, is_in_debug, reset_hart}
use Rattle.hart_step.specs.Memory.{MemoryState}
use Rattle.hart_step.specs.Step.{Answer, HartAnswer, after_store, core_after, hart_step, harts_after, memory_of, rom_after, step, without_reservation}
use Rattle.hart_step.specs.Events.{exception_of}
use Rattle.hart_turns.specs.Gives.{board_after, board_gives, sent_by, board_step}
use Rattle.hart_turns.specs.Boot.{Booting, Booted, Leads, Frees, after_boot_step, boot_hart, onward}

onward_stays : (h : ℕ) (e : Option (ℕ × ℕ)) (b : Booting) (go : Booting → Booted) → e ≡ None → is_in_debug (hart_of b.core h) ≡ true → onward h e b go ≡ go b
onward_stays h e b go none debugs = ap (λ x. onward h x b go) none ∙ ap (λ c. cond c (go b) (record { left = b; fault = None })) debugs

onward_frees : (h : ℕ) (e : Option (ℕ × ℕ)) (b : Booting) (go : Booting → Booted) → e ≡ None → is_in_debug (hart_of b.core h) ≡ false → onward h e b go ≡ record { left = b; fault = None }
onward_frees h e b go none out = ap (λ x. onward h x b go) none ∙ ap (λ c. cond c (go b) (record { left = b; fault = None })) out

-- what a step of hart h leaves of a machine on its way
abbrev pub acted : ℕ → Option Put → Hart → List ℕ → Access → Booting → Booting
acted h st hart rom access b = record {
  core = record { harts = slice_set (after_store st b.core.harts) h hart; ram = b.core.ram; rom = rom };
  board = board_after b.board access;
  console = b.console ++ sent_by b.core.ram b.board access;
  steps = b.steps + 1;
}

-- what a step of a hart on ROM code does: it commits, it leaves memory as it is, and this hart and access
pub record Does (memory : MemoryState) (a : HartAnswer) (st : Option Put) (hart : Hart) (access : Access) : Type 0 where
  pub commits : exception_of a.event ≡ None
  pub stores : a.stored ≡ st
  pub hart_is : a.hart ≡ hart
  pub memory_is : a.memory ≡ memory
  pub access_is : a.access ≡ access

-- the same as an equation of the core's answer, for the step's definition
answered : (b : Booting) (h : ℕ) (a : HartAnswer) → hart_step (board_gives b.board h (hart_of b.core h)) (length b.core.harts) h (hart_of b.core h) (memory_of b.core) ≡ a → board_step b.core b.board h ≡ core_after b.core h (hart_of b.core h) a
unfolding step
answered b h a is = ap (core_after b.core h (hart_of b.core h)) is

pub length-after : (put : Option Put) (xs : List Hart) → length (after_store put xs) ≡ length xs
length-after None xs = refl
length-after (Some put) xs = length-map xs (without_reservation put.at put.size)

rom_stays : (was is any : Bool) (rom : List ℕ) → is ≡ true → cond ((was && not is) && not any) [] rom ≡ rom
rom_stays true true any rom e = refl
rom_stays false true any rom e = refl
rom_stays was false any rom e = absurd (cc)

acted_is : (b : Booting) (h : ℕ) (put st : Option Put) (x hart : Hart) (ram rom rom' : List ℕ) (y access : Access) → put ≡ st → x ≡ hart → ram ≡ b.core.ram → rom ≡ rom' →
    y ≡ access →
    record { core = record { harts = slice_set (after_store put b.core.harts) h x; ram = ram; rom = rom }; board = board_after b.board y; console = b.console ++ sent_by ram b.board y; steps = b.steps + 1 } ≡ acted h st hart rom' access b
acted_is b h put st x hart ram rom rom' y access e1 e2 e3 e4 e5 = rw (e1, e2, e3, e4, e5) refl

-- a step of a hart that stays in debug mode
pub leads_step : (b : Booting) (h : ℕ) (a : HartAnswer) (st : Option Put) (hart : Hart) (access : Access) → h < length b.core.harts →
    hart_step (board_gives b.board h (hart_of b.core h)) (length b.core.harts) h (hart_of b.core h) (memory_of b.core) ≡ a → Does (memory_of b.core) a st hart access →
    is_in_debug hart ≡ true → Leads h 1 b (acted h st hart b.core.rom access b)
unfolding boot_hart
leads_step b h a st hart access within is does debugs left =
    let one : 1 + left ≡ suc left = omega arith in
    let harts : List Hart = after_store a.stored b.core.harts in
    let inside : h < length harts = omega (arith, length-after a.stored b.core.harts) in
    let at : hart_of (core_after b.core h (hart_of b.core h) a).core h ≡ hart = get_or-set_same harts h a.hart (reset_hart 0 0) inside ∙ does.hart_is in
    let stays : is_in_debug (hart_of (core_after b.core h (hart_of b.core h) a).core h) ≡ true = ap is_in_debug at ∙ debugs in
    let still : is_in_debug a.hart ≡ true = ap is_in_debug does.hart_is ∙ debugs in
    let same : after_boot_step b (core_after b.core h (hart_of b.core h) a) ≡ acted h st hart b.core.rom access b = acted_is b h a.stored st a.hart hart a.memory.ram (rom_after (hart_of b.core h) a.hart (harts_after b.core h a) a.memory.rom) b.core.rom a.access access does.stores does.hart_is (ap (λ (x : MemoryState). x.ram) does.memory_is) (rom_stays (is_in_debug (hart_of b.core h)) (is_in_debug a.hart) (list_any is_in_debug (harts_after b.core h a)) a.memory.rom still ∙ ap (λ (x : MemoryState). x.rom) does.memory_is) does.access_is in
    ap (λ n. boot_hart n h b) one
    ∙ ap (λ (x : Answer). onward h (exception_of x.event) (after_boot_step b x) (boot_hart left h)) (answered b h a is)
    ∙ onward_stays h (exception_of a.event) (after_boot_step b (core_after b.core h (hart_of b.core h) a)) (boot_hart left h) does.commits stays
    ∙ ap (boot_hart left h) same

-- the step of a hart that leaves debug mode
pub frees_step : (b : Booting) (h : ℕ) (a : HartAnswer) (hart : Hart) (access : Access) → h < length b.core.harts →
    hart_step (board_gives b.board h (hart_of b.core h)) (length b.core.harts) h (hart_of b.core h) (memory_of b.core) ≡ a → Does (memory_of b.core) a None hart access →
    is_in_debug hart ≡ false → Frees h 1 b (acted h None hart (rom_after (hart_of b.core h) hart (slice_set b.core.harts h hart) b.core.rom) access b)
unfolding boot_hart
frees_step b h a hart access within is does out left =
    let one : 1 + left ≡ suc left = omega arith in
    let harts : List Hart = after_store a.stored b.core.harts in
    let inside : h < length harts = omega (arith, length-after a.stored b.core.harts) in
    let at : hart_of (core_after b.core h (hart_of b.core h) a).core h ≡ hart = get_or-set_same harts h a.hart (reset_hart 0 0) inside ∙ does.hart_is in
    let rom : rom_after (hart_of b.core h) a.hart (harts_after b.core h a) a.memory.rom ≡ rom_after (hart_of b.core h) hart (slice_set b.core.harts h hart) b.core.rom =
    ap (λ (x : Hart). rom_after (hart_of b.core h) x (slice_set harts h x) a.memory.rom) does.hart_is
    ∙ ap (λ (put : Option Put). rom_after (hart_of b.core h) hart (slice_set (after_store put b.core.harts) h hart) a.memory.rom) does.stores
    ∙ ap (λ (x : MemoryState). rom_after (hart_of b.core h) hart (slice_set b.core.harts h hart) x.rom) does.memory_is in
    let same : after_boot_step b (core_after b.core h (hart_of b.core h) a) ≡ acted h None hart (rom_after (hart_of b.core h) hart (slice_set b.core.harts h hart) b.core.rom) access b = acted_is b h a.stored None a.hart hart a.memory.ram (rom_after (hart_of b.core h) a.hart (harts_after b.core h a) a.memory.rom) (rom_after (hart_of b.core h) hart (slice_set b.core.harts h hart) b.core.rom) a.access access does.stores does.hart_is (ap (λ (x : MemoryState). x.ram) does.memory_is) rom does.access_is in
    ap (λ n. boot_hart n h b) one
    ∙ ap (λ (x : Answer). onward h (exception_of x.event) (after_boot_step b x) (boot_hart left h)) (answered b h a is)
    ∙ onward_frees h (exception_of a.event) (after_boot_step b (core_after b.core h (hart_of b.core h) a)) (boot_hart left h) does.commits (ap is_in_debug at ∙ out)
    ∙ ap (λ x. record { left = x; fault = None }) same
