-- From the step of one hart to the step of its core.
use Rattle.std.proofs.Common.{◌≡◌, ℕ, ◌<◌, List, length, map, set, get_or, Option, Some, None, sym, ◌∙◌, ap, subst, refl}
use Rattle.std.proofs.lemmas.List.{get_or-set_same, map-set, set-set, get_or_default}
use Rattle.std.specs.Prelude.{Result, Ok, Err}
use Rattle.rv_decode.specs.declared.Insn.{Insn}
use Rattle.hart_step.specs.declared.hart.Hart.{Hart}
use Rattle.hart_step.specs.declared.event.Event.{Event}
use Rattle.hart_step.specs.declared.event.Event.TheVariants.{Exception as Raised}
use Rattle.hart_step.specs.declared.event.Priv.{Priv}
use Rattle.hart_step.specs.declared.event.Put.{Put}
use Rattle.hart_step.specs.Answers.{Access, Given, Says, after_access, given_by}
use Rattle.hart_step.specs.Harts.{CoreState, hart_of, privilege_of, reset_hart}
use Rattle.hart_step.specs.Done.{Done}
use Rattle.hart_step.specs.Events.{IsEvent}
use Rattle.hart_step.specs.Effects.{Leaves, Outcome, effect}
use Rattle.hart_step.specs.Memory.{◌>>=◌, Exception, MemoryState}
use Rattle.hart_step.specs.Step.{Answer, Fetched, HartAnswer, StepLeaves, after_store, carried_out, commits, core_after, decoded, hart_step, instruction_step, memory_of, or_illegal, or_raises, rom_after, step, step_after, traps, without_reservation}

abbrev exception_or : Exception → Result Done Exception → Exception
exception_or other (Ok done) = other
exception_or other (Err x) = x

-- where no interrupt is given, the step is that of the instruction
pub no_interrupt : {A : Type 0} (says : A → ℕ → Says) (after_by : A → ℕ → List ℕ → Access → A) (old mid new : A) (h n : ℕ) (hart after : Hart) (memory left : MemoryState) (shows : Event → Type 0) (put : Option Put) → mid ≡ old → (says old h).interrupt hart.csrs hart.mode ≡ None → StepLeaves after_by mid new h after left shows put (instruction_step (given_by (says mid h) hart) n h hart memory) → StepLeaves after_by old new h after left shows put (hart_step (given_by (says old h) hart) n h hart memory)
unfolding hart_step
no_interrupt {A} says after_by old mid new h n hart after memory left shows put same none leaves =
    let here = subst (λ (a : A). StepLeaves after_by a new h after left shows put (instruction_step (given_by (says a h) hart) n h hart memory)) same leaves in
    subst (λ (i : Option ℕ). StepLeaves after_by old new h after left shows put (step_after i (given_by (says old h) hart) n h hart memory)) (sym none) here

-- where an instruction raised an exception, the step is that of the exception
pub raised_leaves : {A : Type 0} (after_by : A → ℕ → List ℕ → Access → A) (old new : A) (h : ℕ) (before hart after : Hart) (kept memory : MemoryState) (shows : Event → Type 0) (mode : Priv) (word : ℕ) (x : Exception) (outcome : Outcome) → mode ≡ privilege_of before → Leaves after_by old new h before hart kept memory (Err x) outcome → after ≡ traps x hart → shows (Raised h mode before.pc x.cause x.tval) → IsEvent (Raised h mode before.pc x.cause x.tval) → StepLeaves after_by old new h after memory shows None (or_raises h before kept (outcome >>= λ e. Ok (commits h before word e)))
raised_leaves after_by old new h before hart after kept memory shows mode word x (Ok e) mode_is leaves after_is shown formed = absurd (let is = leaves.done_is in cc)
raised_leaves after_by old new h before hart after kept memory shows mode word x (Err y) mode_is leaves after_is shown formed =
    let same : x ≡ y = ap (exception_or x) leaves.done_is in
    let event_is : Raised h mode before.pc x.cause x.tval ≡ Raised h (privilege_of before) before.pc y.cause y.tval =
    ap (λ (m : Priv). Raised h m before.pc x.cause x.tval) mode_is ∙ ap (λ (z : Exception). Raised h (privilege_of before) before.pc z.cause z.tval) same in
    record {
      hart_is = after_is ∙ ap (traps x) leaves.hart_is ∙ ap (λ (z : Exception). traps z before) same;
      memory_is = leaves.memory_is;
      shown = subst shows event_is shown;
      formed = subst IsEvent event_is formed;
      stored_is = refl;
      outside = leaves.outside;
    }

-- the step of a word that was decoded is that of what its instruction comes to
pub decoded_leaves : {A : Type 0} (after_by : A → ℕ → List ℕ → Access → A) (old new : A) (given : Given) (n h : ℕ) (before after : Hart) (kept memory : MemoryState) (shows : Event → Type 0) (put : Option Put) (f : Fetched) (word len : ℕ) (insn : Insn) → word ≡ f.word → len ≡ f.len → decoded word len ≡ Some insn → StepLeaves after_by old new h after memory shows put (or_raises h before kept (effect (record { given = given; harts = n; word = word; len = len }) insn before kept >>= λ e. Ok (commits h before word e))) → StepLeaves after_by old new h after memory shows put (or_raises h before kept (carried_out given n h before kept f))
decoded_leaves after_by old new given n h before after kept memory shows put f word len insn word_is len_is row leaves =
    let there = subst (λ (o : Option Insn). StepLeaves after_by old new h after memory shows put (or_raises h before kept (or_illegal word o >>= λ i. effect (record { given = given; harts = n; word = word; len = len }) i before kept >>= λ e. Ok (commits h before word e)))) (sym row) leaves in
    let at_word = subst (λ (w : ℕ). StepLeaves after_by old new h after memory shows put (or_raises h before kept (carried_out given n h before kept (record { word = w; len = len })))) word_is there in
    subst (λ (l : ℕ). StepLeaves after_by old new h after memory shows put (or_raises h before kept (carried_out given n h before kept (record { word = f.word; len = l })))) len_is at_word

-- the hart that the code reads is that of the core, whatever its default
pub hart_is : (core : CoreState) (h : ℕ) (hart : Hart) → h < length core.harts → hart ≡ get_or core.harts h hart → hart ≡ hart_of core h
hart_is core h hart within is = is ∙ get_or_default core.harts h hart (reset_hart 0 0) within

-- the harts after one was put back and the others lost what was stored to
pub lost_is : (put : Option Put) (harts : List Hart) (h : ℕ) (y d : Hart) → h < length harts → set (after_store put (set harts h y)) h (get_or (set harts h y) h d) ≡ set (after_store put harts) h y
lost_is None harts h y d within =
    ap (λ (z : Hart). set (set harts h y) h z) (get_or-set_same harts h y d within) ∙ set-set harts h y y
lost_is (Some put) harts h y d within =
    let f : Hart → Hart = without_reservation put.at put.size in
    ap (λ (zs : List Hart). set zs h (get_or (set harts h y) h d)) (map-set f harts h y)
    ∙ set-set (map f harts) h (f y) (get_or (set harts h y) h d)
    ∙ ap (λ (z : Hart). set (map f harts) h z) (get_or-set_same harts h y d within)

-- what a step of a core shows and leaves
pub record IsStep {A : Type 0} (after_by : A → ℕ → List ℕ → Access → A) (old new : A) (h : ℕ) (shows : Event → Type 0) (harts : List Hart) (memory : MemoryState) (answer : Answer) : Type 0 where
  pub shown : shows answer.event
  pub formed : IsEvent answer.event
  pub core_is : record { harts = harts; ram = memory.ram; rom = memory.rom } ≡ answer.core
  pub outside : new ≡ after_access after_by old h memory.ram answer.access

from_hart : {A : Type 0} (after_by : A → ℕ → List ℕ → Access → A) (old new : A) (core : CoreState) (h : ℕ) (before after : Hart) (memory left : MemoryState) (shows : Event → Type 0) (put : Option Put) (harts : List Hart) (a : HartAnswer) → StepLeaves after_by old new h after memory shows put a → harts ≡ set (after_store put core.harts) h after → left ≡ record memory { rom = rom_after before after harts memory.rom } → IsStep after_by old new h shows harts left (core_after core h before a)
from_hart after_by old new core h before after memory left shows put harts a s harts_are left_is = record {
  shown = s.shown;
  formed = s.formed;
  core_is = rw (left_is, harts_are, s.hart_is, s.memory_is, s.stored_is) refl;
  outside = rw (left_is, s.memory_is) s.outside;
}

pub step_is : {A : Type 0} (after_by : A → ℕ → List ℕ → Access → A) (old new : A) (given : Hart → Given) (core : CoreState) (h : ℕ) (before after : Hart) (memory left : MemoryState) (shows : Event → Type 0) (put : Option Put) (harts : List Hart) → before ≡ hart_of core h → StepLeaves after_by old new h after memory shows put (hart_step (given before) (length core.harts) h before (memory_of core)) → harts ≡ set (after_store put core.harts) h after → left ≡ record memory { rom = rom_after before after harts memory.rom } → IsStep after_by old new h shows harts left (step (given (hart_of core h)) core h)
unfolding step
step_is after_by old new given core h before after memory left shows put harts is s harts_are left_is =
    subst (λ (x : Hart). IsStep after_by old new h shows harts left (core_after core h x (hart_step (given x) (length core.harts) h x (memory_of core)))) is
    (from_hart after_by old new core h before after memory left shows put harts (hart_step (given before) (length core.harts) h before (memory_of core)) s harts_are left_is)
