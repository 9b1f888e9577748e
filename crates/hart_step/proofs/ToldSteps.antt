-- A step does the same again where it is told what it showed, also with one reservation more.
use Rattle.std.proofs.Common.{◌≡◌, ℕ, ◌&&◌, not, Bool, true, false, if◌then◌else◌, List, [], length, Option, Some, None, refl, sym, ap, subst, ◌∙◌}
use Rattle.std.specs.Prelude.{Result, Ok, Err}
use Rattle.rv_decode.specs.declared.Insn.{Insn}
use Rattle.hart_step.specs.declared.hart.Hart.{Hart}
use Rattle.hart_step.specs.Allowed.{IsAllowed}
use Rattle.hart_step.specs.Answers.{Given}
use Rattle.hart_step.specs.Effects.{Effect, Outcome, Situation, effect}
use Rattle.hart_step.specs.Harts.{CoreState, hart_of, is_in_debug, reset_hart}
use Rattle.hart_step.specs.Memory.{◌>>=◌, Exception, MemoryState}
use Rattle.hart_step.specs.Step.{Fetched, HartAnswer, after_store, carried_out, commits, core_after, decoded, fetched, hart_step, harts_after, memory_of, or_illegal, or_raises, raises, retired, step, step_after}
use Rattle.hart_step.specs.Told.{CoverHarts, Covers, CoversCore, CoversHart, Follows, OutcomeFollows, StepFollows, StepsFollow, reserved, told_by, told_of, with_reservation}
use Rattle.hart_step.proofs.ToldEffects.{effect_follows}
use Rattle.hart_step.proofs.ToldHarts.{any_covers, at_covers, count_covers, set_covers, store_covers}

-- ---- one hart

record Alike (mine theirs : HartAnswer) : Type 0 where
  reservation : Option ℕ
  is : mine ≡ record theirs { hart = reserved reservation theirs.hart }
  covers : Covers reservation theirs.hart.reservation

retired_reserved : (b : Bool) (wrote : Option ℕ) (r : Option ℕ) (hart : Hart) → retired b wrote (reserved r hart) ≡ reserved r (retired b wrote hart)
retired_reserved true wrote r hart = refl
retired_reserved false wrote r hart = refl

retired_keeps : (b : Bool) (wrote : Option ℕ) (hart : Hart) → (retired b wrote hart).reservation ≡ hart.reservation
retired_keeps true wrote hart = refl
retired_keeps false wrote hart = refl

choose_reserved : (b : Bool) (r : Option ℕ) (x y : Hart) → (if b then reserved r x else reserved r y) ≡ reserved r (if b then x else y)
choose_reserved true r x y = refl
choose_reserved false r x y = refl

choose_keeps : (b : Bool) (x y : Hart) → x.reservation ≡ y.reservation → (if b then x else y).reservation ≡ x.reservation
choose_keeps true x y same = refl
choose_keeps false x y same = sym same

raises_alike : (h : ℕ) (before : Hart) (memory : MemoryState) (r : Option ℕ) → Covers r before.reservation → (x : Exception) → Alike (raises h (reserved r before) memory x) (raises h before memory x)
raises_alike h before memory r covers x = record {
  reservation = r;
  is = ap (λ (y : Hart). record (raises h before memory x) { hart = y }) (choose_reserved (is_in_debug before) r before _);
  covers = subst (λ (o : Option ℕ). Covers r o) (sym (choose_keeps (is_in_debug before) before _ refl)) covers;
}

commits_alike : (h : ℕ) (before : Hart) (own : Option ℕ) (word : ℕ) (r : Option ℕ) (e : Effect) → Covers r e.hart.reservation → Alike (commits h (reserved own before) word (with_reservation r e)) (commits h before word e)
commits_alike h before own word r e covers = record {
  reservation = r;
  is = ap (λ (x : Hart). record (commits h before word e) { hart = x }) (retired_reserved (is_in_debug before) e.done.wrote r e.hart);
  covers = subst (λ (o : Option ℕ). Covers r o) (sym (retired_keeps (is_in_debug before) e.done.wrote e.hart)) covers;
}

follows_alike : (h : ℕ) (before : Hart) (own : Option ℕ) (word : ℕ) (mine theirs : Effect) → Follows mine theirs → Alike (commits h (reserved own before) word mine) (commits h before word theirs)
follows_alike h before own word mine theirs f =
    subst (λ (e : Effect). Alike (commits h (reserved own before) word e) (commits h before word theirs)) (sym f.is)
    (commits_alike h before own word f.reservation theirs f.covers)

-- the step of an instruction that comes to this
abbrev ended : ℕ → Hart → MemoryState → ℕ → Outcome → HartAnswer
ended h hart memory word outcome = or_raises h hart memory (outcome >>= λ e. Ok (commits h hart word e))

ended_alike : (h : ℕ) (before : Hart) (memory : MemoryState) (word : ℕ) (r : Option ℕ) → Covers r before.reservation → (mine theirs : Outcome) → OutcomeFollows mine theirs → Alike (ended h (reserved r before) memory word mine) (ended h before memory word theirs)
ended_alike h before memory word r covers (Ok mine) (Ok theirs) f = follows_alike h before r word mine theirs f
ended_alike h before memory word r covers (Err mine) (Err theirs) f =
    subst (λ (x : Exception). Alike (raises h (reserved r before) memory x) (raises h before memory theirs)) (sym f) (raises_alike h before memory r covers theirs)
ended_alike h before memory word r covers (Ok mine) (Err theirs) f = absurd f
ended_alike h before memory word r covers (Err mine) (Ok theirs) f = absurd f

-- what an event tells is what its instruction came to
told_is : (h : ℕ) (before : Hart) (memory : MemoryState) (word : ℕ) (outcome : Outcome) → told_by (ended h before memory word outcome).event ≡ told_of outcome
told_is h before memory word (Ok e) = refl
told_is h before memory word (Err x) = refl

no_interrupt_told : (outcome : Outcome) → (told_of outcome).interrupt ≡ None
no_interrupt_told (Ok e) = refl
no_interrupt_told (Err x) = refl

-- a step that is told of no interrupt
record Told (mine : Given → HartAnswer) (theirs : HartAnswer) : Type 0 where
  none : (told_by theirs.event).interrupt ≡ None
  alike : Alike (mine (told_by theirs.event)) theirs

raises_told : (h : ℕ) (hart : Hart) (memory : MemoryState) (r : Option ℕ) → Covers r hart.reservation → (x : Exception) → Told (λ g. raises h (reserved r hart) memory x) (raises h hart memory x)
raises_told h hart memory r covers x = record { none = refl; alike = raises_alike h hart memory r covers x }

decoded_told : (here : Situation) (h : ℕ) (hart : Hart) (memory : MemoryState) (r : Option ℕ) → Covers r hart.reservation → IsAllowed hart here.given → (o : Option Insn) → Told (λ g. or_raises h (reserved r hart) memory (or_illegal here.word o >>= λ insn. effect (record here { given = g }) insn (reserved r hart) memory >>= λ e. Ok (commits h (reserved r hart) here.word e))) (or_raises h hart memory (or_illegal here.word o >>= λ insn. effect here insn hart memory >>= λ e. Ok (commits h hart here.word e)))
decoded_told here h hart memory r covers allowed None = raises_told h hart memory r covers _
decoded_told here h hart memory r covers allowed (Some insn) =
    let outcome : Outcome = effect here insn hart memory in
    let is : told_by (ended h hart memory here.word outcome).event ≡ told_of outcome = told_is h hart memory here.word outcome in
    record {
      none = ap (λ (g : Given). g.interrupt) is ∙ no_interrupt_told outcome;
      alike = subst (λ (g : Given). Alike (ended h (reserved r hart) memory here.word (effect (record here { given = g }) insn (reserved r hart) memory)) (ended h hart memory here.word outcome)) (sym is)
          (ended_alike h hart memory here.word r covers (effect (record here { given = told_of outcome }) insn (reserved r hart) memory) outcome (effect_follows here insn hart memory r covers allowed));
    }

fetched_told : (given : Given) (n h : ℕ) (hart : Hart) (memory : MemoryState) (r : Option ℕ) → Covers r hart.reservation → IsAllowed hart given → (f : Result Fetched Exception) → Told (λ g. or_raises h (reserved r hart) memory (f >>= carried_out g n h (reserved r hart) memory)) (or_raises h hart memory (f >>= carried_out given n h hart memory))
fetched_told given n h hart memory r covers allowed (Err x) = raises_told h hart memory r covers x
fetched_told given n h hart memory r covers allowed (Ok f) = decoded_told (record { given = given; harts = n; word = f.word; len = f.len }) h hart memory r covers allowed (decoded f.word f.len)

interrupt_alike : (given : Given) (n h : ℕ) (hart : Hart) (memory : MemoryState) (r : Option ℕ) → Covers r hart.reservation → IsAllowed hart given → (i : Option ℕ) → Alike (step_after (told_by (step_after i given n h hart memory).event).interrupt (told_by (step_after i given n h hart memory).event) n h (reserved r hart) memory) (step_after i given n h hart memory)
interrupt_alike given n h hart memory r covers allowed (Some cause) = record { reservation = r; is = refl; covers = covers }
interrupt_alike given n h hart memory r covers allowed None =
    let told = fetched_told given n h hart memory r covers allowed (fetched hart memory) in
    let a : HartAnswer = step_after None given n h hart memory in
    subst (λ (i : Option ℕ). Alike (step_after i (told_by a.event) n h (reserved r hart) memory) a) (sym told.none) told.alike

hart_alike : (given : Given) (n h : ℕ) (hart : Hart) (memory : MemoryState) (r : Option ℕ) → Covers r hart.reservation → IsAllowed hart given → Alike (hart_step (told_by (hart_step given n h hart memory).event) n h (reserved r hart) memory) (hart_step given n h hart memory)
unfolding hart_step
hart_alike given n h hart memory r covers allowed = interrupt_alike given n h hart memory r covers allowed given.interrupt

-- ---- a core

core_alike : (core other : CoreState) (h : ℕ) (r : Option ℕ) (a b : HartAnswer) → CoversCore other core → Alike b a → StepFollows (core_after other h (reserved r (hart_of core h)) b) (core_after core h (hart_of core h) a)
core_alike core other h r a b covers alike =
    let after : HartAnswer = record a { hart = reserved alike.reservation a.hart } in
    let harts : CoverHarts (harts_after other h after) (harts_after core h a) =
    set_covers (after_store a.stored other.harts) (after_store a.stored core.harts) h (reserved alike.reservation a.hart) a.hart
    (store_covers a.stored other.harts core.harts covers.harts) (record { is = refl; covers = alike.covers }) in
    subst (λ (c : HartAnswer). StepFollows (core_after other h (reserved r (hart_of core h)) c) (core_after core h (hart_of core h) a)) (sym alike.is)
    (record {
      event = refl;
      core = record {
        harts = harts;
        ram = refl;
        rom = ap (λ (b : Bool). if (is_in_debug (hart_of core h) && not (is_in_debug a.hart)) && not b then [] else a.memory.rom) (any_covers (harts_after other h after) (harts_after core h a) harts);
      };
    })

pub steps_follow_lem : StepsFollow
unfolding step
steps_follow_lem given core other h within covers allowed =
    let hart : Hart = hart_of core h in
    let mine : CoversHart (hart_of other h) hart = at_covers other.harts core.harts h (reset_hart 0 0) covers.harts in
    let r : Option ℕ = (hart_of other h).reservation in
    let a : HartAnswer = hart_step given (length core.harts) h hart (memory_of core) in
    let alike = hart_alike given (length core.harts) h hart (memory_of core) r mine.covers allowed in
    let same = core_alike core other h r a (hart_step (told_by a.event) (length core.harts) h (reserved r hart) (memory_of core)) covers alike in
    let at_count = subst (λ (n : ℕ). StepFollows (core_after other h (reserved r hart) (hart_step (told_by a.event) n h (reserved r hart) (memory_of core))) (core_after core h hart a)) (sym (count_covers other.harts core.harts covers.harts)) same in
    let at_ram = subst (λ (ram : List ℕ). StepFollows (core_after other h (reserved r hart) (hart_step (told_by a.event) (length other.harts) h (reserved r hart) (record { ram = ram; rom = core.rom }))) (core_after core h hart a)) (sym covers.ram) at_count in
    let at_rom = subst (λ (rom : List ℕ). StepFollows (core_after other h (reserved r hart) (hart_step (told_by a.event) (length other.harts) h (reserved r hart) (record { ram = other.ram; rom = rom }))) (core_after core h hart a)) (sym covers.rom) at_ram in
    subst (λ (x : Hart). StepFollows (core_after other h x (hart_step (told_by a.event) (length other.harts) h x (memory_of other))) (core_after core h hart a)) (sym mine.is) at_rom
