-- Which events a step of a hart shows: a commit or an exception of that hart, or the interrupt that it was given; and
-- that an event shows what its step stored.
use Rattle.std.proofs.Common.{◌≡◌, ℕ, length, Option, Some, None, refl}
use Rattle.std.specs.Prelude.{Result, Ok, Err, IfOk}
use Rattle.rv_decode.specs.declared.Insn.{Insn}
use Rattle.hart_step.specs.declared.event.Event.{Event}
use Rattle.hart_step.specs.declared.event.Event.TheVariants.{Commit, Exception as Raised, Interrupt}
use Rattle.hart_step.specs.declared.event.Priv.{Priv}
use Rattle.hart_step.specs.declared.event.Put.{Put}
use Rattle.hart_step.specs.declared.hart.Hart.{Hart}
use Rattle.hart_step.specs.Answers.{Given}
use Rattle.hart_step.specs.Events.{shown_store}
use Rattle.hart_step.specs.Laws.{EventsShowStores}
use Rattle.hart_step.specs.Effects.{Outcome, effect}
use Rattle.hart_step.specs.Harts.{CoreState, hart_of}
use Rattle.hart_step.specs.Memory.{◌>>=◌, Exception, MemoryState}
use Rattle.hart_step.specs.Step.{Fetched, HartAnswer, carried_out, commits, decoded, fetched, hart_step, memory_of, or_illegal, or_raises, step, step_after}
use Rattle.hart_step.proofs.Lists.{after_length}

pub data KindOf (h : ℕ) (given : Given) (e : Event) : Type 0 where
  IsCommit : (mode : Priv) (pc insn : ℕ) (rd : Option (ℕ × ℕ)) (st : Option Put) (dv vl : Option ℕ) → e ≡ Commit h mode pc insn rd st dv vl → KindOf h given e
  IsRaised : (mode : Priv) (pc cause tval : ℕ) → e ≡ Raised h mode pc cause tval → KindOf h given e
  IsTaken : (cause : ℕ) → e ≡ Interrupt h cause → given.interrupt ≡ Some cause → KindOf h given e

-- what is said of the answer of a step
record IsAnswer (h : ℕ) (given : Given) (a : HartAnswer) : Type 0 where
  kind : KindOf h given a.event
  stored : shown_store a.event ≡ a.stored

outcome_answers : (h : ℕ) (given : Given) (hart : Hart) (word : ℕ) (outcome : Outcome) → IfOk (outcome >>= λ e. Ok (commits h hart word e)) (IsAnswer h given)
outcome_answers h given hart word (Ok e) = record { kind = IsCommit _ _ _ _ _ _ _ refl; stored = refl }
outcome_answers h given hart word (Err x) = tt

decoded_answers : (given : Given) (n h : ℕ) (hart : Hart) (memory : MemoryState) (f : Fetched) (o : Option Insn) → IfOk (or_illegal f.word o >>= λ insn. effect (record { given = given; harts = n; word = f.word; len = f.len }) insn hart memory >>= λ e. Ok (commits h hart f.word e)) (IsAnswer h given)
decoded_answers given n h hart memory f None = tt
decoded_answers given n h hart memory f (Some insn) = outcome_answers h given hart f.word (effect (record { given = given; harts = n; word = f.word; len = f.len }) insn hart memory)

fetched_answers : (given : Given) (n h : ℕ) (hart : Hart) (memory : MemoryState) (r : Result Fetched Exception) → IfOk (r >>= carried_out given n h hart memory) (IsAnswer h given)
fetched_answers given n h hart memory (Ok f) = decoded_answers given n h hart memory f (decoded f.word f.len)
fetched_answers given n h hart memory (Err x) = tt

-- so with the exception
either_answers : (h : ℕ) (given : Given) (hart : Hart) (memory : MemoryState) (r : Result HartAnswer Exception) → IfOk r (IsAnswer h given) → IsAnswer h given (or_raises h hart memory r)
either_answers h given hart memory (Ok a) is = is
either_answers h given hart memory (Err x) is = record { kind = IsRaised _ _ _ _ refl; stored = refl }

taken_answers : (given : Given) (n h : ℕ) (hart : Hart) (memory : MemoryState) (i : Option ℕ) → given.interrupt ≡ i → IsAnswer h given (step_after i given n h hart memory)
taken_answers given n h hart memory (Some cause) is = record { kind = IsTaken cause refl is; stored = refl }
taken_answers given n h hart memory None is =
    either_answers h given hart memory (fetched hart memory >>= carried_out given n h hart memory) (fetched_answers given n h hart memory (fetched hart memory))

step_answers : (given : Given) (n h : ℕ) (hart : Hart) (memory : MemoryState) → IsAnswer h given (hart_step given n h hart memory)
unfolding hart_step
step_answers given n h hart memory = taken_answers given n h hart memory given.interrupt refl

pub events_show_stores_lem : EventsShowStores
events_show_stores_lem given n h hart memory = let is = step_answers given n h hart memory in is.stored

pub event_kind : (given : Given) (core : CoreState) (h : ℕ) → KindOf h given (step given core h).event
unfolding step
event_kind given core h = let is = step_answers given (length core.harts) h (hart_of core h) (memory_of core) in is.kind

pub step_count : (given : Given) (core : CoreState) (h : ℕ) → length (step given core h).core.harts ≡ length core.harts
unfolding step
step_count given core h =
    let a : HartAnswer = hart_step given (length core.harts) h (hart_of core h) (memory_of core) in
    after_length a.stored core.harts h a.hart
