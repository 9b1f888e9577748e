-- A hart in debug mode that meets an exception stays in debug mode.
use Rattle.std.proofs.Common.{◌≡◌, ℕ, Bool, true, false, if◌then◌else◌}
use Rattle.std.specs.Prelude.{Option, Some, None, Result, Ok, Err, IfOk}
use Rattle.rv_decode.specs.declared.Insn.{Insn}
use Rattle.trap_rules.specs.declared.Cause.{Cause}
use Rattle.hart_step.specs.declared.hart.Hart.{Hart}
use Rattle.hart_step.specs.Answers.{Given}
use Rattle.hart_step.specs.Effects.{Outcome, effect}
use Rattle.hart_step.specs.Harts.{is_in_debug}
use Rattle.hart_step.specs.Memory.{◌>>=◌, Exception, MemoryState}
use Rattle.hart_step.specs.Step.{Fetched, HartAnswer, carried_out, commits, decoded, enters, fetched, hart_step, or_illegal, or_raises, step_after}
use Rattle.hart_step.specs.Events.{exception_of}

-- where an exception is shown, the hart stays in debug mode
abbrev Holds : HartAnswer → Type 0
Holds a = (e : ℕ × ℕ) → exception_of a.event ≡ Some e → is_in_debug a.hart ≡ true

stays_held : (b : Bool) (x y : Hart) → b ≡ true → is_in_debug x ≡ true → is_in_debug (if b then x else y) ≡ true
stays_held true x y is here = here
stays_held false x y is here = absurd (cc)

outcome_holds : (h : ℕ) (hart : Hart) (word : ℕ) (outcome : Outcome) → IfOk (outcome >>= λ e. Ok (commits h hart word e)) Holds
outcome_holds h hart word (Ok e) = λ shown is. absurd (cc)
outcome_holds h hart word (Err x) = tt

decoded_holds : (given : Given) (n h : ℕ) (hart : Hart) (memory : MemoryState) (f : Fetched) (o : Option Insn) → IfOk (or_illegal f.word o >>= λ insn. effect (record { given = given; harts = n; word = f.word; len = f.len }) insn hart memory >>= λ e. Ok (commits h hart f.word e)) Holds
decoded_holds given n h hart memory f None = tt
decoded_holds given n h hart memory f (Some insn) = outcome_holds h hart f.word (effect (record { given = given; harts = n; word = f.word; len = f.len }) insn hart memory)

fetched_holds : (given : Given) (n h : ℕ) (hart : Hart) (memory : MemoryState) (r : Result Fetched Exception) → IfOk (r >>= carried_out given n h hart memory) Holds
fetched_holds given n h hart memory (Ok f) = decoded_holds given n h hart memory f (decoded f.word f.len)
fetched_holds given n h hart memory (Err x) = tt

answer_holds : (h : ℕ) (hart : Hart) (memory : MemoryState) → is_in_debug hart ≡ true → (r : Result HartAnswer Exception) → IfOk r Holds → Holds (or_raises h hart memory r)
answer_holds h hart memory debugs (Ok a) holds = holds
answer_holds h hart memory debugs (Err x) holds = λ shown is. stays_held (is_in_debug hart) hart (enters (Cause.Exception x.cause) x.tval hart) debugs debugs

interrupt_holds : (given : Given) (n h : ℕ) (hart : Hart) (memory : MemoryState) (i : Option ℕ) → is_in_debug hart ≡ true → Holds (step_after i given n h hart memory)
interrupt_holds given n h hart memory (Some cause) debugs = λ shown is. absurd (cc)
interrupt_holds given n h hart memory None debugs =
    answer_holds h hart memory debugs (fetched hart memory >>= carried_out given n h hart memory) (fetched_holds given n h hart memory (fetched hart memory))

pub hart_step_holds : (given : Given) (n h : ℕ) (hart : Hart) (memory : MemoryState) → is_in_debug hart ≡ true → (e : ℕ × ℕ) → exception_of (hart_step given n h hart memory).event ≡ Some e → is_in_debug (hart_step given n h hart memory).hart ≡ true
unfolding hart_step
hart_step_holds given n h hart memory debugs = interrupt_holds given n h hart memory given.interrupt debugs
