-- A step that is told what another step showed: what the record of a step tells whoever makes the step again, and the
-- laws that it then does the same. A hart that makes it again may have a reservation where the other had none, as the
-- judged core has after a checkpoint which dropped them.
use Rattle.std.specs.Prelude.{◌≡◌, ℕ, ◌<◌, Bool, false, List, [], ◌∷◌, length, Option, Some, None, Ok, Err, is_some, unwrap_or, bit_and}
use Rattle.rv_alu.specs.Bits.{low_bytes}
use Rattle.rv_decode.specs.declared.Insn.{Insn}
use Rattle.csr_file.specs.View.{volatile_bits}
use Rattle.hart_step.specs.declared.event.Event.{Event}
use Rattle.hart_step.specs.declared.event.Event.TheVariants.{Commit, Exception as Raised, Interrupt, Host}
use Rattle.hart_step.specs.declared.hart.Hart.{Hart}
use Rattle.hart_step.specs.Allowed.{IsAllowed}
use Rattle.hart_step.specs.Answers.{Given}
use Rattle.hart_step.specs.Effects.{Effect, Outcome, Situation, effect}
use Rattle.hart_step.specs.Harts.{CoreState, hart_of}
use Rattle.hart_step.specs.Memory.{MemoryState}
use Rattle.hart_step.specs.Step.{Answer, step}

-- ---- what a step is told

-- this interrupt, this word for what a device answers, cut to the size, this word for what a volatile register reads
-- as, cut to its volatile bits, and whether a store-conditional that may succeed does
abbrev pub told : Option ℕ → ℕ → ℕ → Bool → Given
told interrupt device seen wins = record {
  interrupt = interrupt;
  device = λ at size. low_bytes size device;
  volatile = λ number. bit_and seen (volatile_bits number);
  may_win = wins;
}

-- what an instruction comes to tells what it was given: what is not shown is 0, and a store-conditional succeeds
-- exactly where a store is shown
abbrev pub told_of : Outcome → Given
told_of (Ok e) = told None (unwrap_or e.done.dv 0) (unwrap_or e.done.vl 0) (is_some e.done.st)
told_of (Err x) = told None 0 0 false

-- the same of an event
abbrev pub told_by : Event → Given
told_by (Commit hart mode pc insn rd st dv vl) = told None (unwrap_or dv 0) (unwrap_or vl 0) (is_some st)
told_by (Raised hart mode pc cause tval) = told None 0 0 false
told_by (Interrupt hart cause) = told (Some cause) 0 0 false
told_by (Host word) = told None 0 0 false

-- ---- harts that differ in a reservation

-- a hart with this reservation, or none
abbrev pub reserved : Option ℕ → Hart → Hart
reserved r hart = record hart { reservation = r }

-- a reservation that the second one has, the first one has too
abbrev pub Covers : Option ℕ → Option ℕ → Type 0
Covers r None = Unit {0}
Covers r (Some at) = r ≡ Some at

-- the first hart is the second one, but that it may have a reservation where that one has none
pub record CoversHart (mine theirs : Hart) : Type 0 where
  pub is : mine ≡ reserved mine.reservation theirs
  pub covers : Covers mine.reservation theirs.reservation

-- the same of harts in order
abbrev pub CoverHarts : List Hart → List Hart → Type 0
CoverHarts [] [] = Unit {0}
CoverHarts [] (y ∷ ys) = ⊥
CoverHarts (x ∷ xs) [] = ⊥
CoverHarts (x ∷ xs) (y ∷ ys) = CoversHart x y × CoverHarts xs ys

-- the same of cores, whose memory and boot ROM are one
pub record CoversCore (mine theirs : CoreState) : Type 0 where
  pub harts : CoverHarts mine.harts theirs.harts
  pub ram : mine.ram ≡ theirs.ram
  pub rom : mine.rom ≡ theirs.rom

-- ---- the laws

-- an effect with another reservation of its hart
abbrev pub with_reservation : Option ℕ → Effect → Effect
with_reservation r e = record e { hart = reserved r e.hart }

-- the first effect is the second one, but for a reservation that covers its own
pub record Follows (mine theirs : Effect) : Type 0 where
  pub reservation : Option ℕ
  pub is : mine ≡ with_reservation reservation theirs
  pub covers : Covers reservation theirs.hart.reservation

abbrev pub OutcomeFollows : Outcome → Outcome → Type 0
OutcomeFollows (Ok mine) (Ok theirs) = Follows mine theirs
OutcomeFollows (Err mine) (Err theirs) = mine ≡ theirs
OutcomeFollows (Ok mine) (Err theirs) = ⊥
OutcomeFollows (Err mine) (Ok theirs) = ⊥

-- an instruction that is told what another carrying out of it came to does the same, on a hart whose reservation covers
-- that one's
abbrev pub EffectsFollow : Type 0
EffectsFollow = (s : Situation) (insn : Insn) (hart : Hart) (memory : MemoryState) (r : Option ℕ) →
    Covers r hart.reservation → IsAllowed hart s.given →
    OutcomeFollows (effect (record s { given = told_of (effect s insn hart memory) }) insn (reserved r hart) memory)
    (effect s insn hart memory)

-- the first step shows what the second one shows, and leaves a core that covers that one's
pub record StepFollows (mine theirs : Answer) : Type 0 where
  pub event : mine.event ≡ theirs.event
  pub core : CoversCore mine.core theirs.core

-- so does a step that is told what another one showed
abbrev pub StepsFollow : Type 0
StepsFollow = (given : Given) (core other : CoreState) (h : ℕ) →
    h < length core.harts → CoversCore other core → IsAllowed (hart_of core h) given →
    StepFollows (step (told_by (step given core h).event) other h) (step given core h)
