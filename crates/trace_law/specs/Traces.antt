-- That the events of a run have spellings, and the verdict on the bytes of its trace.
use Rattle.std.specs.Prelude.{◌≡◌, ℕ, ◌<◌, ◌≤◌, Bool, false, List, ◌++◌, All, length}
use Rattle.hart_step.specs.declared.event.Event.{Event}
use Rattle.commit_log.specs.Spelling.{IsSpellable}
use Rattle.hart_step.specs.Fit.{AreBytes}
use Rattle.hart_step.specs.Harts.{CoreState}
use Rattle.hart_step.specs.Told.{CoversCore}
use Rattle.hart_turns.specs.Fit.{IsFit}
use Rattle.hart_turns.specs.Machine.{MachineState}
use Rattle.turn_runs.specs.Run.{trace_lines}
use Rattle.cosim_check.specs.declared.verdict.Verdict.TheVariants.{Passing, TooMany}
use Rattle.cosim_check.specs.Verdicts.{verdict_of}
use Rattle.trace_law.specs.Runs.{run_events}

-- each event of a run of a well-formed machine, on an input of bytes, has a spelling
abbrev pub EventsSpelled : Type 0
EventsSpelled = (input : List ℕ) (m : MachineState) (n : ℕ) → AreBytes input → IsFit m → All IsSpellable (run_events input m n)

-- what a judge that begins with this core says of the lines of these events. Where no more records come than may, all
-- of them pass, so far and at the end of the stream, and no front of the bytes is refused, wherever it is cut; where
-- more come, it is told after as many as may
pub record TracePasses (core : CoreState) (tohost : ℕ) (events : List Event) : Type 0 where
  pub whole : (most : ℕ) (ended : Bool) → length events ≤ most →
      verdict_of core tohost most (trace_lines events) ended ≡ Passing (length events)
  pub full : (most : ℕ) (ended : Bool) → most < length events →
      verdict_of core tohost most (trace_lines events) ended ≡ TooMany most
  pub fronts : (most : ℕ) (front back : List ℕ) → length events ≤ most → front ++ back ≡ trace_lines events →
      (n : ℕ) × (verdict_of core tohost most front false ≡ Passing n)

-- the trace of a run of a well-formed machine, on an input of bytes, passes a judge whose core covers the machine's
abbrev pub TracesPass : Type 0
TracesPass = (input : List ℕ) (m : MachineState) (n : ℕ) (core : CoreState) →
    AreBytes input → IsFit m → CoversCore core m.core → TracePasses core m.shape.tohost (run_events input m n)
