-- What a machine leaves in its trace is allowed, record after record, by a core that covers the machine's own. Such a
-- core may have reservations where the machine's has none, as that of a judge has after a checkpoint which dropped them.
use Rattle.std.specs.Prelude.{◌≡◌, ℕ, ◌<◌, ◌≤◌, Option, List, [], ◌∷◌, ◌++◌, length}
use Rattle.hart_step.specs.declared.event.Event.{Event}
use Rattle.hart_step.specs.Harts.{CoreState}
use Rattle.hart_step.specs.Told.{CoversCore}
use Rattle.hart_turns.specs.Machine.{MachineState}
use Rattle.hart_turns.specs.Turn.{Progress, Turned, hart_steps, turned}
use Rattle.cosim_check.specs.Records.{Allows, core_past}

-- each record is allowed after those before it, and they lead the core to this one
abbrev pub AllAllowed : CoreState → ℕ → List Event → CoreState → Type 0
AllAllowed core tohost [] past = past ≡ core
AllAllowed core tohost (e ∷ es) past = Allows core tohost e × AllAllowed (core_past core tohost e) tohost es past

-- the events from p to q, two places in a turn, are allowed from this core on, and lead it to one that covers q's
pub record PartPasses (tohost : ℕ) (core : CoreState) (p q : Progress) : Type 0 where
  pub new : List Event
  pub events : q.events ≡ p.events ++ new
  pub past : CoreState
  pub allowed : AllAllowed core tohost new past
  pub covers : CoversCore past q.core
  pub count : length q.core.harts ≡ length p.core.harts

-- the steps of a hart pass, in whatever state the machine is
abbrev pub StepsPass : Type 0
StepsPass = (tohost h n : ℕ) (p : Progress) (core : CoreState) → h < length p.core.harts → CoversCore core p.core → PartPasses tohost core p (hart_steps h n p)

-- the events of a turn are allowed from this core on, and lead it to one that covers the machine's after the turn
pub record TurnPasses (tohost : ℕ) (core : CoreState) (before : MachineState) (turn : Turned) : Type 0 where
  pub past : CoreState
  pub allowed : AllAllowed core tohost turn.events past
  pub covers : CoversCore past turn.machine.core
  pub count : length turn.machine.core.harts ≡ length before.core.harts

-- a turn passes, in whatever state the machine is
abbrev pub TurnsPass : Type 0
TurnsPass = (m : MachineState) (offered : Option ℕ) (core : CoreState) → m.shape.harts ≤ length m.core.harts → CoversCore core m.core → TurnPasses m.shape.tohost core m (turned m offered)
