-- What is left of a run that was cut.
use Rattle.std.proofs.Common.{◌≡◌, ℕ, List, ◌++◌, Result, inl, inr, sym, ap, subst, ◌∙◌, append_assoc}
use Rattle.outside_acts.specs.declared.Stop.{Stop}
use Rattle.outside_acts.specs.Acts.{Act, IsCut, read}
use Rattle.job_words.specs.Job.{Logs, Turns}
use Rattle.turn_runs.specs.Run.{run}
use Rattle.turn_runs.proofs.Leaving.{CutOfTwo, cut_in_turn, cut_of_two, later, sooner}
use Rattle.dromajo.specs.declared.status.Status.{Status}
use Rattle.dromajo.specs.Jobs.{Begun, IsBegunActs, start_acts}
use Rattle.dromajo.specs.Laws.{TurnsLeave, TurnsPlaces}

-- a cut of what comes before the turns, or one of the turns
parted : (stop : Stop) (logs : Logs) (input : List ℕ) (b : Begun) (turns : ℕ) (front : List Act)
    → CutOfTwo stop 0 (b.acts ++ start_acts logs) (run logs input b.machine turns).acts front → TurnsLeave stop logs input b turns front
parted stop logs input b turns front (sooner cut) = inl cut
parted stop logs input b turns front (later left is cut) =
    inr (left, is, cut_in_turn stop logs input (read (b.acts ++ start_acts logs) 0) b.machine turns left cut)

pub turns_places : TurnsPlaces
turns_places stop held begin b turns logs input acts front begins are cut =
    let of = subst (λ (r : Result Begun Status). IsBegunActs (Turns turns logs) input r acts) begins are in
    let whole : acts ≡ (b.acts ++ start_acts logs) ++ (run logs input b.machine turns).acts =
    of.2 ∙ ap (λ (zs : List Act). b.acts ++ zs) of.1 ∙ sym (append_assoc b.acts (start_acts logs) (run logs input b.machine turns).acts) in
    parted stop logs input b turns front
    (cut_of_two (b.acts ++ start_acts logs) (run logs input b.machine turns).acts (subst (λ (zs : List Act). IsCut stop 0 zs front) whole cut))
