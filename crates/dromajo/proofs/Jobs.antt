-- A job: its beginning, and then its work, over files, an input and a console that stand apart.
use Rattle.std.proofs.Common.{◌≡◌, ℕ, List, [], Option, Some, None, Result, Ok, Err, IfSome, refl, sym, ap, subst, ◌∙◌, inl, inr}
use Rattle.outside_io.specs.Content.{Held, Told}
use Rattle.hart_turns.specs.Machine.{MachineView}
use Rattle.job_words.specs.Job.{Job}
use Rattle.outside_acts.specs.declared.Stop.{Stop}
use Rattle.outside_acts.specs.declared.Stop.TheVariants as stop
use Rattle.outside_acts.specs.Acts.{Did}
use Rattle.outside_acts.specs.World.{Reading, Writing, TheInput, Console, World}
use Rattle.outside_acts.proofs.Algebra.{did_none}
use Rattle.outside_acts.proofs.Apart.{did_apart, did_cut_apart}
use Rattle.dromajo.specs.declared.status.Status.{Status}
use Rattle.dromajo.specs.declared.status.Status.TheVariants.{Usage}
use Rattle.dromajo.specs.declared.status.Tally.{Tally}
use Rattle.dromajo.specs.declared.status.Tally.TheVariants.{Turned}
use Rattle.dromajo.specs.declared.work.JobEnding.{JobEnding}
use Rattle.dromajo.specs.Classes.{Class, Refused, Ended, Failed, Unreported, Starved, Never, class_of, settles, stop_status}
use Rattle.dromajo.specs.Jobs.{Begun, IsBegunActs, IsBegunOutcome, IsOutcome, Outcome, begun, refused}
use Rattle.dromajo.specs.Report.{report_line}
use Rattle.dromajo.specs.TopCall.{JobEnds, JobLeaves, JobStops, leaves_by}
use Rattle.dromajo.specs.Works.{BegunEnds, BegunStops, IsUnbegun, OverLeft, begun_with, unbegun_by}

-- ---- what is told

pub told_some : {A : Type 0} (told : Option A) (a : A) (P : A → Type 0) → told ≡ Some a → IfSome told P → P a
told_some None a P is says = cc
told_some (Some b) a P is says = let same : b ≡ a = cc in subst P same says

-- files that were only read hold what they held
pub held_same : (a b : Option Held) (held : Held) → a ≡ Some held → Told a b (λ x y. y ≡ x) → b ≡ a
held_same None b held is told = cc
held_same (Some x) None held is told = absurd told
held_same (Some x) (Some y) held is told = ap (λ (h : Held). Some h) told

-- nothing was done
pub did_nothing : (input : List ℕ) (a b : World) → a.left ≡ Some input → b.held ≡ a.held → b.left ≡ a.left → b.written ≡ a.written → Did input 0 [] a b
did_nothing input a b is held left written = did_apart refl refl (sym held) (sym left) (sym written) (did_none a is)

-- ---- by class

pub leaves_settled : (class : Class) (job : Option Job) (held : Held) (input : List ℕ) (status : Status) (line : List ℕ) (a b : World) → settles class → JobEnds job held input status line a b → leaves_by class job held input status line a b
leaves_settled Refused job held input status line a b settled ends = ends
leaves_settled Ended job held input status line a b settled ends = ends
leaves_settled (Failed counted) job held input status line a b settled ends = absurd settled
leaves_settled Unreported job held input status line a b settled ends = absurd settled
leaves_settled Starved job held input status line a b settled ends = absurd settled
leaves_settled Never job held input status line a b settled ends = absurd settled

pub leaves_stopped : (why : Stop) (job : Option Job) (held : Held) (input line : List ℕ) (a b : World) → JobStops why job held input a b → leaves_by (class_of (stop_status why)) job held input (stop_status why) line a b
leaves_stopped stop.Input job held input line a b stops = stops
leaves_stopped stop.Out job held input line a b stops = stops
leaves_stopped stop.Files job held input line a b stops = stops
leaves_stopped stop.NoMemory job held input line a b stops = inr stops

-- ---- the work of a machine that was begun

begun_outcome : (job : Job) (held : Held) (input : List ℕ) (b : Begun) (outcome : Outcome) → begun held job.begin ≡ Ok b → IsBegunOutcome job.work input (Ok b) outcome → IsOutcome (Some job) held input outcome
begun_outcome job held input b outcome is work = subst (λ (r : Result Begun Status). IsBegunOutcome job.work input r outcome) (sym is) work

job_ends : (job : Job) (held : Held) (input : List ℕ) (b : Begun) (last : JobEnding) (x z : World) → begun held job.begin ≡ Ok b
    → BegunEnds job.work b last input x z → JobEnds (Some job) held input last.status (report_line last.status last.tally) x z
job_ends job held input b last x z is ends = record {
  outcome = ends.outcome;
  is = begun_outcome job held input b ends.outcome is ends.is;
  status_is = ends.status_is;
  line_is = ends.line_is;
  did = ends.did;
  sound = ends.sound;
}

job_stops : (why : Stop) (job : Job) (held : Held) (input : List ℕ) (b : Begun) (x z : World) → begun held job.begin ≡ Ok b
    → BegunStops why job.work b input x z → JobStops why (Some job) held input x z
job_stops why job held input b x z is stops = record {
  acts = stops.acts;
  are = subst (λ (r : Result Begun Status). IsBegunActs job.work input r stops.acts) (sym is) stops.are;
  cut = stops.cut;
}

-- ---- other worlds that tell the same

pub ends_apart : (job : Option Job) (held : Held) (input : List ℕ) (status : Status) (line : List ℕ) (a b before now : World) → a.held ≡ before.held → a.written ≡ before.written → b.held ≡ now.held → b.left ≡ now.left → b.written ≡ now.written → JobEnds job held input status line a b → JobEnds job held input status line before now
ends_apart job held input status line a b before now held_is written held' left' written' ends = record {
  outcome = ends.outcome;
  is = ends.is;
  status_is = ends.status_is;
  line_is = ends.line_is;
  did = did_apart held_is written held' left' written' ends.did;
  sound = ends.sound;
}

pub stops_apart : (why : Stop) (job : Option Job) (held : Held) (input : List ℕ) (a b before now : World) → a.held ≡ before.held → a.written ≡ before.written → b.held ≡ now.held → b.left ≡ now.left → b.written ≡ now.written → JobStops why job held input a b → JobStops why job held input before now
stops_apart why job held input a b before now held_is written held' left' written' stops = record {
  acts = stops.acts;
  are = stops.are;
  cut = did_cut_apart held_is written held' left' written' stops.cut;
}

-- ---- a machine that was not begun

refused_ends : (job : Job) (held : Held) (input : List ℕ) (status : Status) (a b : World) → begun held job.begin ≡ Err status → Did input 0 [] a b → JobEnds (Some job) held input status (report_line status (Turned 0 0)) a b
refused_ends job held input status a b is did = record {
  outcome = refused status;
  is = subst (λ (r : Result Begun Status). IsBegunOutcome job.work input r (refused status)) (sym is) refl;
  status_is = refl;
  line_is = refl;
  did = did;
  sound = tt;
}

unbegun_by_class : (class : Class) (job : Job) (held : Held) (input : List ℕ) (status : Status) (told : Option Held) (reads reads' : ℕ) (a b : World) → told ≡ Some held
    → unbegun_by class (IfSome told (λ files. begun files job.begin ≡ Err status)) reads reads' → Did input 0 [] a b → leaves_by class (Some job) held input status (report_line status (Turned 0 0)) a b
unbegun_by_class Refused job held input status told reads reads' a b is why did = refused_ends job held input status a b (told_some told held _ is why.0) did
unbegun_by_class (Failed Reading) job held input status told reads reads' a b is why did = did
unbegun_by_class (Failed Writing) job held input status told reads reads' a b is why did = absurd why
unbegun_by_class (Failed TheInput) job held input status told reads reads' a b is why did = absurd why
unbegun_by_class (Failed Console) job held input status told reads reads' a b is why did = absurd why
unbegun_by_class Starved job held input status told reads reads' a b is why did = inl did
unbegun_by_class Ended job held input status told reads reads' a b is why did = absurd why
unbegun_by_class Unreported job held input status told reads reads' a b is why did = absurd why
unbegun_by_class Never job held input status told reads reads' a b is why did = absurd why

pub unbegun_leaves : (job : Job) (held : Held) (input : List ℕ) (status : Status) (told : Option Held) (reads reads' : ℕ) (a b : World) → told ≡ Some held
    → IsUnbegun status (IfSome told (λ files. begun files job.begin ≡ Err status)) reads reads' → Did input 0 [] a b → leaves_by (class_of status) (Some job) held input status (report_line status (Turned 0 0)) a b
unbegun_leaves job held input status told reads reads' a b is unbegun did = unbegun_by_class (class_of status) job held input status told reads reads' a b is unbegun.why did

-- ---- what is left of a call

pub over_two : (h : Option Held) (l : Option (List ℕ)) (Says : Held → List ℕ → Type 0) → ((held : Held) (input : List ℕ) → h ≡ Some held → l ≡ Some input → Says held input) → IfSome h (λ held. IfSome l (λ input. Says held input))
over_two None l Says says = tt
over_two (Some held) None Says says = tt
over_two (Some held) (Some input) Says says = says held input refl refl

-- ---- what a job leaves, by how it went

-- a line without numbers
early : (job : Option Job) (held : Held) (input : List ℕ) (status s : Status) (tally : Tally) (a b : World) → s ≡ status → tally ≡ Turned 0 0
    → leaves_by (class_of status) job held input status (report_line status (Turned 0 0)) a b → leaves_by (class_of s) job held input s (report_line s tally) a b
early job held input status s tally a b is none left =
    subst (λ (x : Status). leaves_by (class_of x) job held input x (report_line x tally) a b) (sym is)
    (subst (λ (t : Tally). leaves_by (class_of status) job held input status (report_line status t) a b) (sym none) left)

-- the words name none
pub no_job : (job : Option Job) (s : Status) (tally : Tally) (a : World) → None ≡ job → s ≡ Usage → tally ≡ Turned 0 0 → JobLeaves job s (report_line s tally) a a
no_job job s tally a none is unmade = over_two a.held a.left (λ held input. leaves_by (class_of s) job held input s (report_line s tally) a a) (λ held input h l.
    early job held input Usage s tally a a is unmade (record {
      outcome = refused Usage;
      is = subst (λ (j : Option Job). IsOutcome j held input (refused Usage)) none refl;
      status_is = refl;
      line_is = refl;
      did = did_nothing input a a l refl refl refl;
      sound = tt;
    }))

-- its machine was not begun: `a` and `b` are the worlds before and after
pub unbegun_job : (job : Job) (status s : Status) (tally : Tally) (reads reads' : ℕ) (a b : World) → s ≡ status → tally ≡ Turned 0 0
    → Told a.held b.held (λ x y. y ≡ x) → b.left ≡ a.left → b.written ≡ a.written
    → IsUnbegun status (IfSome a.held (λ files. begun files job.begin ≡ Err status)) reads reads' → JobLeaves (Some job) s (report_line s tally) a b
unbegun_job job status s tally reads reads' a b is unmade told left written unbegun =
    over_two a.held a.left (λ held input. leaves_by (class_of s) (Some job) held input s (report_line s tally) a b) (λ held input h l.
    early (Some job) held input status s tally a b is unmade
    (unbegun_leaves job held input status a.held reads reads' a b h unbegun (did_nothing input a b l (held_same a.held b.held held h told) left written)))

-- its work ended: `x` and `z` are the worlds between which it was done
pub ended_job : (job : Job) (m : MachineView) (finished : JobEnding) (a x z b : World)
    → IfSome a.held (λ files. begun files job.begin ≡ Ok (begun_with m))
    → Told a.held x.held (λ h h'. h' ≡ h) → x.left ≡ a.left → x.written ≡ a.written → z.held ≡ b.held → z.left ≡ b.left → z.written ≡ b.written
    → class_of finished.status ≡ Ended → OverLeft x (λ input. BegunEnds job.work (begun_with m) finished input x z)
    → JobLeaves (Some job) finished.status (report_line finished.status finished.tally) a b
ended_job job m finished a x z b began told left written held' left' written' class ends =
    over_two a.held a.left (λ held input. leaves_by (class_of finished.status) (Some job) held input finished.status (report_line finished.status finished.tally) a b) (λ held input h l.
    leaves_settled (class_of finished.status) (Some job) held input finished.status (report_line finished.status finished.tally) a b (subst settles (sym class) tt)
    (ends_apart (Some job) held input finished.status (report_line finished.status finished.tally) x z a b (held_same a.held x.held held h told) written held' left' written'
    (job_ends job held input (begun_with m) finished x z (told_some a.held held (λ files. begun files job.begin ≡ Ok (begun_with m)) h began) (ends input (left ∙ l)))))

-- or was cut
pub stopped_job : (why : Stop) (job : Job) (m : MachineView) (s : Status) (tally : Tally) (a x z b : World)
    → IfSome a.held (λ files. begun files job.begin ≡ Ok (begun_with m))
    → Told a.held x.held (λ h h'. h' ≡ h) → x.left ≡ a.left → x.written ≡ a.written → z.held ≡ b.held → z.left ≡ b.left → z.written ≡ b.written
    → s ≡ stop_status why → OverLeft x (λ input. BegunStops why job.work (begun_with m) input x z)
    → JobLeaves (Some job) s (report_line s tally) a b
stopped_job why job m s tally a x z b began told left written held' left' written' is stops =
    over_two a.held a.left (λ held input. leaves_by (class_of s) (Some job) held input s (report_line s tally) a b) (λ held input h l.
    subst (λ (y : Status). leaves_by (class_of y) (Some job) held input y (report_line s tally) a b) (sym is)
    (leaves_stopped why (Some job) held input (report_line s tally) a b
    (stops_apart why (Some job) held input x z a b (held_same a.held x.held held h told) written held' left' written'
    (job_stops why job held input (begun_with m) x z (told_some a.held held (λ files. begun files job.begin ≡ Ok (begun_with m)) h began) (stops input (left ∙ l))))))
