-- The turns after a save: a cut in them leaves the checkpoint whole, and what they send.
use Rattle.std.proofs.Common.{◌≡◌, ℕ, List, ◌++◌, Some, sym, ap, subst, ◌∙◌, inl, inr}
use Rattle.hart_turns.specs.Machine.{MachineState, cleared}
use Rattle.hart_turns.specs.Turn.{Turned}
use Rattle.outside_io.specs.Content.{Held}
use Rattle.outside_acts.specs.declared.Stop.{Stop}
use Rattle.outside_acts.specs.declared.Stop.TheVariants.{Input, Out, Files, NoMemory}
use Rattle.outside_acts.specs.Acts.{Act, filed, sent}
use Rattle.outside_acts.proofs.Algebra.{filed_joined, sent_joined}
use Rattle.image_saver.specs.Saving.{save_acts}
use Rattle.image_saver.proofs.Jobs.{on_save}
use Rattle.turn_runs.specs.Leaves.{LeavesLogged, LeavesSent, LeavesUnread, RunLeaves, TurnLeaves}
use Rattle.turn_runs.specs.Run.{Ran, no_logs, run}
use Rattle.checkpoint_run.specs.Laws.{AfterIsWhole, MoreEqual, RestoresTo}
use Rattle.checkpoint_run.specs.Saving.{SaveRan}
use Rattle.checkpoint_run.proofs.Apart.{AllApart, apart_joined, apart_keeps, run_apart}
use Rattle.checkpoint_run.proofs.Places.{has_saved}
use Rattle.checkpoint_run.proofs.Restored.{saved_is_restored}

-- ---- what is left of a cut run that is not logged is apart from every file

unread_apart : (file : List ℕ) (from : ℕ) (m : MachineState) (left : List Act) → LeavesUnread from m left → AllApart file left
unread_apart file from m left leaves = subst (AllApart file) (sym leaves.3) (tt, tt)

sent_apart : (file : List ℕ) (m : MachineState) (t : Turned) (left : List Act) → LeavesSent m t left → AllApart file left
sent_apart file m t left leaves = subst (AllApart file) (sym leaves.1.1) (tt, (tt, tt))

-- there are no lines
logged_apart : (file : List ℕ) (m : MachineState) (t : Turned) (left : List Act) → LeavesLogged no_logs m t left → AllApart file left
logged_apart file m t left leaves =
    let none : no_logs.trace ≡ Some leaves.0 = leaves.1 in
    absurd (cc)

turn_apart : (file : List ℕ) (stop : Stop) (from : ℕ) (m : MachineState) (t : Turned) (left : List Act)
    → TurnLeaves stop no_logs from m t left → AllApart file left
turn_apart file Input from m t left leaves = unread_apart file from m left leaves
turn_apart file Out from m t left leaves = sent_apart file m t left leaves
turn_apart file Files from m t left leaves = logged_apart file m t left leaves
turn_apart file NoMemory from m t left (inl leaves) = sent_apart file m t left leaves
turn_apart file NoMemory from m t left (inr leaves) = logged_apart file m t left leaves

left_apart : (file : List ℕ) {stop : Stop} (bytes : List ℕ) {from : ℕ} (m : MachineState) {turns : ℕ} (front : List Act)
    → RunLeaves stop no_logs bytes from m turns front → AllApart file front
left_apart file {stop} bytes m front leaves =
    let part = turn_apart file stop _ _ _ leaves.left leaves.of_turn in
    subst (AllApart file) (sym leaves.front_is) (apart_joined file (run no_logs bytes m leaves.k).acts leaves.left (run_apart file bytes m leaves.k) part)

-- ---- a cut in the turns after a save

pub after_is_whole : AfterIsWhole
after_is_whole stop name bytes from m turns more saved front held sound after =
    let first : List Act = (run no_logs bytes m turns).acts in
    let save : List Act = save_acts name saved.machine saved.rom in
    let before : Held = filed first held in
    let whole : Held = filed (first ++ save) held in
    let kept : filed after.left whole ≡ whole =
    λ i. λ file. apart_keeps file after.left whole (left_apart file bytes (cleared saved.machine) after.left after.leaves) i in
    let is : filed front held ≡ filed save before =
    ap (λ (zs : List Act). filed zs held) after.front_is ∙ filed_joined (first ++ save) after.left held ∙ kept ∙ filed_joined first save held in
    subst (λ (h : Held). RestoresTo h name (cleared saved.machine)) (sym is)
    (saved_is_restored before name saved.machine saved.rom sound.fit sound.few sound.rom)

-- ---- what the turns after a save send

pub more_equal : MoreEqual
more_equal name input m turns more ran saved is some =
    let first : Ran = run no_logs input m turns in
    let second : Ran = run no_logs input (cleared first.machine) more in
    let later : Ran = run no_logs input (cleared saved.machine) more in
    let save : List Act = save_acts name first.machine saved.rom in
    let between = has_saved name input first more first.last ran saved is some in
    let same : second ≡ later = ap (λ (x : MachineState). run no_logs input (cleared x) more) (sym between.machine) in
    let sends : sent (save ++ second.acts) ≡ sent later.acts =
    sent_joined save second.acts ∙ ap (λ (zs : List ℕ). zs ++ sent second.acts) (on_save name first.machine saved.rom).silent
    ∙ ap (λ (r : Ran). sent r.acts) same in
    let all : sent ran.acts ≡ sent first.acts ++ sent later.acts =
    ap (λ (r : SaveRan). sent r.acts) between.is ∙ sent_joined first.acts (save ++ second.acts) ∙ ap (λ (zs : List ℕ). sent first.acts ++ zs) sends in
    (all, ap (λ (r : SaveRan). r.last) between.is ∙ ap (λ (r : Ran). r.last) same)
