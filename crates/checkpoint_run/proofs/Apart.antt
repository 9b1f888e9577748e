-- Acts apart from a file leave it, and so do their cuts.
use Rattle.std.proofs.Common.{◌≡◌, ◌≢◌, ℕ, zero, suc, List, [], ◌∷◌, ◌++◌, refl, sym, subst, ◌∙◌, inl, inr}
use Rattle.std.specs.Prelude.{⊤}
use Rattle.hart_turns.specs.declared.machine.TurnEnd.{TurnEnd}
use Rattle.hart_turns.specs.declared.machine.TurnEnd.TheVariants.{Goes, Ended, BadHost}
use Rattle.hart_turns.specs.Machine.{MachineState}
use Rattle.hart_turns.specs.Turn.{Turned}
use Rattle.outside_io.specs.Content.{Held, file_of}
use Rattle.outside_acts.specs.declared.Stop.{Stop}
use Rattle.outside_acts.specs.Acts.{Act, ReadTo, Send, Start, Append, IsCut, IsPart, filed, filed_by, read}
use Rattle.outside_acts.proofs.Held.{with_file_others}
use Rattle.image_saver.specs.declared.fault.Part.TheVariants.{Mainram, Bootram}
use Rattle.image_saver.specs.Checkpoint.{meta_file, part_file}
use Rattle.turn_runs.specs.Run.{Ran, goes_on, no_logs, run, send_acts, turn_acts, turn_on}
use Rattle.checkpoint_run.specs.Leaves.{NotTouched}

-- an act is not on this file
abbrev pub IsApart : List ℕ → Act → Type 0
IsApart name (ReadTo n) = ⊤
IsApart name (Send bytes) = ⊤
IsApart name (Start other) = name ≢ other
IsApart name (Append other piece) = name ≢ other

-- none of these acts is
abbrev pub AllApart : List ℕ → List Act → Type 0
AllApart name [] = ⊤
AllApart name (act ∷ acts) = IsApart name act × AllApart name acts

-- ---- lists of such acts

pub apart_joined : (name : List ℕ) (xs ys : List Act) → AllApart name xs → AllApart name ys → AllApart name (xs ++ ys)
apart_joined name [] ys first second = second
apart_joined name (x ∷ xs) ys first second = (first.0, apart_joined name xs ys first.1 second)

apart_split : (name : List ℕ) (xs ys : List Act) → AllApart name (xs ++ ys) → AllApart name xs × AllApart name ys
apart_split name [] ys all = (tt, all)
apart_split name (x ∷ xs) ys all =
    let rest = apart_split name xs ys all.1 in
    ((all.0, rest.0), rest.1)

-- ---- what they leave

apart_by : (name : List ℕ) (act : Act) (held : Held) → IsApart name act → filed_by act held name ≡ held name
apart_by name (ReadTo n) held apart = refl
apart_by name (Send bytes) held apart = refl
apart_by name (Start other) held apart = with_file_others other [] held name apart
apart_by name (Append other piece) held apart = with_file_others other (file_of held other ++ piece) held name apart

-- the file is as before
pub apart_keeps : (name : List ℕ) (acts : List Act) (held : Held) → AllApart name acts → filed acts held name ≡ held name
unfolding filed
apart_keeps name [] held all = refl
apart_keeps name (act ∷ acts) held all = apart_keeps name acts (filed_by act held) all.1 ∙ apart_by name act held all.0

-- acts apart from every file leave the three of a checkpoint
pub not_touched : (name : List ℕ) (acts : List Act) (held : Held) → ((file : List ℕ) → AllApart file acts) → NotTouched name held (filed acts held)
not_touched name acts held apart = record {
  meta = apart_keeps (meta_file name) acts held (apart (meta_file name));
  mainram = apart_keeps (part_file Mainram name) acts held (apart (part_file Mainram name));
  bootram = apart_keeps (part_file Bootram name) acts held (apart (part_file Bootram name));
}

-- ---- cuts

part_apart : (name : List ℕ) (from : ℕ) (act : Act) (part : List Act) → IsApart name act → IsPart from act part → AllApart name part
part_apart name from (ReadTo n) part apart is = subst (AllApart name) (sym is.3) (tt, tt)
part_apart name from (Send bytes) part apart is = subst (AllApart name) (sym is.1) (tt, tt)
part_apart name from (Start other) part apart (inl is) = subst (AllApart name) (sym is) tt
part_apart name from (Start other) part apart (inr is) = subst (AllApart name) (sym is) (apart, tt)
part_apart name from (Append other piece) part apart (inl is) = subst (AllApart name) (sym is) tt
part_apart name from (Append other piece) part apart (inr is) = subst (AllApart name) (sym is.1) (apart, tt)

-- a cut of such acts is of such acts
pub cut_apart : (name : List ℕ) {stop : Stop} {from : ℕ} {acts front : List Act} → AllApart name acts
    → IsCut stop from acts front → AllApart name front
cut_apart name {stop} {from} {acts} {front} all cut =
    let both = apart_split name cut.done (cut.next ∷ cut.rest) (subst (AllApart name) cut.acts_are all) in
    let part = part_apart name (read cut.done from) cut.next cut.part both.1.0 cut.part_is in
    subst (AllApart name) (sym cut.left_are) (apart_joined name cut.done cut.part both.0 part)

-- ---- runs that are not logged

send_apart : (name console : List ℕ) → AllApart name (send_acts console ++ [])
send_apart name [] = tt
send_apart name (b ∷ bs) = (tt, tt)

on_apart : (name input : List ℕ) (ran : Ran) (end : TurnEnd) → AllApart name ran.acts → AllApart name (goes_on no_logs input ran end).acts
on_apart name input ran Goes all =
    let t : Turned = turn_on input ran.machine in
    apart_joined name ran.acts (turn_acts no_logs ran.machine t) all (tt, send_apart name t.console)
on_apart name input ran (Ended code) all = all
on_apart name input ran (BadHost word) all = all

-- such a run is apart from every file
pub run_apart : (name input : List ℕ) (m : MachineState) (turns : ℕ) → AllApart name (run no_logs input m turns).acts
unfolding run
run_apart name input m zero = tt
run_apart name input m (suc n) = on_apart name input (run no_logs input m n) (run no_logs input m n).last (run_apart name input m n)
