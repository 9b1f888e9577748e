-- What a run leaves that was cut.
use Rattle.std.proofs.Common.{◌≡◌, ◌≢◌, ℕ, zero, suc, ◌+◌, List, [], ◌∷◌, ◌++◌, take, Option, Some, None, refl, sym, ap, subst, ◌∙◌, append_assoc, arith, inl, inr}
use Rattle.hart_turns.specs.declared.machine.TurnEnd.{TurnEnd}
use Rattle.hart_turns.specs.declared.machine.TurnEnd.TheVariants.{Goes, Ended, BadHost}
use Rattle.hart_turns.specs.Machine.{MachineState}
use Rattle.hart_turns.specs.Turn.{Turned}
use Rattle.outside_acts.specs.declared.Stop.{Stop}
use Rattle.outside_acts.specs.declared.Stop.TheVariants.{Input, Out, Files, NoMemory}
use Rattle.outside_acts.specs.Acts.{Act, ReadTo, Send, Append, IsCut, IsPart, StopsAt, read}
use Rattle.outside_acts.proofs.Algebra.{read_joined}
use Rattle.turn_runs.specs.Leaves.{LeavesLines, LeavesLogged, LeavesSent, LeavesUnread, RunLeaves, TurnLeaves}
use Rattle.job_words.specs.Job.{Logs}
use Rattle.turn_runs.specs.Run.{append_acts, goes_on, log_acts, run, send_acts, trace_lines, turn_acts, turn_on}

-- ---- where a cut lies

-- an act of two lists is one of the first, or one of the second
data Split (xs ys done : List Act) (next : Act) (rest : List Act) : Type 0 where
  in_first : (mid : List Act) → xs ≡ done ++ next ∷ mid → Split xs ys done next rest
  in_second : (mid : List Act) → done ≡ xs ++ mid → ys ≡ mid ++ next ∷ rest → Split xs ys done next rest

split_more : {xs ys done rest : List Act} {next : Act} (x d : Act) → x ≡ d → Split xs ys done next rest
    → Split (x ∷ xs) ys (d ∷ done) next rest
split_more x d same (in_first mid first) = in_first mid (cc)
split_more x d same (in_second mid first second) = in_second mid (cc) second

split_at : (xs ys done rest : List Act) (next : Act) → xs ++ ys ≡ done ++ next ∷ rest → Split xs ys done next rest
split_at [] ys done rest next is = in_second done refl is
split_at (x ∷ xs) ys [] rest next is = in_first xs (cc)
split_at (x ∷ xs) ys (d ∷ done) rest next is = split_more x d (cc) (split_at xs ys done rest next (cc))

-- a cut of two lists is one of the first, or one of the second after all of the first
pub data CutOfTwo (stop : Stop) (from : ℕ) (xs ys front : List Act) : Type 0 where
  sooner : IsCut stop from xs front → CutOfTwo stop from xs ys front
  later : (left : List Act) → front ≡ xs ++ left → IsCut stop (read xs from) ys left → CutOfTwo stop from xs ys front

cut_by : (stop : Stop) (from : ℕ) (xs ys front : List Act) (cut : IsCut stop from (xs ++ ys) front)
    → Split xs ys cut.done cut.next cut.rest → CutOfTwo stop from xs ys front
cut_by stop from xs ys front cut (in_first mid first) =
    sooner (record {
      done = cut.done;
      next = cut.next;
      rest = mid;
      part = cut.part;
      acts_are = first;
      stops = cut.stops;
      part_is = cut.part_is;
      left_are = cut.left_are;
    })
cut_by stop from xs ys front cut (in_second mid first second) =
    let before : read cut.done from ≡ read mid (read xs from) =
    ap (λ (zs : List Act). read zs from) first ∙ read_joined xs mid from in
    later (mid ++ cut.part) (cut.left_are ∙ ap (λ (zs : List Act). zs ++ cut.part) first ∙ append_assoc xs mid cut.part)
    (record {
      done = mid;
      next = cut.next;
      rest = cut.rest;
      part = cut.part;
      acts_are = second;
      stops = cut.stops;
      part_is = subst (λ (n : ℕ). IsPart n cut.next cut.part) before cut.part_is;
      left_are = refl;
    })

pub cut_of_two : {stop : Stop} {from : ℕ} {front : List Act} (xs ys : List Act) → IsCut stop from (xs ++ ys) front
    → CutOfTwo stop from xs ys front
cut_of_two xs ys cut = cut_by _ _ xs ys _ cut (split_at xs ys cut.done cut.rest cut.next cut.acts_are)

no_such : (done : List Act) (next : Act) (rest : List Act) → [] ≡ done ++ next ∷ rest → ⊥
no_such [] next rest is = cc
no_such (d ∷ done) next rest is = cc

pub none_cut : {A : Type 0} {stop : Stop} {from : ℕ} {front : List Act} → IsCut stop from [] front → A
none_cut cut = absurd (no_such cut.done _ _ cut.acts_are)

one_by : (stop : Stop) (from : ℕ) (act next : Act) (done rest part front : List Act) → act ∷ [] ≡ done ++ next ∷ rest
    → StopsAt stop next → IsPart (read done from) next part → front ≡ done ++ part
    → StopsAt stop act × IsPart from act front
unfolding read
one_by stop from act next [] rest part front is stops part_is left_is =
    let same : act ≡ next = cc in
    let here : IsPart from next front = subst (λ (zs : List Act). IsPart from next zs) (sym left_is) part_is in
    (subst (λ (a : Act). StopsAt stop a) (sym same) stops, subst (λ (a : Act). IsPart from a front) (sym same) here)
one_by stop from act next (d ∷ done) rest part front is stops part_is left_is =
    let none : [] ≡ done ++ next ∷ rest = cc in
    absurd (no_such done next rest none)

-- a cut of one act is a part of it
pub one_cut : {stop : Stop} {from : ℕ} {front : List Act} (act : Act) → IsCut stop from (act ∷ []) front
    → StopsAt stop act × IsPart from act front
one_cut {stop} {from} act cut =
    one_by stop from act cut.next cut.done cut.rest cut.part _ cut.acts_are cut.stops cut.part_is cut.left_are

-- ---- a turn that was cut

-- a cut of a send, of which there is one where there are bytes
record SendCut (stop : Stop) (console : List ℕ) (front : List Act) : Type 0 where
  some : console ≢ []
  stops : StopsAt stop (Send console)
  i : ℕ
  front_is : front ≡ Send (take i console) ∷ []

send_cut : {stop : Stop} {from : ℕ} {front : List Act} (console : List ℕ) → IsCut stop from (send_acts console) front
    → SendCut stop console front
send_cut [] cut = none_cut cut
send_cut (b ∷ bs) cut =
    let one = one_cut (Send (b ∷ bs)) cut in
    record { some = λ none. cc; stops = one.0; i = one.1.0; front_is = one.1.1 }

-- a cut of an append, of which there is one where there is a file
record AppendCut (stop : Stop) (file : Option (List ℕ)) (lines : List ℕ) (front : List Act) : Type 0 where
  name : List ℕ
  some : file ≡ Some name
  stops : StopsAt stop (Append name lines)
  leaves : LeavesLines name lines front

append_cut : {stop : Stop} {from : ℕ} {front : List Act} (file : Option (List ℕ)) (lines : List ℕ)
    → IsCut stop from (append_acts file lines) front → AppendCut stop file lines front
append_cut None lines cut = none_cut cut
append_cut (Some name) lines cut =
    let one = one_cut (Append name lines) cut in
    record { name = name; some = refl; stops = one.0; leaves = one.1 }

after_read : {front left last : List Act} (m : MachineState) → left ≡ ReadTo (m.taken + 1) ∷ front → front ≡ last
    → left ≡ ReadTo (m.taken + 1) ∷ last
after_read m left_is is = left_is ∙ ap (λ (zs : List Act). ReadTo (m.taken + 1) ∷ zs) is

module _ (logs : Logs) (from : ℕ) (m : MachineState) (t : Turned) (left : List Act) where
  read_left : (stop : Stop) → StopsAt stop (ReadTo (m.taken + 1)) → LeavesUnread from m left
      → TurnLeaves stop logs from m t left
  read_left Input stops leaves = leaves
  read_left Out stops leaves = absurd stops
  read_left Files stops leaves = absurd stops
  read_left NoMemory stops leaves = absurd stops

  sent_left : (stop : Stop) (piece : List ℕ) → StopsAt stop (Send piece) → LeavesSent m t left
      → TurnLeaves stop logs from m t left
  sent_left Input piece stops leaves = absurd stops
  sent_left Out piece stops leaves = leaves
  sent_left Files piece stops leaves = absurd stops
  sent_left NoMemory piece stops leaves = inl leaves

  logged_left : (stop : Stop) (name piece : List ℕ) → StopsAt stop (Append name piece) → LeavesLogged logs m t left
      → TurnLeaves stop logs from m t left
  logged_left Input name piece stops leaves = absurd stops
  logged_left Out name piece stops leaves = absurd stops
  logged_left Files name piece stops leaves = leaves
  logged_left NoMemory name piece stops leaves = inr leaves

  shown_left : {stop : Stop} {at : ℕ} {front : List Act} → left ≡ ReadTo (m.taken + 1) ∷ front
      → CutOfTwo stop at (send_acts t.console) (log_acts logs t.events) front → TurnLeaves stop logs from m t left
  shown_left {stop} left_is (sooner cut) =
      let send = send_cut t.console cut in
      sent_left stop t.console send.stops (send.some, (send.i, after_read m left_is send.front_is))
  shown_left {stop} left_is (later last is cut) =
      let added = append_cut logs.trace (trace_lines t.events) cut in
      logged_left stop added.name (trace_lines t.events) added.stops
      (added.name, added.some, (last, added.leaves, after_read m left_is is))

  turn_left : {stop : Stop}
      → CutOfTwo stop from (ReadTo (m.taken + 1) ∷ []) (send_acts t.console ++ log_acts logs t.events) left
      → TurnLeaves stop logs from m t left
  turn_left {stop} (sooner cut) =
      let one = one_cut (ReadTo (m.taken + 1)) cut in
      read_left stop one.0 one.1
  turn_left (later front is cut) = shown_left is (cut_of_two (send_acts t.console) (log_acts logs t.events) cut)

  turn_cut : {stop : Stop} → IsCut stop from (turn_acts logs m t) left → TurnLeaves stop logs from m t left
  turn_cut cut =
      turn_left (cut_of_two (ReadTo (m.taken + 1) ∷ []) (send_acts t.console ++ log_acts logs t.events) cut)

-- ---- a run that was cut

later_leaves : {stop : Stop} {logs : Logs} {bytes : List ℕ} {from : ℕ} {m : MachineState} {n : ℕ} {front : List Act}
    → RunLeaves stop logs bytes from m n front → RunLeaves stop logs bytes from m (suc n) front
later_leaves leaves =
    let before = leaves.within in
    record {
      k = leaves.k;
      within = omega (arith, before);
      goes = leaves.goes;
      left = leaves.left;
      front_is = leaves.front_is;
      of_turn = leaves.of_turn;
    }

-- the cut lies in the turns before, or in the last
next_leaves : (stop : Stop) (logs : Logs) (bytes : List ℕ) (from : ℕ) (m : MachineState) (n : ℕ) (front : List Act)
    → (run logs bytes m n).last ≡ Goes
    → (IsCut stop from (run logs bytes m n).acts front → RunLeaves stop logs bytes from m n front)
    → CutOfTwo stop from (run logs bytes m n).acts
    (turn_acts logs (run logs bytes m n).machine (turn_on bytes (run logs bytes m n).machine)) front
    → RunLeaves stop logs bytes from m (suc n) front
next_leaves stop logs bytes from m n front goes before (sooner cut) = later_leaves (before cut)
next_leaves stop logs bytes from m n front goes before (later left is cut) = record {
  k = n;
  within = omega arith;
  goes = goes;
  left = left;
  front_is = is;
  of_turn = turn_cut logs _ _ _ left cut;
}

run_by : (stop : Stop) (logs : Logs) (bytes : List ℕ) (from : ℕ) (m : MachineState) (n : ℕ) (front : List Act)
    (end : TurnEnd) → (run logs bytes m n).last ≡ end
    → (IsCut stop from (run logs bytes m n).acts front → RunLeaves stop logs bytes from m n front)
    → IsCut stop from (goes_on logs bytes (run logs bytes m n) end).acts front
    → RunLeaves stop logs bytes from m (suc n) front
run_by stop logs bytes from m n front Goes is before cut =
    next_leaves stop logs bytes from m n front is before (cut_of_two (run logs bytes m n).acts _ cut)
run_by stop logs bytes from m n front (Ended code) is before cut = later_leaves (before cut)
run_by stop logs bytes from m n front (BadHost word) is before cut = later_leaves (before cut)

pub cut_in_turn : (stop : Stop) (logs : Logs) (bytes : List ℕ) (from : ℕ) (m : MachineState) (n : ℕ) (front : List Act)
    → IsCut stop from (run logs bytes m n).acts front → RunLeaves stop logs bytes from m n front
unfolding run
cut_in_turn stop logs bytes from m zero front cut = none_cut cut
cut_in_turn stop logs bytes from m (suc n) front cut =
    run_by stop logs bytes from m n front (run logs bytes m n).last refl (cut_in_turn stop logs bytes from m n front) cut
