-- A run that its input cut: how many bytes its turns took, and of how many turns that is told.
use Rattle.std.proofs.Common.{◌≡◌, ℕ, zero, suc, ◌+◌, ◌-◌, ◌≤◌, ◌<◌, Bool, true, false, if◌then◌else◌, List, [], ◌∷◌, ◌++◌, Option, Some, None, refl, ap, ◌∙◌, arith}
use Rattle.board_bus.specs.Board.{BoardState}
use Rattle.hart_turns.specs.declared.machine.TurnEnd.{TurnEnd}
use Rattle.hart_turns.specs.declared.machine.TurnEnd.TheVariants.{Goes, Ended, BadHost}
use Rattle.hart_turns.specs.Machine.{MachineState}
use Rattle.hart_turns.specs.Turn.{Progress, Turned, begins, closed, end_of, looked_after, taken_after, turned, window_after}
use Rattle.outside_acts.specs.declared.Stop.TheVariants.{Input}
use Rattle.outside_acts.specs.Acts.{Act, ReadTo, read}
use Rattle.outside_acts.proofs.Algebra.{read_joined, read_none}
use Rattle.job_words.specs.Job.{Logs}
use Rattle.turn_runs.specs.Leaves.{InputCutsAreLeast, InputLeaves, LeavesUnread, RunLeaves}
use Rattle.turn_runs.specs.Run.{Ran, goes_on, run, turn_acts, turn_on}
use Rattle.turn_runs.proofs.Leaving.{cut_in_turn}
use Rattle.turn_runs.proofs.OneTurn.{shown_unread}

-- ---- a turn takes none or one

record TakesFew (before after : ℕ) : Type 0 where
  least : before ≤ after
  most : after ≤ before + 1

takes_none : (n : ℕ) → TakesFew n n
takes_none n = record { least = omega arith; most = omega arith }

by_room : (room : Bool) (n : ℕ) → TakesFew n (if room then n + 1 else n)
by_room true n = record { least = omega arith; most = omega arith }
by_room false n = takes_none n

offered_few : (offered : Option ℕ) (b : BoardState) (n : ℕ) → TakesFew n (taken_after offered b n)
offered_few None b n = takes_none n
offered_few (Some byte) b n = by_room _ n

closed_few : (m : MachineState) (offered : Option ℕ) (p : Progress) (end : TurnEnd)
    → TakesFew m.taken (closed m offered p end).taken
closed_few m offered p Goes = offered_few offered p.board m.taken
closed_few m offered p (Ended code) = takes_none m.taken
closed_few m offered p (BadHost word) = takes_none m.taken

turn_few : (m : MachineState) (offered : Option ℕ) → TakesFew m.taken (turned m offered).machine.taken
unfolding turned
turn_few m offered =
    closed_few m offered (looked_after m.shape.harts m.shape.slice m.shape.tohost (begins m)) (end_of (window_after m.shape.harts m.shape.slice m.shape.tohost (begins m)))

-- ---- what a run took never gets less

more_few : (logs : Logs) (bytes : List ℕ) (ran : Ran) (end : TurnEnd)
    → TakesFew ran.machine.taken (goes_on logs bytes ran end).machine.taken
more_few logs bytes ran Goes = turn_few ran.machine _
more_few logs bytes ran (Ended code) = takes_none ran.machine.taken
more_few logs bytes ran (BadHost word) = takes_none ran.machine.taken

next_few : (logs : Logs) (bytes : List ℕ) (m : MachineState) (k : ℕ)
    → (run logs bytes m k).machine.taken ≤ (run logs bytes m (suc k)).machine.taken
unfolding run
next_few logs bytes m k = (more_few logs bytes (run logs bytes m k) (run logs bytes m k).last).least

taken_on : (logs : Logs) (bytes : List ℕ) (m : MachineState) (j d i : ℕ) → i ≡ d + j
    → (run logs bytes m j).machine.taken ≤ (run logs bytes m i).machine.taken
taken_on logs bytes m j zero i is =
    let same : (run logs bytes m i).machine.taken ≡ (run logs bytes m j).machine.taken =
    ap (λ (n : ℕ). (run logs bytes m n).machine.taken) (is ∙ omega arith) in
    omega (arith, same)
taken_on logs bytes m j (suc d) i is =
    let same : (run logs bytes m i).machine.taken ≡ (run logs bytes m (suc (d + j))).machine.taken =
    ap (λ (n : ℕ). (run logs bytes m n).machine.taken) (is ∙ omega arith) in
    let before = taken_on logs bytes m j d (d + j) refl in
    let next = next_few logs bytes m (d + j) in
    omega (arith, same, before, next)

taken_grows : (logs : Logs) (bytes : List ℕ) (m : MachineState) (j n : ℕ) → j ≤ n
    → (run logs bytes m j).machine.taken ≤ (run logs bytes m n).machine.taken
taken_grows logs bytes m j n within = taken_on logs bytes m j (n - j) n (omega arith)

-- ---- the last turn before an input that failed took its byte

-- the bytes read are those taken after the run, and fewer were taken after fewer turns
record IsLeast (logs : Logs) (bytes : List ℕ) (m : MachineState) (k taken place : ℕ) : Type 0 where
  place_is : place ≡ taken
  least : (j : ℕ) → j < k → (run logs bytes m j).machine.taken < taken

turn_read : (logs : Logs) (from : ℕ) (m : MachineState) (t : Turned) → read (turn_acts logs m t) from ≡ m.taken + 1
unfolding read
turn_read logs from m t = shown_unread logs t (m.taken + 1)

took_last : (logs : Logs) (bytes : List ℕ) (from place : ℕ) (m : MachineState) (n : ℕ)
    → read ((run logs bytes m n).acts ++ turn_acts logs (run logs bytes m n).machine (turn_on bytes (run logs bytes m n).machine)) from ≤ place
    → place < (turn_on bytes (run logs bytes m n).machine).machine.taken + 1
    → IsLeast logs bytes m (suc n) (turn_on bytes (run logs bytes m n).machine).machine.taken place
took_last logs bytes from place m n after before =
    let ran : Ran = run logs bytes m n in
    let few = turn_few ran.machine _ in
    let most : (turn_on bytes ran.machine).machine.taken ≤ ran.machine.taken + 1 = few.most in
    let were = read_joined ran.acts (turn_acts logs ran.machine (turn_on bytes ran.machine)) from
    ∙ turn_read logs (read ran.acts from) ran.machine (turn_on bytes ran.machine) in
    record {
      place_is = omega (arith, after, before, were, most);
      least = λ j within.
          let grows = taken_grows logs bytes m j n (omega arith) in
          omega (arith, grows, after, before, were);
    }

least_by : (logs : Logs) (bytes : List ℕ) (from place : ℕ) (m : MachineState) (n : ℕ) (end : TurnEnd)
    → (run logs bytes m n).last ≡ end → (goes_on logs bytes (run logs bytes m n) end).last ≡ Goes
    → read (goes_on logs bytes (run logs bytes m n) end).acts from ≤ place
    → place < (goes_on logs bytes (run logs bytes m n) end).machine.taken + 1
    → IsLeast logs bytes m (suc n) (goes_on logs bytes (run logs bytes m n) end).machine.taken place
least_by logs bytes from place m n Goes is goes after before = took_last logs bytes from place m n after before
least_by logs bytes from place m n (Ended code) is goes after before = cc
least_by logs bytes from place m n (BadHost word) is goes after before = cc

least_after : (logs : Logs) (bytes : List ℕ) (from place : ℕ) (m : MachineState) (k : ℕ) → m.taken ≤ from
    → (run logs bytes m k).last ≡ Goes → read (run logs bytes m k).acts from ≤ place
    → place < (run logs bytes m k).machine.taken + 1
    → IsLeast logs bytes m k (run logs bytes m k).machine.taken place
unfolding run
least_after logs bytes from place m zero read_all goes after before =
    let none = read_none from in
    record { place_is = omega (arith, none, after, before); least = λ j within. absurd (omega arith) }
least_after logs bytes from place m (suc n) read_all goes after before =
    least_by logs bytes from place m n (run logs bytes m n).last refl goes after before

-- ---- so a cut by the input is the least

unread_leaves : (logs : Logs) (bytes : List ℕ) (from : ℕ) (m : MachineState) (turns : ℕ) (front : List Act)
    → m.taken ≤ from → (leaves : RunLeaves Input logs bytes from m turns front)
    → LeavesUnread (read (run logs bytes m leaves.k).acts from) (run logs bytes m leaves.k).machine leaves.left
    → InputLeaves logs bytes m turns front
unread_leaves logs bytes from m turns front read_all leaves (place, after, before, is) =
    let known = least_after logs bytes from place m leaves.k read_all leaves.goes after before in
    record {
      k = leaves.k;
      within = leaves.within;
      goes = leaves.goes;
      front_is = leaves.front_is
          ∙ ap (λ (zs : List Act). (run logs bytes m leaves.k).acts ++ zs)
          (is ∙ ap (λ (n : ℕ). ReadTo n ∷ []) known.place_is);
      least = known.least;
    }

pub input_cuts_are_least : InputCutsAreLeast
input_cuts_are_least logs bytes from m turns front read_all cut =
    let leaves = cut_in_turn Input logs bytes from m turns front cut in
    unread_leaves logs bytes from m turns front read_all leaves leaves.of_turn
