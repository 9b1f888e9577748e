-- A run that is taken up: what the boot sent, and then the bytes that are passed over.
use Rattle.std.proofs.Common.{◌≡◌, ℕ, List, [], ◌∷◌, drop, Some, sym, ap, subst, ◌∙◌}
use Rattle.outside_acts.specs.declared.Stop.{Stop}
use Rattle.outside_acts.specs.Acts.{Send, Did, DidCut, read}
use Rattle.outside_acts.specs.Calls.{Does, Stops}
use Rattle.outside_acts.specs.World.{World}
use Rattle.outside_acts.proofs.Algebra.{did_both, did_cut_later, did_cut_sooner, read_joined, read_none, read_one}
use Rattle.turn_runs.specs.declared.feed.Feed.{Feed}
use Rattle.turn_runs.specs.Feeding.{HasPassed, IsFedFrom, pass_acts}
use Rattle.turn_runs.specs.Resuming.{HasResumed, resume_acts}
use Rattle.turn_runs.specs.Run.{send_acts}

-- sending reads nothing
send_unread : (console : List ℕ) (from : ℕ) → read (send_acts console) from ≡ from
send_unread [] from = read_none from
send_unread (byte ∷ bytes) from = read_one (Send (byte ∷ bytes)) from

-- so the input stands where it stood
still_first : {bytes : List ℕ} {a b : World} (console : List ℕ) → a.left ≡ Some bytes → Does (send_acts console) a b → b.left ≡ Some bytes
still_first {bytes} console left sent =
    (sent bytes 0 left).left_is ∙ ap (λ (n : ℕ). Some (drop n bytes)) (send_unread console 0)

pub resumed : {bytes : List ℕ} {feed : Feed} {a b c : World} (console : List ℕ) (taken : ℕ) → a.left ≡ Some bytes → Does (send_acts console) a b
    → ((input : List ℕ) → b.left ≡ Some input → HasPassed input taken feed b c) → HasResumed bytes console taken feed a c
resumed {bytes} {feed} {a} {b} {c} console taken left sent passes =
    let passed = passes bytes (still_first console left sent) in
    let place : read (resume_acts console taken) 0 ≡ read (pass_acts taken) 0 =
    read_joined (send_acts console) (pass_acts taken) 0 ∙ ap (read (pass_acts taken)) (send_unread console 0) in
    record {
      fed = subst (λ (n : ℕ). IsFedFrom bytes taken n feed c.left) (sym place) passed.fed;
      ended = passed.ended;
      did = did_both (sent bytes 0 left) (subst (λ (n : ℕ). Did bytes n (pass_acts taken) b c) (sym (send_unread console 0)) passed.did);
    }

pub unsent : {stop : Stop} {bytes : List ℕ} {a b : World} (console : List ℕ) (taken : ℕ) → a.left ≡ Some bytes → Stops stop (send_acts console) a b
    → DidCut stop bytes 0 (resume_acts console taken) a b
unsent {stop} {bytes} console taken left cut = did_cut_sooner (pass_acts taken) (cut bytes 0 left)

pub unpassed : {stop : Stop} {bytes : List ℕ} {a b c : World} (console : List ℕ) (taken : ℕ) → a.left ≡ Some bytes → Does (send_acts console) a b
    → ((input : List ℕ) → b.left ≡ Some input → DidCut stop input 0 (pass_acts taken) b c) → DidCut stop bytes 0 (resume_acts console taken) a c
unpassed {stop} {bytes} {a} {b} {c} console taken left sent cuts =
    did_cut_later (sent bytes 0 left)
    (subst (λ (n : ℕ). DidCut stop bytes n (pass_acts taken) b c) (sym (send_unread console 0)) (cuts bytes (still_first console left sent)))
